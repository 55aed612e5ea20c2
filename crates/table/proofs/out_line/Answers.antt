-- The words, and the number behind them.
use Rattle.digits.proofs.Digits.{cut_once}
use Rattle.table.proofs.out_line.Goals as goal

pub returns-in-Some : goal.returns-in-Some
returns-in-Some c = rw (c.put_decimal.ensures, c.of-in-Some.ensures, cut_once, c.in-Some.is)
