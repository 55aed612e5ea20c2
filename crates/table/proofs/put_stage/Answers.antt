-- The words, and the count behind them.
use Rattle.digits.proofs.Digits.{cut_more}
use Rattle.table.proofs.put_stage.Goals as goal

pub returns-in-Flushing : goal.returns-in-Flushing
returns-in-Flushing c = rw (c.put_decimal.ensures, c.put_all-in-Flushing.ensures, cut_more, c.in-Flushing.is)
