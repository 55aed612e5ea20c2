-- The number, the word and, where some are not listed, that it is so.
use mathlib.Core.List.{[]}
use Rattle.digits.proofs.Digits.{put_after}
use Rattle.report.proofs.many_line.Goals as goal

pub returns : goal.returns
returns c = let number = rw c.empty.ensures at c.put_decimal.ensures in
    put_after [] _ _ (put_after [] _ _ number c.put_all-faults.ensures) c.put_either.ensures
