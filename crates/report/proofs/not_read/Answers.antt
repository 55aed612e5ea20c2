-- The word, the number and its meaning, one after another.
use mathlib.Core.List.{[]}
use Rattle.digits.proofs.Digits.{put_after}
use Rattle.report.proofs.not_read.Goals as goal

pub returns : goal.returns
returns c = let told = rw c.number.ensures at c.put_decimal-number.ensures in
    put_after [] _ _ (put_after [] _ _ c.of.ensures told) c.put_all.ensures
