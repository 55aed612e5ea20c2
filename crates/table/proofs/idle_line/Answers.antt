-- The words and the seconds, one after another.
use mathlib.Core.List.{[]}
use Rattle.digits.proofs.Digits.{put_after}
use Rattle.table.proofs.idle_line.Goals as goal

pub returns : goal.returns
returns c = put_after [] _ _ (put_after [] _ _ c.of.ensures c.put_tenths.ensures) c.put_all.ensures
