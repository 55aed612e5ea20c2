-- The words and the sense, one after another.
use Rattle.digits.specs.Texts.{said}
use Rattle.digits.proofs.Digits.{put_after}
use Rattle.table.proofs.put_sense_held.Goals as goal

pub returns : goal.returns
returns c = let start = said c.args.t in put_after start _ _ (put_after start _ _ c.put_all.ensures c.put_sense-sense.ensures) c.put_all-2.ensures
