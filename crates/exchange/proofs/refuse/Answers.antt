-- All stays: entering the condition that is held counts nothing.
use Rattle.drive.proofs.Kept.{entered_kept}
use Rattle.exchange.proofs.refuse.Goals as goal

pub returns : goal.returns
returns c = let d = c.args.u.drive in λ host. rw (entered_kept d)
