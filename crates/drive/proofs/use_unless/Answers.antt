-- Kept, the idle count stays and with it the drive; else it is 0, and Active is entered.
use Rattle.drive.specs.Drives.{used}
use Rattle.drive.proofs.use_unless.Goals as goal

pub returns-else-kept : goal.returns-else-kept
unfolding used
returns-else-kept c = rw (c.enter.ensures, c.with_idle-next.ensures, c.zero_unless.ensures, c.if-kept.false)
