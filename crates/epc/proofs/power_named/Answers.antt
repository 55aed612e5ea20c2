-- A Count that names one condition enters it; else the power that the drive has is entered, which keeps the drive.
use Rattle.drive.proofs.Kept.{entered_kept}
use Rattle.epc.proofs.power_named.Goals as goal

pub returns-in-Every : goal.returns-in-Every
returns-in-Every c = λ d e. rw (c.in-Every.is, ← e) (entered_kept d)

pub returns-in-Unlisted : goal.returns-in-Unlisted
returns-in-Unlisted c = λ d e. rw (c.in-Unlisted.is, ← e) (entered_kept d)
