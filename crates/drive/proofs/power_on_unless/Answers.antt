-- The saved settings are restored, then the medium counts as used; both unless the drive is kept.
use Rattle.drive.proofs.Kept.{powered_on_kept}
use Rattle.drive.proofs.power_on_unless.Goals as goal

pub returns : goal.returns
returns c = rw (c.use_unless.ensures, c.with_records.ensures, c.restore_unless.ensures)
    (powered_on_kept c.args.kept c.args.d)
