-- The records' test and the idle count's bound.
use Rattle.drive.specs.Records.{drive_well_formed}
use Rattle.drive.proofs.drive_ok.Goals as goal

pub returns : goal.returns
unfolding drive_well_formed
returns c = rw c.records_ok.ensures
