-- The records are made; Active, idle count 0.
use Rattle.drive.specs.Drives.{made}
use Rattle.drive.proofs.manufacture.Goals as goal

pub returns : goal.returns
unfolding made
returns c = rw c.made_records.ensures
