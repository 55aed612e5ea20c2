-- The three tests, each a callee's word.
use Rattle.unit.specs.Units.{well_formed}
use Rattle.unit.proofs.unit_ok.Goals as goal

pub returns : goal.returns
unfolding well_formed
returns c = rw (c.out_ok.ensures, c.hosts_ok.ensures, c.drive_ok.ensures, c.largest_of.ensures)
