-- The cell is written with one more.
use Rattle.transitions.specs.Counts.{counted_in}
use Rattle.transitions.proofs.count_in.Goals as goal

pub returns : goal.returns
unfolding counted_in
returns c = rw c.one_entry.ensures
