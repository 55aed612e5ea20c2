-- Each pair of the flat row is a row of the table.
use mathlib.Core.Path.{refl}
use Rattle.transitions.specs.Counts.{table_of}
use Rattle.transitions.proofs.table_of.Goals as goal

pub returns : goal.returns
unfolding table_of
returns c = refl
