-- The cells stand in their order.
use mathlib.Core.Path.{refl}
use Rattle.transitions.specs.Counts.{flat_of}
use Rattle.transitions.proofs.flat_of.Goals as goal

pub returns : goal.returns
unfolding flat_of
returns c = refl
