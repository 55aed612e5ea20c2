-- It says none of its bytes.
use mathlib.Core.Path.{refl}
use Rattle.digits.specs.Texts.{said}
use Rattle.digits.proofs.Text.empty.Goals as goal

pub returns : goal.returns
unfolding said
returns c = refl
