-- The row applies or not.
use Rattle.std.proofs.Common.{Ok, Err}
use mathlib.Core.Path.{◌≡◌}
use mathlib.Core.Bool.{Bool, true, false}
use mathlib.Core.List.{[], ◌∷◌}
use Rattle.refusals.specs.Refusals.{◌gives◌, lowest}
use Rattle.refusals.specs.declared.Refusal.{Refusal}
use Rattle.refusals.proofs.refused_if.Goals as goal

given : (applies : Bool) (r : Refusal) → applies ≡ true → Err r ≡ lowest ((applies gives r) ∷ [])
unfolding lowest
given applies r e = rw e

clear : (applies : Bool) (r : Refusal) → applies ≡ false → Ok tt ≡ lowest ((applies gives r) ∷ [])
unfolding lowest
clear applies r e = rw e

pub returns-then-applies : goal.returns-then-applies
returns-then-applies c = given c.args.applies c.args.r c.if-applies.true

pub returns-else-applies : goal.returns-else-applies
returns-else-applies c = clear c.args.applies c.args.r c.if-applies.false
