-- The five conditions and their places 0 to 4 go one to one. What is said of a place is so said of a condition, and the other way round.
use mathlib.Core.Path.{◌≡◌, refl}
use Prim.Native.Nat.{ℕ, ◌<◌}
use native.Mathlib.Omega.{arith}
use lib.Dec.{eqb}
use borrow.Author.Tests.{eqb-true}
use Rattle.rows.proofs.Places.{every_at_lem}
use Rattle.conditions.specs.declared.Condition.{Condition}
use Rattle.conditions.specs.declared.Condition.TheVariants.{IdleA, IdleB, IdleC, StandbyY, StandbyZ}
use Rattle.conditions.specs.declared.Power.{Power}
use Rattle.conditions.specs.declared.Power.TheVariants.{Active, Low}
use Rattle.conditions.specs.Conditions.{falling, place_of, condition_at, depth}

-- Every condition has a place below 5.
pub place_below : (c : Condition) → place_of c < 5
place_below IdleA = omega arith
place_below IdleB = omega arith
place_below IdleC = omega arith
place_below StandbyY = omega arith
place_below StandbyZ = omega arith

-- So every depth is below 6.
pub depth_below : (p : Power) → depth p < 6
depth_below Active = omega arith
depth_below (Low c why) = omega (arith, place_below c)

-- At a condition's place stands that condition.
pub at_place : (c : Condition) → condition_at (place_of c) ≡ c
at_place IdleA = refl
at_place IdleB = refl
at_place IdleC = refl
at_place StandbyY = refl
at_place StandbyZ = refl

-- The condition at a place has that place.
pub place_at : (i : ℕ) → i < 5 → place_of (condition_at i) ≡ i
place_at i h = eqb-true _ _ (every_at_lem (λ place c. eqb (place_of c) place) falling IdleA refl i h)
