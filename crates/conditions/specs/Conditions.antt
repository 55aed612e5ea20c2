-- Document 01, "Conditions and settings": the conditions and their order.
use Rattle.std.specs.Prelude.{List, [], ◌∷◌, ℕ, ◌+◌, get_or}
use Rattle.conditions.specs.declared.Condition.{Condition}
use Rattle.conditions.specs.declared.Condition.TheVariants.{IdleA, IdleB, IdleC, StandbyY, StandbyZ}
use Rattle.conditions.specs.declared.Power.{Power}
use Rattle.conditions.specs.declared.Power.TheVariants.{Active, Low}

-- "Active, then in falling power: Idle_A, Idle_B, Idle_C, Standby_y, Standby_z": the five below Active.
abbrev pub falling : List Condition
falling = IdleA ∷ IdleB ∷ IdleC ∷ StandbyY ∷ StandbyZ ∷ []

-- A condition's place in that order, and the condition at a place.
abbrev pub place_of : Condition → ℕ
place_of IdleA = 0
place_of IdleB = 1
place_of IdleC = 2
place_of StandbyY = 3
place_of StandbyZ = 4

abbrev pub condition_at : ℕ → Condition
condition_at place = get_or falling place IdleA

-- How far below Active: 0 for Active itself, 1 for Idle_A, 5 for Standby_z. One condition is below another if its depth is greater.
abbrev pub depth : Power → ℕ
depth Active = 0
depth (Low c why) = place_of c + 1
