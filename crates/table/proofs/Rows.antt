-- A mark and a name have at most 11 bytes, a row's name at most 9.
use mathlib.Core.Path.{◌≡◌}
use mathlib.Core.Bool.{Bool}
use mathlib.Core.List.{◌++◌}
use Prim.Native.Nat.{ℕ, zero, suc}
use native.Mathlib.Omega.{arith}
use Rattle.conditions.specs.Conditions.{condition_at}
use Rattle.conditions.specs.declared.Condition.{Condition}
use Rattle.conditions.specs.declared.Condition.TheVariants.{IdleA, IdleB, IdleC, StandbyY, StandbyZ}
use Rattle.words.specs.Codes.{codes}
use Rattle.digits.specs.Texts.{cut}
use Rattle.digits.proofs.Digits.{cut_short}
use Rattle.digits.proofs.Lengths.{Within, whole, looser, ◌then◌, either}
use Rattle.table.specs.Counts.{row_name}
use Rattle.table.specs.Rows.{mark_text, name_text}

pub mark : (present : Bool) → Within (mark_text present) 2
mark present = either present (whole (codes "> ")) (whole (codes "  "))

pub name : (c : Condition) → Within (name_text c) 9
name IdleA = looser (omega arith) (whole (name_text IdleA))
name IdleB = looser (omega arith) (whole (name_text IdleB))
name IdleC = looser (omega arith) (whole (name_text IdleC))
name StandbyY = whole (name_text StandbyY)
name StandbyZ = whole (name_text StandbyZ)

pub label : (present : Bool) (c : Condition) → Within (mark_text present ++ name_text c) 11
label present c = mark present then name c

pub label_whole : (present : Bool) (c : Condition) → cut (mark_text present ++ name_text c) ≡ mark_text present ++ name_text c
label_whole present c = cut_short (mark_text present ++ name_text c) (omega (arith, (label present c).bound))

-- ---- the rows of counts

pub row_name_lem : (row : ℕ) → Within (row_name row) 9
row_name_lem zero = looser (omega arith) (whole (codes "Active"))
row_name_lem (suc place) = name (condition_at place)

pub row_name_whole : (row : ℕ) → cut (row_name row) ≡ row_name row
row_name_whole row = cut_short (row_name row) (omega (arith, (row_name_lem row).bound))
