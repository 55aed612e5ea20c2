-- The power log for the eye: "One row a condition in falling power, columns of fixed width, decimal seconds and milliseconds with their
-- units in the head, the present condition marked". Assumes nothing.
use Rattle.std.specs.Prelude.{Bool, cond, ◌&&◌, List, ◌++◌, ℕ, zero, suc, ◌+◌, ◌-◌, eqb, leb, get_or}
use Rattle.conditions.specs.Conditions.{condition_at, depth}
use Rattle.drive.specs.Records.{unsupported}
use Rattle.conditions.specs.declared.Condition.{Condition}
use Rattle.conditions.specs.declared.Condition.TheVariants.{IdleA, IdleB, IdleC, StandbyY, StandbyZ}
use Rattle.drive.specs.declared.Drive.{Drive}
use Rattle.drive.specs.declared.Record.{Record}
use Rattle.drive.specs.declared.Setting.{Setting}
use Rattle.words.specs.Codes.{codes}
use Rattle.digits.specs.Numerals.{decimal_text, padded, right_in, tenths_text}

abbrev pub name_text : Condition → List ℕ
name_text IdleA = codes "Idle_A"
name_text IdleB = codes "Idle_B"
name_text IdleC = codes "Idle_C"
name_text StandbyY = codes "Standby_y"
name_text StandbyZ = codes "Standby_z"

abbrev pub yes_text : Bool → List ℕ
yes_text b = cond b (codes "  yes") (codes "   no")

-- Tenths of a second as seconds: 429496729.5, the largest, has 11 places.
abbrev pub seconds_text : ℕ → List ℕ
seconds_text tenths = right_in 12 (tenths_text tenths)

abbrev pub on_text : Bool → List ℕ
on_text b = cond b (codes "  on") (codes " off")

abbrev pub setting_text : Setting → List ℕ
setting_text s = on_text s.enabled ++ seconds_text s.timer.0

abbrev pub record_text : Record → List ℕ
record_text r =
    yes_text r.supported ++ yes_text r.saveable ++ yes_text r.changeable
    ++ setting_text r.default ++ setting_text r.saved ++ setting_text r.current

-- Milliseconds: 4294967295, the largest, has 10 places.
abbrev pub recovery_text : Record → List ℕ
recovery_text r = right_in 13 (decimal_text r.recovery.0)

-- A timer runs if it is enabled and names a condition below the present one: of any other, "nothing moves" when it has run out.
abbrev pub is_running : Setting → ℕ → Drive → Bool
is_running current place d = current.enabled && leb (depth d.power) place

-- Its mark, and how long until it has run out; 0.0 if the next tick will find that it has.
abbrev pub left_text : Setting → ℕ → Drive → List ℕ
left_text current place d =
    cond (is_running current place d) (codes " *" ++ seconds_text (current.timer.0 - d.idle.0)) (codes "             -")

abbrev pub mark_text : Bool → List ℕ
mark_text present = cond present (codes "> ") (codes "  ")

-- The first two columns: the mark of the present condition, and the name.
abbrev pub label_text : Bool → Condition → List ℕ
label_text present c = padded 11 (mark_text present ++ name_text c)

abbrev pub record_row : Drive → ℕ → Record → List ℕ
record_row d place r =
    label_text (eqb (depth d.power) (place + 1)) (condition_at place)
    ++ record_text r ++ left_text r.current place d ++ recovery_text r

abbrev pub active_row : Drive → List ℕ
active_row d = mark_text (eqb (depth d.power) 0) ++ codes "Active"

-- Row 0 is Active.
abbrev pub row_text : Drive → ℕ → List ℕ
row_text d zero = active_row d
row_text d (suc place) = record_row d place (get_or d.records place unsupported)
