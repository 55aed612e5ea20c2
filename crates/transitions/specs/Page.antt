-- Document 02, request (i): the Power Condition Transitions log page, 1Ah (SPC-4), from the table of counts.
use Rattle.std.specs.Prelude.{List, [], ◌∷◌, ◌++◌, ℕ, ◌+◌, ◌/◌, ◌%◌}
use Rattle.conditions.specs.Conditions.{place_of}
use Rattle.conditions.specs.declared.Condition.{Condition}
use Rattle.conditions.specs.declared.Condition.TheVariants.{IdleA, IdleB, IdleC, StandbyY, StandbyZ}
use Rattle.transitions.specs.Counts.{held_full, cell}

-- "the page shows each row's sum, cut at the top."
abbrev pub row_sum : ℕ → List (List ℕ) → ℕ
row_sum row t = held_full (cell row 0 t + cell row 1 t)

-- A number of 32 bits, "high byte first".
abbrev pub high_first : ℕ → List ℕ
high_first n = (n / 256 / 256 / 256 % 256) ∷ (n / 256 / 256 % 256) ∷ (n / 256 % 256) ∷ (n % 256) ∷ []

-- A parameter: its code, high byte first too, "control byte 03h and length 4", and its count.
unfoldable pub parameter_bytes : ℕ → ℕ → List ℕ
parameter_bytes code n = (code / 256 % 256) ∷ (code % 256) ∷ 0x03 ∷ 4 ∷ high_first n

-- "Parameters, in order: 0001h Active, 0002h Idle_A, 0003h Idle_B, 0004h Idle_C, 0008h Standby_z, 0009h Standby_y": each a code and the row that it shows.
pub record Parameter : Type 0 where
  pub code : ℕ
  pub row : ℕ

-- A row is a depth: 0 for Active, and one more than its place for a condition.
abbrev pub of_active : ℕ → Parameter
of_active code = record { code = code; row = 0 }

abbrev pub of_condition : ℕ → Condition → Parameter
of_condition code c = record { code = code; row = place_of c + 1 }

abbrev pub parameters : List Parameter
parameters =
    of_active 0x0001
    ∷ of_condition 0x0002 IdleA
    ∷ of_condition 0x0003 IdleB
    ∷ of_condition 0x0004 IdleC
    ∷ of_condition 0x0008 StandbyZ
    ∷ of_condition 0x0009 StandbyY
    ∷ []

abbrev pub shown_by : List Parameter → List (List ℕ) → List ℕ
shown_by [] t = []
shown_by (p ∷ ps) t = parameter_bytes p.code (row_sum p.row t) ++ shown_by ps t

-- "the page header is 1A 00 00 30".
abbrev pub page_header : List ℕ
page_header = 0x1A ∷ 0x00 ∷ 0x00 ∷ 0x30 ∷ []

unfoldable pub transition_bytes : List (List ℕ) → List ℕ
transition_bytes t = page_header ++ shown_by parameters t
