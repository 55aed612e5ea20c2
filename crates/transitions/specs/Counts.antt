-- Document 02, request (i): how often the drive went into each condition. "Internally the counts are kept by cause, a table of six rows of two (timer,
-- command or use), handed over by value"; document 01 has it "kept flat inside the record".
use Rattle.std.specs.Prelude.{cond, List, [], ◌∷◌, ℕ, ◌+◌, eqb, ltb, get_or, set}
use Rattle.conditions.specs.Conditions.{depth}
use Rattle.conditions.specs.declared.Cause.{Cause}
use Rattle.conditions.specs.declared.Cause.TheVariants.{Timer, Command}
use Rattle.conditions.specs.declared.Power.{Power}
use Rattle.conditions.specs.declared.Power.TheVariants.{Active, Low}

-- ---- a count

-- "32 bits, staying at the top once there".
abbrev pub full : ℕ
full = 0xFFFFFFFF

abbrev pub held_full : ℕ → ℕ
held_full n = cond (ltb n full) n full

abbrev pub one_entry : ℕ → ℕ
one_entry n = cond (ltb n full) (n + 1) n

-- ---- the table

-- "entries into Active and each of the five conditions": a condition's row is its depth, so Active has row 0, Idle_A row 1, Standby_z row 5.
-- "timer, command or use": what a timer enters has the first column, what a command or the use of the medium enters the second. No timer enters Active,
-- and "a power-on change to Active counts as use".
abbrev pub column_by : Cause → ℕ
column_by Timer = 0
column_by Command = 1

abbrev pub column_of : Power → ℕ
column_of Active = 1
column_of (Low c why) = column_by why

abbrev pub cell : ℕ → ℕ → List (List ℕ) → ℕ
cell row column t = get_or (get_or t row []) column 0

-- One entry more in a cell.
unfoldable pub counted_in : ℕ → ℕ → List (List ℕ) → List (List ℕ)
counted_in row column t = set t row (set (get_or t row []) column (one_entry (cell row column t)))

-- ---- "kept flat inside the record": row by row, the two counts of a row side by side

abbrev pub pair_at : ℕ → List ℕ → List ℕ
pair_at at counts = get_or counts at 0 ∷ get_or counts (at + 1) 0 ∷ []

unfoldable pub table_of : List ℕ → List (List ℕ)
table_of counts = pair_at 0 counts ∷ pair_at 2 counts ∷ pair_at 4 counts ∷ pair_at 6 counts ∷ pair_at 8 counts ∷ pair_at 10 counts ∷ []

unfoldable pub flat_of : List (List ℕ) → List ℕ
flat_of t =
    cell 0 0 t ∷ cell 0 1 t ∷ cell 1 0 t ∷ cell 1 1 t ∷ cell 2 0 t ∷ cell 2 1 t
    ∷ cell 3 0 t ∷ cell 3 1 t ∷ cell 4 0 t ∷ cell 4 1 t ∷ cell 5 0 t ∷ cell 5 1 t ∷ []

-- ---- an entry

-- The table after a condition is entered, by the power before and the power entered. "going to the condition already held counts nothing".
abbrev pub table_after : Power → Power → List (List ℕ) → List (List ℕ)
table_after before entered t = cond (eqb (depth before) (depth entered)) t (counted_in (depth entered) (column_of entered) t)

-- The flat row after it: that of the table. Where nothing is counted it stays as it is, whatever its length.
unfoldable pub counts_after : Power → Power → List ℕ → List ℕ
counts_after before entered counts =
    cond (eqb (depth before) (depth entered)) counts (flat_of (table_after before entered (table_of counts)))
