-- The transition counts, told by the history alone (document 02, request (i)). What an entry is looks at the condition before and after a call and at
-- the kind of the call; the counts of the record stand only in the statements, on the other side.
use Rattle.std.specs.Prelude.{Bool, not, ◌&&◌, cond, ◌≡◌, List, [], ◌∷◌, ℕ, ◌+◌, ◌<◌, ◌≤◌, eqb}
use Rattle.conditions.specs.Conditions.{depth}
use Rattle.conditions.specs.declared.Power.{Power}
use Rattle.transitions.specs.Counts.{full, held_full, cell}
use Rattle.transitions.specs.Page.{row_sum}
use Rattle.drive.specs.declared.Edition.{Edition}
use Rattle.drive.specs.declared.Made.{Made}
use Rattle.engine.specs.Engine.{manufacture_outcome}
use Rattle.readouts.specs.Readouts.{counts_handed}
use Rattle.unit.specs.declared.Unit.{Unit}
use Rattle.calls.specs.Calls.{Call, StepFunction, Event, run_by, history_by}
use Rattle.calls.specs.Described.{is_tick}

-- ---- an entry

-- "condition changes in the history": the condition after the call is another than before it, whatever the causes.
abbrev pub is_change : Power → Power → Bool
is_change before after = not (eqb (depth before) (depth after))

-- "six rows of two (timer, command or use)": only a tick enters by a timer.
abbrev pub column_of_call : Call → ℕ
column_of_call c = cond (is_tick c) 0 1

-- The call enters the condition of this row, in this column. A condition's row is its depth: Active 0, Idle_A 1, to Standby_z 5.
abbrev pub is_entry : ℕ → ℕ → Power → Call → Power → Bool
is_entry row column before c after = is_change before after && (eqb (depth after) row && eqb (column_of_call c) column)

-- ---- how often

-- How many calls of a history pass a test on the condition before, the call, and the condition after it.
abbrev pub how_often : (Power → Call → Power → Bool) → Power → List Event → ℕ
how_often test before [] = 0
how_often test before (e ∷ es) =
    let after = e.came.unit.drive.power in
    cond (test before e.call after) 1 0 + how_often test after es

abbrev pub cell_entries : ℕ → ℕ → Power → List Event → ℕ
cell_entries row column = how_often (is_entry row column)

-- Entries of a condition, in whichever column.
abbrev pub entries_into : ℕ → Power → List Event → ℕ
entries_into row = how_often (λ before c after. is_change before after && eqb (depth after) row)

-- "the number of condition changes".
abbrev pub changes_in : Power → List Event → ℕ
changes_in = how_often (λ before c after. is_change before after)

-- ---- the statements

-- Over any run from manufacture each cell is the number of entries of its row and column in the history, "staying at the top once there".
abbrev pub CountsTell : StepFunction → Type 0
CountsTell by = (ed : Edition) (ms : List Made) (cs : List Call) (row column : ℕ) → row < 6 → column < 2
    → let u = (manufacture_outcome ed ms).unit in
    cell row column (counts_handed (run_by by u cs)) ≡ held_full (cell_entries row column u.drive.power (history_by by u cs))

-- From any record with counts of 32 bits each cell goes on from what it was.
abbrev pub CountsGoOn : StepFunction → Type 0
CountsGoOn by = (u : Unit) (cs : List Call) (row column : ℕ) → row < 6 → column < 2
    → let before = cell row column (counts_handed u) in
    before ≤ full → cell row column (counts_handed (run_by by u cs)) ≡ held_full (before + cell_entries row column u.drive.power (history_by by u cs))

-- "the page shows each row's sum, cut at the top": so what it shows of a row is how often that condition was entered, full cells or not.
abbrev pub PageTells : StepFunction → Type 0
PageTells by = (ed : Edition) (ms : List Made) (cs : List Call) (row : ℕ) → row < 6
    → let u = (manufacture_outcome ed ms).unit in
    row_sum row (counts_handed (run_by by u cs)) ≡ held_full (entries_into row u.drive.power (history_by by u cs))

-- "While no cell is full the cells' total equals the number of condition changes in the history since manufacture".
abbrev pub sum_of_row : List ℕ → ℕ
sum_of_row [] = 0
sum_of_row (n ∷ ns) = n + sum_of_row ns

abbrev pub total : List (List ℕ) → ℕ
total [] = 0
total (row ∷ rows) = sum_of_row row + total rows

abbrev pub NoneFull : List (List ℕ) → Type 0
NoneFull t = (row column : ℕ) → row < 6 → column < 2 → cell row column t < full

abbrev pub TotalTells : StepFunction → Type 0
TotalTells by = (ed : Edition) (ms : List Made) (cs : List Call)
    → let u = (manufacture_outcome ed ms).unit in
    NoneFull (counts_handed (run_by by u cs)) → total (counts_handed (run_by by u cs)) ≡ changes_in u.drive.power (history_by by u cs)
