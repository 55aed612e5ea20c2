-- Each cell counts the entries of its row and column: a call counts the entry that its record before and after show, in the column of its kind, so a run
-- counts those of its history, one call after the other.
use Rattle.std.proofs.Common.{Ok, Err}
use mathlib.Core.Path.{◌≡◌, refl, sym, ap, ap₂, ◌∙◌}
use mathlib.Core.Bool.{Bool, true, false, not, ◌&&◌, cond}
use mathlib.Core.List.{List, [], ◌∷◌}
use Prim.Native.Nat.{ℕ, ◌+◌, ◌<◌, ◌≤◌}
use native.Mathlib.Nat.{zero-add, add-zero}
use native.Mathlib.Omega.{arith}
use lib.Dec.{eqb, ltb}
use lib.ListN.{get_or, replicate}
use borrow.Author.Tests.{eqb-true, ltb-false, le-ltb}
use Rattle.rows.proofs.Places.{every_at_lem}
use Rattle.rows.proofs.Values.{values, value_in, values_same}
use Rattle.conditions.specs.Conditions.{depth}
use Rattle.conditions.specs.declared.Power.{Power}
use Rattle.conditions.specs.declared.Power.TheVariants.{Active}
use Rattle.transitions.specs.Counts.{full, held_full, one_entry, column_of, cell, table_of}
use Rattle.conditions.proofs.Conditions.{depth_below}
use Rattle.transitions.proofs.Counts.{cell_after, below_full, one_entry_below, entries_add}
use Rattle.drive.specs.Drives.{made}
use Rattle.drive.specs.declared.Edition.{Edition}
use Rattle.drive.specs.declared.Made.{Made}
use Rattle.drive.specs.declared.Record.{Record}
use Rattle.drive.proofs.Counted.{CountsAs, still_counts, entered_counts, ticked_counts, used_counts, powered_on_counts}
use Rattle.epc.proofs.Counted.{performed_counts}
use Rattle.requests.specs.declared.Target.{Target}
use Rattle.requests.specs.declared.Target.TheVariants.{Stop, Start, GoTo}
use Rattle.operations.specs.Operations.{reached}
use Rattle.refusals.specs.Refusals.{lowest}
use Rattle.refusals.specs.Verdicts.{rows_of_record}
use Rattle.unit.specs.Units.{well_formed, largest_of, made_unit, blank}
use Rattle.unit.specs.declared.Unit.{Unit}
use Rattle.outcomes.specs.Settled.{settled}
use Rattle.engine.specs.Engine.{manufacture_outcome}
use Rattle.readouts.specs.Readouts.{counts_handed}
use Rattle.calls.specs.Calls.{Call, Event, outcome, step, run, history}
use Rattle.calls.specs.Described.{is_tick}
use Rattle.calls.proofs.Steps.{after_every}
use Rattle.runs.specs.Entries.{is_change, column_of_call, is_entry, cell_entries, entries_into, changes_in, total, CountsTell, CountsGoOn, PageTells, TotalTells}
use Rattle.refusals.specs.Refusals.{Verdict}

-- ---- one call

-- What a good last command enters has the second column.
reached_column : (rs : List Record) (t : Target) → column_of (reached rs t) ≡ 1
reached_column rs Stop = refl
reached_column rs Start = refl
reached_column rs (GoTo c) = refl

-- Every call counts the entry that it makes, in the column of its kind.
pub call_counts : (u : Unit) (c : Call) → CountsAs (column_of_call c) u.drive (step u c).drive
call_counts u = after_every (λ c v. CountsAs (column_of_call c) u.drive v.drive) u (record {
  none = λ c. still_counts (column_of_call c) u.drive u.drive refl refl;
  aborts = λ q. still_counts 1 u.drive _ refl refl;
  epc = λ q clear. performed_counts q u.drive;
  ticks = λ out. ticked_counts (largest_of u) u.drive;
  reads = λ host. used_counts u.drive;
  writes = λ host. used_counts u.drive;
  powers_on = powered_on_counts u.drive;
  resets_hard = still_counts 1 u.drive _ refl refl;
  resets_soft = still_counts 1 u.drive _ refl refl;
  accepts = λ host cdb t clear wants. still_counts 1 u.drive _ refl refl;
  sends = λ host clear. still_counts 1 u.drive _ refl refl;
  flushes = λ host reply q waits flush. entered_counts Active 0 u.drive refl;
  fails = λ host reply. entered_counts Active 0 u.drive refl;
  defers = λ host reply f. entered_counts Active 0 u.drive refl;
  succeeds = λ host reply q waits. entered_counts (reached u.drive.records q.target) 0 u.drive (reached_column u.drive.records q.target);
  tells = λ host buffer. still_counts 1 u.drive _ refl refl;
})

-- A cell after a call: one more if the call is an entry of its row and column.
cell_step : (u : Unit) (c : Call) (row column : ℕ) → row < 6 → column < 2
    → let n = cell row column (counts_handed u) in
    cell row column (counts_handed (step u c)) ≡ cond (is_entry row column u.drive.power c (step u c).drive.power) (one_entry n) n
cell_step u c row column h k =
    ap (λ (l : List ℕ). cell row column (table_of l)) did.counts
    ∙ cell_after u.drive.power (step u c).drive.power u.drive.counts row column h k
    ∙ ap (λ (b : Bool). cond b (one_entry n) n) (sides (eqb (depth u.drive.power) (depth (step u c).drive.power)) refl)
  where
    n : ℕ
    n = cell row column (counts_handed u)

    did : CountsAs (column_of_call c) u.drive (step u c).drive
    did = call_counts u c

    sides : (b : Bool) → eqb (depth u.drive.power) (depth (step u c).drive.power) ≡ b
        → (not b && (eqb (depth (step u c).drive.power) row && eqb (column_of (step u c).drive.power) column))
        ≡ (not b && (eqb (depth (step u c).drive.power) row && eqb (column_of_call c) column))
    sides true e = refl
    sides false e = rw (did.column e)

-- ---- a run

-- A cell that an entry raises or leaves now, and k entries later.
goes_on_lem : (b : Bool) (n m k end : ℕ) → n ≤ full → m ≡ cond b (one_entry n) n → (m ≤ full → end ≡ held_full (m + k)) → end ≡ held_full (n + (cond b 1 0 + k))
goes_on_lem true n m k end below e later = later (rw e (one_entry_below n below)) ∙ ap (λ (x : ℕ). held_full (x + k)) e ∙ entries_add n k below
goes_on_lem false n m k end below e later = later (rw e below) ∙ ap (λ (x : ℕ). held_full (x + k)) e ∙ ap (λ (x : ℕ). held_full (n + x)) (sym (zero-add k))

-- Each cell goes on from what it was.
pub counts_go_on : CountsGoOn outcome
counts_go_on u [] row column h k below = sym (below_full _ below) ∙ ap held_full (sym (add-zero (cell row column (counts_handed u))))
counts_go_on u (c ∷ cs) row column h k below =
    goes_on_lem (is_entry row column u.drive.power c (step u c).drive.power) (cell row column (counts_handed u)) (cell row column (counts_handed (step u c)))
    (cell_entries row column (step u c).drive.power (history (step u c) cs)) _ below (cell_step u c row column h k) (counts_go_on (step u c) cs row column h k)

-- ---- from manufacture

-- A new unit has counted nothing.
new_counts : (ed : Edition) (ms : List Made) (row column : ℕ) → row < 6 → column < 2 → cell row column (counts_handed (manufacture_outcome ed ms).unit) ≡ 0
unfolding manufacture_outcome made table_of
new_counts ed ms row column h k = on (lowest (rows_of_record (well_formed (made_unit ed ms))))
  where
    zeros : ◌≡◌ {A = ℕ} (get_or (get_or (replicate 6 (replicate 2 0)) row []) column 0) 0
    zeros = ap (λ (l : List ℕ). get_or l column 0) (value_in (λ i. replicate 2 0) 6 row [] [] h) ∙ value_in (λ j. 0) 2 column [] 0 k

    on : (v : Verdict) → cell row column (counts_handed (settled (blank ed) (made_unit ed ms) v).unit) ≡ 0
    on (Ok _) = zeros
    on (Err r) = zeros

-- Each cell is the number of entries of its row and column, held at the top.
pub counts_tell : CountsTell outcome
counts_tell ed ms cs row column h k =
    let u = (manufacture_outcome ed ms).unit in
    let none = new_counts ed ms row column h k in
    counts_go_on u cs row column h k (rw none (omega arith))
    ∙ ap (λ (n : ℕ). held_full (n + cell_entries row column u.drive.power (history u cs))) none
    ∙ ap held_full (zero-add (cell_entries row column u.drive.power (history u cs)))

-- ---- the page

-- The two columns of a row take the entries of its condition between them.
both_columns : (row : ℕ) (before : Power) (es : List Event) → cell_entries row 0 before es + cell_entries row 1 before es ≡ entries_into row before es
both_columns row before [] = refl
both_columns row before (e ∷ es) = both (is_tick e.call) (is_change before after) (eqb (depth after) row) (both_columns row after es)
  where
    after : Power
    after = e.came.unit.drive.power

    both : (t b r : Bool) → let x = cell_entries row 0 after es in let y = cell_entries row 1 after es in let z = entries_into row after es in
        x + y ≡ z → (cond (b && (r && eqb (cond t 0 1) 0)) 1 0 + x) + (cond (b && (r && eqb (cond t 0 1) 1)) 1 0 + y) ≡ cond (b && r) 1 0 + z
    both t false r h = omega arith
    both t true false h = omega arith
    both true true true h = omega arith
    both false true true h = omega arith

-- What is not below the top is held there.
top : (m n : ℕ) → full ≤ m → full ≤ n → held_full m ≡ held_full n
top m n h k = rw (le-ltb m full h, le-ltb n full k)

-- Two counts, each held at the top, and their sum held there.
held_sum : (m n : ℕ) → held_full (held_full m + held_full n) ≡ held_full (m + n)
held_sum m n = on (ltb m full) (ltb n full) refl refl
  where
    on : (b c : Bool) → ltb m full ≡ b → ltb n full ≡ c → held_full (cond b m full + cond c n full) ≡ held_full (m + n)
    on true true e f = refl
    on true false e f = top (m + full) (m + n) (omega arith) (omega (arith, ltb-false n full f))
    on false true e f = top (full + n) (m + n) (omega arith) (omega (arith, ltb-false m full e))
    on false false e f = top (full + full) (m + n) (omega arith) (omega (arith, ltb-false m full e))

pub page_tells : PageTells outcome
page_tells ed ms cs row h =
    let u = (manufacture_outcome ed ms).unit in
    let p = u.drive.power in
    ap₂ (λ (m n : ℕ). held_full (m + n)) (counts_tell ed ms cs row 0 h (omega arith)) (counts_tell ed ms cs row 1 h (omega arith))
    ∙ held_sum (cell_entries row 0 p (history u cs)) (cell_entries row 1 p (history u cs)) ∙ ap held_full (both_columns row p (history u cs))

-- ---- the total

-- The sum over the twelve cells.
abbrev cells : (ℕ → ℕ → ℕ) → ℕ
cells f = total (values (λ row. values (f row) 2) 6)

cells_add : (f g : ℕ → ℕ → ℕ) → cells (λ row column. f row column + g row column) ≡ cells f + cells g
cells_add f g = omega arith

-- Of the cells one is that of a row below 6 and a column.
one_cell : (t : Bool) (n : ℕ) → n < 6 → cells (λ row column. cond (eqb n row && eqb (cond t 0 1) column) 1 0) ≡ 1
one_cell true n h = eqb-true _ _ (every_at_lem {A = ℕ} (λ i x. eqb (cells (λ row column. cond (eqb i row && eqb 0 column) 1 0)) 1) (replicate 6 0) 0 refl n h)
one_cell false n h = eqb-true _ _ (every_at_lem {A = ℕ} (λ i x. eqb (cells (λ row column. cond (eqb i row && eqb 1 column) 1 0)) 1) (replicate 6 0) 0 refl n h)

-- So a change of the condition is an entry of one cell, and nothing else is one.
change_is_one : (before : Power) (c : Call) (after : Power)
    → cells (λ row column. cond (is_entry row column before c after) 1 0) ≡ cond (is_change before after) 1 0
change_is_one before c after = on (is_change before after)
  where
    on : (b : Bool) → cells (λ row column. cond (b && (eqb (depth after) row && eqb (column_of_call c) column)) 1 0) ≡ cond b 1 0
    on true = one_cell (is_tick c) (depth after) (depth_below after)
    on false = refl

all_entries : (before : Power) (es : List Event) → cells (λ row column. cell_entries row column before es) ≡ changes_in before es
all_entries before [] = refl
all_entries before (e ∷ es) =
    let after = e.came.unit.drive.power in
    cells_add (λ row column. cond (is_entry row column before e.call after) 1 0) (λ row column. cell_entries row column after es)
    ∙ ap₂ ◌+◌ (change_is_one before e.call after) (all_entries after es)

-- A cell that is not full has counted every entry.
not_held_lem : (k n : ℕ) → n ≡ held_full k → n < full → n ≡ k
not_held_lem k n e below = on (ltb k full) e
  where
    on : (b : Bool) → n ≡ cond b k full → n ≡ k
    on true f = f
    on false f = absurd (omega arith)

-- The cells of a table by their places.
table_cells : (counts : List ℕ) → total (table_of counts) ≡ cells (λ row column. cell row column (table_of counts))
unfolding table_of
table_cells counts = refl

cells_same : (f g : ℕ → ℕ → ℕ) → ((row column : ℕ) → row < 6 → column < 2 → f row column ≡ g row column) → cells f ≡ cells g
cells_same f g same =
    ap total (values_same (λ row. values (f row) 2) (λ row. values (g row) 2) 6 (λ row h. values_same (f row) (g row) 2 (λ column k. same row column h k)))

pub total_tells : TotalTells outcome
total_tells ed ms cs none_full =
    let u = (manufacture_outcome ed ms).unit in
    let t = counts_handed (run u cs) in
    table_cells (run u cs).drive.counts
    ∙ cells_same (λ row column. cell row column t) (λ row column. cell_entries row column u.drive.power (history u cs))
    (λ row column h k. not_held_lem _ _ (counts_tell ed ms cs row column h k) (none_full row column h k))
    ∙ all_entries u.drive.power (history u cs)
