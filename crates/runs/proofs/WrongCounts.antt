-- Wrong transition counts (document 02, request (i)): step functions that do as the layer does but for what they count, each refuted by a run that is
-- computed. And a run whose counts are not those of its serial run, which is why demand 3 does not compare them.
use mathlib.Core.Path.{◌≡◌, refl}
use mathlib.Core.Bool.{Bool, true, not, ◌&&◌, cond}
use mathlib.Core.List.{List, [], ◌∷◌}
use Prim.Native.Nat.{ℕ, ◌<◌}
use native.Mathlib.Omega.{arith}
use lib.Dec.{eqb, ltb}
use lib.ListN.{length, get_or, set, replicate}
use borrow.Author.Tests.{eqb-true, ltb-true}
use Rattle.rows.specs.Rows.{every_at}
use Rattle.rows.proofs.Places.{every_at_lem, and_left, and_right}
use Rattle.conditions.specs.Conditions.{depth}
use Rattle.transitions.specs.Counts.{full, column_of, cell, counted_in, table_of, flat_of}
use Rattle.conditions.specs.declared.Cause.TheVariants.{Timer}
use Rattle.conditions.specs.declared.Power.{Power}
use Rattle.conditions.specs.declared.Power.TheVariants.{Active, Low}
use Rattle.drive.specs.Drives.{drive_of, with_counts}
use Rattle.drive.specs.declared.Edition.TheVariants.{Draft}
use Rattle.drive.specs.declared.Made.{Made}
use Rattle.drive.specs.declared.Setting.{Setting}
use Rattle.epc.specs.Epc.{sub_of, is_go_to}
use Rattle.unit.specs.Units.{with_drive}
use Rattle.unit.specs.declared.Unit.{Unit}
use Rattle.requests.specs.declared.Reply.TheVariants.{Good}
use Rattle.engine.specs.Engine.{manufacture_outcome}
use Rattle.readouts.specs.Readouts.{counts_handed}
use Rattle.calls.specs.Calls.{Call, tick, write, hard_reset, start_stop, next, answer, Outcome, outcome, StepFunction, run_by, run, history}
use Rattle.calls.specs.Described.{describe, is_tick, is_reset}
use Rattle.calls.specs.Examples.{off, on, makes, fresh, epc_call}
use Rattle.calls.specs.Facts.{tallied}
use Rattle.calls.specs.Table.{is_epc, verdict_in, is_clear}
use Rattle.runs.specs.Entries.{is_change, NoneFull, CountsTell, CountsGoOn, PageTells, TotalTells}
use Rattle.runs.specs.Serial.{serial}
use Rattle.runs.proofs.Computed.{computed}
use Rattle.runs.proofs.Afternoon.{stop}
use Rattle.runs.proofs.WrongPrograms.{leaving, is_more}
use Rattle.runs.proofs.WrongSteps.{Agrees}

-- ---- the wrong programs

-- The record with other counts.
abbrev recounted : List ℕ → Unit → Unit
recounted counts u = with_drive (with_counts counts u.drive) u

-- Other counts are left where the test holds, made from the record before the call and the one that it should leave.
abbrev counting : (Unit → Call → Outcome → Bool) → (Unit → Unit → List ℕ) → StepFunction
counting test counts u c = let o = outcome u c in cond (test u c o) (leaving (recounted (counts u o.unit) o.unit) o) o

-- One entry more, of the condition that the unit is in, in this column.
abbrev one_more_in : ℕ → Unit → Unit → List ℕ
one_more_in column before u = flat_of (counted_in (depth u.drive.power) column (table_of before.drive.counts))

abbrev is_move : Unit → Outcome → Bool
is_move u o = is_change u.drive.power o.unit.drive.power

-- One that counts a go to the condition already held.
abbrev pub counts_held : StepFunction
counts_held = counting (λ u c o. is_epc c && is_go_to (sub_of (describe c).registers.lba) && is_clear (verdict_in o.said) && not (is_move u o)) (one_more_in 1)

-- One that puts a timer's entry in the other column.
abbrev pub other_column : StepFunction
other_column = counting (λ u c o. is_tick c && is_move u o) (one_more_in 1)

-- One that loses the entry into Active by a good flush.
abbrev pub loses_flush : StepFunction
loses_flush = counting (λ u c o. is_more o.said) (λ before u. before.drive.counts)

-- One whose resets clear the counts.
abbrev pub reset_clears : StepFunction
reset_clears = counting (λ u c o. is_reset c && is_clear (verdict_in o.said)) (λ before u. replicate 12 0)

-- One whose counts start again at 0 where they are at the top.
abbrev entered_cell : Unit → ℕ
entered_cell u = cell (depth u.drive.power) (column_of u.drive.power) (counts_handed u)

abbrev started_again : Unit → List ℕ
started_again u =
    let t = counts_handed u in
    let row = depth u.drive.power in
    flat_of (set t row (set (get_or t row []) (column_of u.drive.power) 0))

abbrev pub wraps : StepFunction
wraps = counting (λ u c o. is_move u o && eqb (entered_cell o.unit) full) (λ before u. started_again u)

-- One whose go tos say that a timer made them, and count so: the cause is not what decides, the kind of call is.
abbrev as_timer : Power → Power
as_timer Active = Active
as_timer (Low c why) = Low c Timer

abbrev pub cause_lies : StepFunction
cause_lies u c =
    let o = outcome u c in
    let v = o.unit in
    cond (is_epc c && is_move u o)
    (leaving (with_drive (drive_of v.drive.records (as_timer v.drive.power) v.drive.idle.0 (one_more_in 0 u v)) v) o) o

-- One that counts nothing: the behaviour before the request.
abbrev pub counts_nothing : StepFunction
counts_nothing = counting (λ u c o. true) (λ before u. before.drive.counts)

-- ---- refuted

-- A unit whose five conditions have this default.
abbrev five_of : Setting → List Made
five_of s = replicate 5 (makes s)

-- EPC go to Idle_A.
abbrev go_to_a : Call
go_to_a = epc_call 0x81 0x1

pub counts_nothing_fails : CountsTell counts_nothing → ⊥
unfolding computed manufacture_outcome
counts_nothing_fails holds = let shown : ◌≡◌ {A = ℕ} 0 1 = holds Draft (five_of off) (go_to_a ∷ []) 1 1 (omega arith) (omega arith) in omega arith

-- Its page stays at 0 too, in the first rows and in the last.
pub counts_nothing_fails_page : PageTells counts_nothing → ⊥
unfolding computed manufacture_outcome
counts_nothing_fails_page holds = let shown : ◌≡◌ {A = ℕ} 0 1 = holds Draft (five_of off) (go_to_a ∷ []) 1 (omega arith) in omega arith

pub counts_nothing_fails_last : PageTells counts_nothing → ⊥
unfolding computed manufacture_outcome
counts_nothing_fails_last holds = let shown : ◌≡◌ {A = ℕ} 0 1 = holds Draft (five_of (on 1)) (tick ∷ []) 5 (omega arith) in omega arith

-- A go to is no timer's entry.
pub cause_lies_fails : CountsTell cause_lies → ⊥
unfolding computed manufacture_outcome
cause_lies_fails holds = let shown : ◌≡◌ {A = ℕ} 0 1 = holds Draft (five_of off) (go_to_a ∷ []) 1 1 (omega arith) (omega arith) in omega arith

-- Two go tos of Idle_A are one entry.
pub counts_held_fails : CountsTell counts_held → ⊥
unfolding computed manufacture_outcome
counts_held_fails holds =
    let shown : ◌≡◌ {A = ℕ} 2 1 = holds Draft (five_of off) (go_to_a ∷ go_to_a ∷ []) 1 1 (omega arith) (omega arith) in omega arith

-- Standby_z by its timer: the first column has it not.
pub other_column_fails : CountsTell other_column → ⊥
unfolding computed manufacture_outcome
other_column_fails holds = let shown : ◌≡◌ {A = ℕ} 0 1 = holds Draft (five_of (on 1)) (tick ∷ []) 5 0 (omega arith) (omega arith) in omega arith

-- From Idle_A a stop's good flush enters Active.
abbrev flushes_from_a : List Call
flushes_from_a = go_to_a ∷ start_stop 0 stop ∷ next 0 ∷ answer 0 Good ∷ []

pub loses_flush_fails : CountsTell loses_flush → ⊥
unfolding computed manufacture_outcome
loses_flush_fails holds = let shown : ◌≡◌ {A = ℕ} 0 1 = holds Draft (five_of off) flushes_from_a 0 1 (omega arith) (omega arith) in omega arith

-- A reset after a go to.
pub reset_clears_fails : CountsTell reset_clears → ⊥
unfolding computed manufacture_outcome
reset_clears_fails holds =
    let shown : ◌≡◌ {A = ℕ} 0 1 = holds Draft (five_of off) (go_to_a ∷ hard_reset ∷ []) 1 1 (omega arith) (omega arith) in omega arith

-- From a record with a full cell.
pub wraps_fails : CountsGoOn wraps → ⊥
unfolding computed
wraps_fails holds =
    let shown : ◌≡◌ {A = ℕ} 0 0xFFFFFFFF =
    holds (tallied (0 ∷ 0 ∷ 7 ∷ full ∷ 9 ∷ 0 ∷ 0 ∷ 0 ∷ 0 ∷ 0 ∷ 0 ∷ 0 ∷ [])) (go_to_a ∷ []) 1 1 (omega arith) (omega arith) (omega arith)
    in
    omega arith

-- A table whose cells all pass the test is one of which none is full.
none_full : (t : List (List ℕ)) → length t ≡ 6 → every_at (λ i row. eqb (length row) 2 && every_at (λ j n. ltb n full) 0 row) 0 t ≡ true → NoneFull t
none_full t six h row column r c =
    let pair = every_at_lem (λ i row. eqb (length row) 2 && every_at (λ j n. ltb n full) 0 row) t [] h row (omega arith) in
    let two : length (get_or t row []) ≡ 2 = eqb-true _ _ (and_left (eqb (length (get_or t row [])) 2) _ pair) in
    ltb-true _ _ (every_at_lem (λ j n. ltb n full) (get_or t row []) 0 (and_right (eqb (length (get_or t row [])) 2) _ pair) column (omega arith))

-- One below the top is not full, and the top is.
pub none_full_below : NoneFull (replicate 6 (replicate 2 0xFFFFFFFE))
none_full_below = none_full (replicate 6 (replicate 2 0xFFFFFFFE)) refl refl

pub full_is_full : NoneFull (replicate 6 (replicate 2 0xFFFFFFFF)) → ⊥
full_is_full none = let below : ◌<◌ 0xFFFFFFFF 0xFFFFFFFF = none 0 0 (omega arith) (omega arith) in omega arith

-- Of the two changes the total has one.
pub loses_flush_fails_total : TotalTells loses_flush → ⊥
unfolding computed manufacture_outcome
loses_flush_fails_total holds =
    let left = run_by loses_flush (manufacture_outcome Draft (five_of off)).unit flushes_from_a in
    let shown : ◌≡◌ {A = ℕ} 1 2 = holds Draft (five_of off) flushes_from_a (none_full (counts_handed left) refl refl) in omega arith

-- ---- "Demand 3 does not compare them."

-- Host 0's stop flushes twice: its first flush enters Active, and after it Idle_A is entered again before host 1 writes.
abbrev flushes_twice : List Call
flushes_twice =
    go_to_a ∷ start_stop 0 stop ∷ next 0 ∷ answer 0 Good ∷ go_to_a ∷ write 1 ∷ next 0 ∷ answer 0 Good ∷ next 0 ∷ answer 0 Good ∷ []

-- Run whole the stop has one flush, which comes where the unit is Active already. What demand 3 compares is the same; of the counts, Active and Idle_A
-- are entered twice in the real run and once in the serial one.
pub counts_differ : Agrees outcome flushes_twice
    × (counts_handed (run fresh flushes_twice) ≡ (0 ∷ 2 ∷ []) ∷ (0 ∷ 2 ∷ []) ∷ (0 ∷ 0 ∷ []) ∷ (0 ∷ 0 ∷ []) ∷ (0 ∷ 0 ∷ []) ∷ (0 ∷ 1 ∷ []) ∷ [])
    × (counts_handed (run fresh (serial (history fresh flushes_twice)))
    ≡ (0 ∷ 1 ∷ []) ∷ (0 ∷ 1 ∷ []) ∷ (0 ∷ 0 ∷ []) ∷ (0 ∷ 0 ∷ []) ∷ (0 ∷ 0 ∷ []) ∷ (0 ∷ 1 ∷ []) ∷ [])
unfolding computed
counts_differ = ((refl, refl, refl, refl), refl, refl)
