-- Wrong starts (document 02, request (ii)): step functions that do as the layer does but for a start whose verify is answered bad, each refuted by a run
-- that is computed.
use Rattle.std.proofs.Common.{Some, None, Option}
use mathlib.Core.Bool.{Bool, true, false, cond, false≢true, true≢false}
use mathlib.Core.Path.{◌≡◌, ap, refl}
use mathlib.Core.List.{List, [], ◌∷◌}
use Prim.Native.Nat.{ℕ}
use native.Mathlib.Omega.{arith}
use lib.ListN.{get_or, replicate}
use Rattle.conditions.specs.Conditions.{depth}
use Rattle.conditions.specs.declared.Condition.TheVariants.{StandbyZ}
use Rattle.conditions.specs.declared.Cause.TheVariants.{Command}
use Rattle.conditions.specs.declared.Power.TheVariants.{Low}
use Rattle.operations.specs.declared.Status.{Status}
use Rattle.operations.specs.declared.Status.TheVariants.{NoStatus, GoodStatus, CheckCondition}
use Rattle.requests.specs.Requests.{failure_sense}
use Rattle.requests.specs.declared.Reply.TheVariants.{Good, Bad}
use Rattle.requests.specs.declared.Target.TheVariants.{Stop}
use Rattle.unit.specs.Units.{slot_of, held_of, with_slot}
use Rattle.unit.specs.declared.Slot.{Slot}
use Rattle.unit.specs.declared.Slot.TheVariants.{Empty, Waiting}
use Rattle.unit.specs.declared.Unit.{Unit}
use Rattle.calls.specs.Calls.{Call, start_stop, next, answer, StepFunction, outcome, run_by}
use Rattle.calls.specs.Facts.{stopped_in}
use Rattle.runs.specs.Reports.{EndReported, HeldTold, FailureTold}
use Rattle.runs.specs.Serial.{Compared, Demand3}
use Rattle.runs.proofs.Computed.{computed}
use Rattle.runs.proofs.Morning.{start_immediate, to_active}
use Rattle.runs.proofs.WrongPrograms.{fails_on, on_failure_of, power_kept, mark_cleared, held_kept, is_due}
use Rattle.senses.specs.declared.Sense.{Sense}
use Rattle.requests.specs.declared.Failure.{Failure}

-- ---- the wrong programs

-- READ VERIFY, whose failure goes wrong.
abbrev verify : ℕ
verify = 0x40

abbrev host_out : Option ℕ → ℕ
host_out None = 0
host_out (Some host) = host

-- GOOD all the same, as before the request: a bad verify is taken for a good one.
abbrev pub good_anyway : StepFunction
good_anyway u c = cond (fails_on verify u c) (outcome u (answer (host_out u.out) Good)) (outcome u c)

-- A start fails as a stop does, with 0B/2C/00.
abbrev as_stop : Slot → Slot
as_stop Empty = Empty
as_stop (Waiting q) = Waiting (record { target = Stop; immed = q.immed; stage = q.stage })

abbrev stop_waits : ℕ → Unit → Unit
stop_waits host u = with_slot host (as_stop (slot_of u.slots host)) u

abbrev pub fails_as_stop : StepFunction
fails_as_stop u c = cond (fails_on verify u c) (outcome (stop_waits (host_out u.out) u) c) (outcome u c)

-- A start that fails clears the stopped mark,
abbrev pub clears_stopped : StepFunction
clears_stopped = on_failure_of verify mark_cleared

-- or is told, with IMMED 1, and not held,
abbrev pub not_held : StepFunction
not_held = on_failure_of verify held_kept

-- or leaves the condition that it found.
abbrev pub not_active : StepFunction
not_active = on_failure_of verify power_kept

-- ---- refuted

-- A unit that was stopped, a start with IMMED on it, and its bad verify.
abbrev asleep : Unit
asleep = stopped_in (Low StandbyZ Command)

abbrev bad_start : List Call
bad_start = start_stop 0 start_immediate ∷ next 0 ∷ answer 0 Bad ∷ []

-- The sense keys that tell the failures apart; 0 where there is none.
abbrev key_due : Option Sense → ℕ
key_due None = 0
key_due (Some s) = s.key

abbrev key_held : Option Failure → ℕ
key_held None = 0
key_held (Some f) = (failure_sense f).key

abbrev key_compared : Compared → ℕ
key_compared k = key_held (held_of k.held 0)

-- Taken for good: the unit is no longer stopped, and the host hears of no failure, in the report or later.
pub good_anyway_fails_demand_3 : Demand3 good_anyway → ⊥
unfolding computed
good_anyway_fails_demand_3 holds = false≢true (ap (λ (k : Compared). k.stopped) (holds asleep bad_start refl refl refl refl))

pub good_anyway_fails_report : EndReported good_anyway → ⊥
unfolding computed
good_anyway_fails_report holds =
    let reported = holds asleep 0 start_immediate (next 0 ∷ []) Bad _ refl refl refl refl in
    false≢true (ap is_due reported.sense)

pub good_anyway_fails_failure : FailureTold good_anyway → ⊥
unfolding computed
good_anyway_fails_failure holds =
    let told = holds asleep 0 start_immediate (next 0 ∷ []) _ [] (replicate 18 0) refl refl refl refl refl refl refl in
    let shown : ◌≡◌ {A = ℕ} 0x70 0x71 = ap (λ (l : List ℕ). get_or l 0 0) told in
    omega arith

-- Without IMMED, as 1h, the host hears GOOD with the last answer.
abbrev is_good_status : Status → Bool
is_good_status NoStatus = false
is_good_status GoodStatus = true
is_good_status CheckCondition = false

pub good_anyway_fails_status : EndReported good_anyway → ⊥
unfolding computed
good_anyway_fails_status holds =
    let reported = holds asleep 0 to_active (next 0 ∷ []) Bad _ refl refl refl refl in
    true≢false (ap is_good_status reported.status)

-- The other failure's sense: in the report, in what is held, and in what REQUEST SENSE tells.
pub fails_as_stop_fails_report : EndReported fails_as_stop → ⊥
unfolding computed
fails_as_stop_fails_report holds =
    let reported = holds asleep 0 start_immediate (next 0 ∷ []) Bad _ refl refl refl refl in
    let shown : ◌≡◌ {A = ℕ} 0x0B 0x02 = ap key_due reported.sense in
    omega arith

pub fails_as_stop_fails_demand_3 : Demand3 fails_as_stop → ⊥
unfolding computed
fails_as_stop_fails_demand_3 holds =
    let shown : ◌≡◌ {A = ℕ} 0x0B 0x02 = ap key_compared (holds asleep bad_start refl refl refl refl) in
    omega arith

pub fails_as_stop_fails_failure : FailureTold fails_as_stop → ⊥
unfolding computed
fails_as_stop_fails_failure holds =
    let told = holds asleep 0 start_immediate (next 0 ∷ []) _ [] (replicate 18 0) refl refl refl refl refl refl refl in
    let shown : ◌≡◌ {A = ℕ} 0x0B 0x02 = ap (λ (l : List ℕ). get_or l 2 0) told in
    omega arith

-- The stopped mark, the held sense and the condition are demand 3's.
pub clears_stopped_fails_demand_3 : Demand3 clears_stopped → ⊥
unfolding computed
clears_stopped_fails_demand_3 holds = false≢true (ap (λ (k : Compared). k.stopped) (holds asleep bad_start refl refl refl refl))

pub not_held_fails_demand_3 : Demand3 not_held → ⊥
unfolding computed
not_held_fails_demand_3 holds =
    let shown : ◌≡◌ {A = ℕ} 0 0x02 = ap key_compared (holds asleep bad_start refl refl refl refl) in
    omega arith

pub not_active_fails_demand_3 : Demand3 not_active → ⊥
unfolding computed
not_active_fails_demand_3 holds =
    let shown : ◌≡◌ {A = ℕ} 5 0 = ap (λ (k : Compared). depth k.power) (holds asleep bad_start refl refl refl refl) in
    omega arith

-- What is not held is not told, though the report says that it is held.
pub not_held_fails_failure : FailureTold not_held → ⊥
unfolding computed
not_held_fails_failure holds =
    let told = holds asleep 0 start_immediate (next 0 ∷ []) _ [] (replicate 18 0) refl refl refl refl refl refl refl in
    let shown : ◌≡◌ {A = ℕ} 0x70 0x71 = ap (λ (l : List ℕ). get_or l 0 0) told in
    omega arith

pub not_held_fails_held : HeldTold not_held → ⊥
unfolding computed
not_held_fails_held holds =
    let out = run_by not_held asleep (start_stop 0 start_immediate ∷ next 0 ∷ []) in
    let told = (holds out 0 Bad _ _ [] (replicate 18 0) refl refl refl refl refl refl).0 in
    let shown : ◌≡◌ {A = ℕ} 0x70 0x71 = ap (λ (l : List ℕ). get_or l 0 0) told in
    omega arith
