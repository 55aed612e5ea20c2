-- The wrong programs of document 02's request (iii), each refuted: the tick's search from Standby_z upwards, gone wrong in four ways. The unit of
-- example g has Idle_A at 20 ticks and Standby_z at 50.
use mathlib.Core.Bool.{◌&&◌, cond}
use mathlib.Core.List.{[], ◌∷◌}
use mathlib.Core.Path.{◌≡◌, refl, ap}
use Prim.Native.Nat.{ℕ}
use native.Mathlib.Omega.{arith}
use lib.Dec.{eqb}
use lib.ListN.{take}
use Rattle.rows.specs.Rows.{fold_at}
use Rattle.conditions.specs.Conditions.{condition_at, depth}
use Rattle.conditions.specs.declared.Cause.TheVariants.{Timer}
use Rattle.conditions.specs.declared.Power.{Power}
use Rattle.conditions.specs.declared.Power.TheVariants.{Active, Low}
use Rattle.drive.specs.declared.Edition.TheVariants.{Published}
use Rattle.drive.specs.Records.{largest_timer}
use Rattle.drive.specs.Drives.{ran_out, timers_ask, fallen}
use Rattle.drive.specs.declared.Record.{Record}
use Rattle.calls.specs.Calls.{tick, StepFunction}
use Rattle.calls.specs.Examples.{*g19, *g50, on, off, new, epc_call, Examples}
use Rattle.runs.specs.Serial.{Compared, Demand3}
use Rattle.runs.proofs.Computed.{computed}
use Rattle.runs.proofs.WrongPrograms.{entering, or_stays}

-- ---- the wrong programs

-- It stops at the first that is enabled, run out or not: no timer is longer than the largest.
abbrev pub first_enabled : StepFunction
first_enabled = entering (λ d n. fallen (timers_ask d.records (largest_timer Published)) d.power)

-- It looks from Idle_A downwards and stops: a condition that has run out is heard only if none above it was.
abbrev heard_first : ℕ → ℕ → Record → Power → Power
heard_first count place r asked = cond (ran_out count r && eqb (depth asked) 0) (Low (condition_at place) Timer) asked

abbrev pub from_idle_a : StepFunction
from_idle_a = entering (λ d n. fallen (fold_at (heard_first n) 0 Active d.records) d.power)

-- It leaves Standby_z out.
abbrev pub without_standby_z : StepFunction
without_standby_z = entering (λ d n. fallen (timers_ask (take 4 d.records) n) d.power)

-- What it finds is entered wherever the drive is, above the present condition too.
abbrev pub enters_above : StepFunction
enters_above = entering (λ d n. or_stays (timers_ask d.records n) d.power)

-- ---- refuted

pub first_enabled_fails_g19 : Examples first_enabled → ⊥
unfolding computed
first_enabled_fails_g19 holds = let shown : ◌≡◌ {A = ℕ} 5 0 = ap depth (holds *g19).1 in omega arith

pub from_idle_a_fails_g50 : Examples from_idle_a → ⊥
unfolding computed
from_idle_a_fails_g50 holds = let shown : ◌≡◌ {A = ℕ} 1 5 = ap depth (holds *g50).1 in omega arith

pub without_standby_z_fails_g50 : Examples without_standby_z → ⊥
unfolding computed
without_standby_z_fails_g50 holds = let shown : ◌≡◌ {A = ℕ} 1 5 = ap depth (holds *g50).1 in omega arith

-- No example has a drive lower than its timers ask for, so the examples don't see this one. Demand 3 does: sent to Standby_z by a command, the drive
-- stays there as Idle_A runs out.
pub enters_above_fails_demand_3 : Demand3 enters_above → ⊥
unfolding computed
enters_above_fails_demand_3 holds =
    let same = holds (new (on 1) off off off off) (epc_call 0x00 0x1 ∷ tick ∷ []) refl refl refl refl in
    let shown : ◌≡◌ {A = ℕ} 1 5 = ap (λ (k : Compared). depth k.power) same in
    omega arith
