-- Wrong idle counts (document 02, request (vii)): step functions that do as the layer does but for when the idle count starts again, each refuted by a
-- run that is computed.
use Rattle.std.proofs.Common.{Some}
use mathlib.Core.Bool.{not, ◌&&◌, cond, false≢true}
use mathlib.Core.List.{[], ◌∷◌, ◌++◌}
use mathlib.Core.Path.{◌≡◌, ap, refl}
use Prim.Native.Nat.{ℕ}
use native.Mathlib.Omega.{arith}
use lib.Dec.{eqb}
use lib.ListN.{replicate}
use Rattle.conditions.specs.declared.Condition.TheVariants.{StandbyZ}
use Rattle.conditions.specs.declared.Cause.TheVariants.{Timer}
use Rattle.conditions.specs.declared.Power.TheVariants.{Low}
use Rattle.conditions.specs.Conditions.{depth}
use Rattle.drive.specs.declared.Tenths.{Tenths}
use Rattle.requests.specs.declared.Failure.TheVariants.{CommandSequence}
use Rattle.requests.specs.declared.Stage.TheVariants.{Flushing}
use Rattle.requests.specs.declared.Target.TheVariants.{Stop}
use Rattle.unit.specs.Units.{held_of, with_held, rested}
use Rattle.unit.specs.declared.Unit.{Unit}
use Rattle.calls.specs.Calls.{tick, read, request_sense, outcome, StepFunction}
use Rattle.calls.specs.Described.{same_kind, is_sense, is_sense_of}
use Rattle.calls.specs.Examples.{off, on, new, fresh, idled}
use Rattle.calls.specs.Facts.{stopped_in, waiting_for}
use Rattle.calls.specs.Table.{verdict_in, is_clear}
use Rattle.runs.specs.Idle.{IdleRestarts, IdleKept}
use Rattle.runs.specs.Polls.{own, poll, PollsLeaveNoTrace}
use Rattle.runs.proofs.Computed.{computed}
use Rattle.runs.proofs.WrongPrograms.{left_by, on_accepted, is_holding}

-- ---- the wrong programs

-- As before the request: REQUEST SENSE restarts the count.
abbrev pub polls_restart : StepFunction
polls_restart = on_accepted (λ u. is_sense) (λ before. rested)

-- It keeps the count only when nothing is held.
abbrev pub told_restarts : StepFunction
told_restarts = on_accepted (λ u. is_sense_of (λ host. is_holding (held_of u.held host))) (λ before. rested)

-- Host 3's alone restarts it.
abbrev pub third_restarts : StepFunction
third_restarts = on_accepted (λ u. is_sense_of (λ host. eqb host 3)) (λ before. rested)

-- One that is refused restarts it.
abbrev pub refused_restarts : StepFunction
refused_restarts u c = cond (is_sense c && not (is_clear (verdict_in (outcome u c).said))) (left_by (λ before. rested) u c) (outcome u c)

-- A read leaves it as it was.
abbrev pub reads_spare : StepFunction
reads_spare = on_accepted (λ u c. same_kind c (read 0)) (λ before. idled before.drive.idle.0)

-- ---- refuted

-- Nothing is held, and the count is 0 where it was 7.
pub polls_restart_fails : IdleKept polls_restart → ⊥
unfolding computed
polls_restart_fails holds =
    let shown : ◌≡◌ {A = ℕ} 0 7 = ap (λ (n : Tenths). n.0) (holds (idled 7 fresh) (request_sense 0 (replicate 18 0)) refl refl) in omega arith

-- Twenty ticks take the unit to Idle_A, and with a poll after the tenth they leave it Active.
pub polls_restart_leaves_trace : PollsLeaveNoTrace polls_restart → ⊥
unfolding computed
polls_restart_leaves_trace holds =
    let ten = replicate 10 (own tick) in
    let shown : ◌≡◌ {A = ℕ} 0 1 =
    ap (λ (u : Unit). depth u.drive.power) (holds (new (on 20) off off off (on 50)) (ten ++ poll 0 (replicate 18 0) ∷ ten) (λ e. refl, tt)).1 in
    omega arith

-- Host 3 polls a stopped unit with something unsaved, while an operation of host 0 waits.
pub third_restarts_leaves_trace : PollsLeaveNoTrace third_restarts → ⊥
unfolding computed
third_restarts_leaves_trace holds =
    let u = waiting_for Stop (Flushing 0) (idled 7 (stopped_in (Low StandbyZ Timer))) in
    let shown : ◌≡◌ {A = ℕ} 0 7 = ap (λ (v : Unit). v.drive.idle.0) (holds u (poll 3 (replicate 18 0xFF) ∷ []) (λ e. refl, tt)).1 in omega arith

-- A host with a held sense polls with 17 bytes.
pub refused_restarts_leaves_trace : PollsLeaveNoTrace refused_restarts → ⊥
unfolding computed
refused_restarts_leaves_trace holds =
    let u = with_held 0 (Some CommandSequence) (idled 7 fresh) in
    let shown : ◌≡◌ {A = ℕ} 0 7 =
    ap (λ (v : Unit). v.drive.idle.0) (holds u (poll 0 (replicate 17 0) ∷ []) (λ e. absurd (false≢true (ap is_clear e)), tt)).1 in
    omega arith

-- A held sense is told, and the count is 0 where it was 7.
pub told_restarts_fails : IdleKept told_restarts → ⊥
unfolding computed
told_restarts_fails holds =
    let u = with_held 0 (Some CommandSequence) (idled 7 fresh) in
    let shown : ◌≡◌ {A = ℕ} 0 7 = ap (λ (n : Tenths). n.0) (holds u (request_sense 0 (replicate 18 0)) refl refl) in omega arith

-- A read leaves the count at 7.
pub reads_spare_fails : IdleRestarts reads_spare → ⊥
unfolding computed
reads_spare_fails holds = let shown : ◌≡◌ {A = ℕ} 7 0 = holds (idled 7 fresh) (read 0) refl in omega arith
