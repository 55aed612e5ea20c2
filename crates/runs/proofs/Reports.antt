-- What the end report tells: an operation ends with its request's IMMED and its last answer, and both are those of its CDB and of the history.
use Rattle.std.proofs.Common.{Some, None, Option}
use mathlib.Core.Path.{◌≡◌, refl, sym, ap, ◌∙◌}
use mathlib.Core.Bool.{Bool, true, false, cond}
use mathlib.Core.List.{List}
use Prim.Native.Nat.{ℕ}
use native.Mathlib.Omega.{arith}
use Rattle.senses.specs.declared.Sense.{Sense}
use Rattle.unit.specs.Units.{slot_of, held_of, well_formed}
use Rattle.requests.specs.Requests.{failure_sense}
use Rattle.requests.specs.declared.Request.{Request}
use Rattle.requests.specs.declared.Target.{Target}
use Rattle.requests.specs.declared.Target.TheVariants.{Stop, Start, GoTo}
use Rattle.unit.specs.declared.Slot.TheVariants.{Waiting}
use Rattle.requests.specs.declared.Failure.{Failure}
use Rattle.unit.specs.declared.Unit.{Unit}
use Rattle.cdb.specs.Cdb.{immed, wanted}
use Rattle.operations.specs.Operations.{failure_of, one_more, flushes_of, report_good, report_failed}
use Rattle.exchange.specs.Answered.{failed}
use Rattle.exchange.specs.Exchange.{answer_rows}
use Rattle.requests.specs.declared.Reply.{Reply}
use Rattle.requests.specs.declared.Reply.TheVariants.{Good, Bad}
use Rattle.operations.specs.declared.Report.{Report}
use Rattle.operations.specs.declared.Status.TheVariants.{NoStatus, GoodStatus, CheckCondition}
use Rattle.calls.specs.Calls.{start_stop, answer, outcome, step, run}
use Rattle.refusals.proofs.Lowest.{not_applies}
use Rattle.unit.proofs.Hosts.{own_held}
use Rattle.calls.proofs.WellFormed.{well_formed_kept, run_well_formed}
use Rattle.runs.specs.Deeds.{ends}
use Rattle.runs.specs.Reports.{fails, sense_for, EndReported}
use Rattle.runs.proofs.Slots.{waiting_same}
use Rattle.runs.proofs.Deeds.{Taken, deed_at, when_ended}
use Rattle.runs.proofs.HeldSenses.{held_inside, held_after, failed_held}
use Rattle.runs.proofs.Fates.{begun_said, one_fate}
use Rattle.refusals.specs.declared.Refusal.TheVariants.{BadHost}

-- The failure of each target has the sense that the statement names.
sense_named : (t : Target) → failure_sense (failure_of t) ≡ sense_for (Some t)
sense_named Stop = refl
sense_named Start = refl
sense_named (GoTo c) = refl

-- The host's waiting operation ends. Its report is told by its IMMED and by whether it failed; a sense beside no status is now held.
pub record Closes (u : Unit) (host : ℕ) (reply : Reply) (report : Report) (v : Unit) : Type 0 where
  pub request : Request
  pub waiting : slot_of u.slots host ≡ Waiting request
  pub status : report.status ≡ cond request.immed NoStatus (cond (fails reply) CheckCondition GoodStatus)
  pub sense : report.sense ≡ cond (fails reply) (Some (failure_sense (failure_of request.target))) None
  pub held : (s : Sense) → report.status ≡ NoStatus → report.sense ≡ Some s
      → (f : Failure) × (held_of v.held host ≡ Some f) × (failure_sense f ≡ s)

module _ (u : Unit) (fine : well_formed u ≡ true) where
  module _ (host : ℕ) (q : Request) (taken : Taken u host q) where
    succeeded_closes : (n : ℕ) (v : Unit) → Closes u host Good (report_good q.immed n) v
    succeeded_closes n v = record {
      request = q;
      waiting = taken.waiting;
      status = refl;
      sense = refl;
      held = λ s none e. let no : ◌≡◌ {A = ℕ} 0 1 = cc in absurd (omega arith);
    }

    failed_closes : (n : ℕ) → Closes u host Bad (report_failed q.immed (failure_of q.target) n) (failed u host q n).unit
    failed_closes n = record {
      request = q;
      waiting = taken.waiting;
      status = refl;
      sense = refl;
      held = λ s none e. (
        failure_of q.target,
        ap (λ (l : List (Option Failure)). held_of l host) (failed_held u host q n) ∙ holds q.immed none,
        cc,
      );
    }
      where
        holds : (b : Bool) → cond b NoStatus CheckCondition ≡ NoStatus
            → held_of (held_after u.held host b (failure_of q.target)) host ≡ Some (failure_of q.target)
        holds true none = own_held u.held host _ (held_inside u host fine (not_applies (answer_rows u host) BadHost taken.clear))
        holds false none = let no : ◌≡◌ {A = ℕ} 0 1 = cc in absurd (omega arith)

  pub closes : (host : ℕ) (reply : Reply) (report : Report) → deed_at u (answer host reply) ≡ ends host reply report
      → Closes u host reply report (step u (answer host reply))
  closes = when_ended (Closes u) u (record {
    flush_failed = λ host q taken f. failed_closes host q taken (one_more (flushes_of q.stage));
    last_succeeded = λ host q taken f. succeeded_closes host q taken (flushes_of q.stage) _;
    last_failed = λ host q taken f. failed_closes host q taken (flushes_of q.stage);
  })

-- The acceptance and the end report say what the CDB and the last answer make them say.
pub end_reported : EndReported outcome
end_reported u host cdb cs reply report fine accepts unended ends-here =
    let v = step u (start_stop host cdb) in
    let waits = (one_fate u host cdb cs fine accepts).1 unended in
    let over = closes (run v cs) (run_well_formed v cs (well_formed_kept u (start_stop host cdb) fine)) host reply report ends-here in
    let same = waiting_same waits.0 over.request (sym waits.1 ∙ over.waiting) in
    let wants : wanted cdb ≡ Some over.request.target = waits.2 ∙ ap (λ (q : Request). Some q.target) same in
    let immediate : immed cdb ≡ over.request.immed = waits.3 ∙ ap (λ (q : Request). q.immed) same in
    record {
      acceptance = begun_said u host cdb fine accepts;
      status = rw immediate over.status;
      sense = rw (wants, ← sense_named over.request.target) over.sense;
    }
