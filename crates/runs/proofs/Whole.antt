-- An operation run whole on a record with nothing waiting: it is accepted, each question gets its command and each answer is taken, so what it leaves
-- is what the last answer leaves. It has one answer, or a good flush's and one more.
use Rattle.std.proofs.Common.{Ok, Some, None}
use mathlib.Core.Path.{◌≡◌, refl, sym, ap, ◌∙◌}
use mathlib.Core.Bool.{Bool, true, false, cond}
use mathlib.Core.List.{List, [], ◌∷◌}
use Prim.Native.Nat.{ℕ, ◌<◌}
use lib.Dec.{eqb, ltb}
use lib.ListN.{length, set}
use borrow.Author.Tests.{eqb-false}
use Rattle.unit.specs.Units.{slot_of, well_formed, with_slot, rested}
use Rattle.refusals.specs.Refusals.{lowest}
use Rattle.requests.specs.declared.Stage.TheVariants.{Flushing}
use Rattle.requests.specs.declared.Request.{Request}
use Rattle.unit.specs.declared.Slot.TheVariants.{Empty, Waiting}
use Rattle.unit.specs.declared.Unit.{Unit}
use Rattle.cdb.specs.Cdb.{immed, wanted, request_for}
use Rattle.operations.specs.Operations.{registers_of, due_from, is_flush, flush_counted}
use Rattle.exchange.specs.Answered.{flushed_well, answered_for}
use Rattle.bridge.specs.Bridge.{start_stop_rows}
use Rattle.exchange.specs.Exchange.{next_effect}
use Rattle.bridge.specs.declared.StartStopped.{StartStopped}
use Rattle.exchange.specs.declared.Asked.{Asked}
use Rattle.requests.specs.declared.Reply.{Reply}
use Rattle.requests.specs.declared.Reply.TheVariants.{Good}
use Rattle.operations.specs.declared.Report.{Report}
use Rattle.operations.specs.declared.Progress.TheVariants.{Ended}
use Rattle.exchange.specs.declared.Replied.{Replied}
use Rattle.calls.specs.Calls.{Call, start_stop, next, answer, progressed, step}
use Rattle.refusals.proofs.Lowest.{not_applies}
use Rattle.calls.proofs.Numbers.{own_told, start_accepted, next_accepted, answer_accepted}
use Rattle.unit.proofs.Hosts.{own_slot, other_slot}
use Rattle.calls.proofs.WellFormed.{well_formed_kept}
use Rattle.calls.proofs.Progress.{next_clear, answer_clear, flush_answered_lem, last_no_flush, counted_due}
use Rattle.runs.specs.Deeds.{Deed, begins, hands_out, goes_on, ends, answering}
use Rattle.runs.specs.Serial.{whole}
use Rattle.runs.proofs.Deeds.{deed_at}
use Rattle.runs.proofs.Slots.{inside, slot_after, Quiet, quiet_out}
use Rattle.runs.proofs.RunsTo.{RunsTo, runs_nothing, runs_on}
use Rattle.refusals.specs.declared.Refusal.TheVariants.{BadHost}
use Rattle.unit.specs.declared.Slot.{Slot}

-- ---- acceptance

-- Nothing waits in v, and START STOP UNIT is accepted from the host with this CDB, as this request's.
pub record Admitted (v : Unit) (host : ℕ) (cdb : List ℕ) (q : Request) : Type 0 where
  pub fine : well_formed v ≡ true
  pub quiet : Quiet v
  pub clear : lowest (start_stop_rows v host cdb) ≡ Ok tt
  pub wants : wanted cdb ≡ Some q.target
  pub immediate : immed cdb ≡ q.immed

-- ---- a question and its answer

module _ (w : Unit) (fine : well_formed w ≡ true) (host : ℕ) (p : Request) (waits : slot_of w.slots host ≡ Waiting p) (none : w.out ≡ None)
    (reply : Reply) (x : Replied) (answered : answered_for (next_effect host w) host p reply ≡ x) where
  sends_due : (deed_at w (next host) ≡ hands_out host (registers_of (due_from w.unsaved p))) × (step w (next host) ≡ next_effect host w)
  sends_due =
      let clear = next_clear w fine host p waits none in
      (rw (next_accepted w host p clear waits), ap (λ (a : Asked). a.unit) (next_accepted w host p clear waits))

  out_fine : well_formed (next_effect host w) ≡ true
  out_fine = rw (← sends_due.1) (well_formed_kept w (next host) fine)

  takes : (deed_at (next_effect host w) (answer host reply) ≡ answering host reply (progressed x.answer))
      × (step (next_effect host w) (answer host reply) ≡ x.unit)
  takes =
      let e = answer_accepted (next_effect host w) host reply p (answer_clear (next_effect host w) out_fine host p waits refl) waits ∙ answered in
      (rw e, ap (λ (r : Replied). r.unit) e)

  taken_fine : well_formed x.unit ≡ true
  taken_fine = rw (← takes.1) (well_formed_kept (next_effect host w) (answer host reply) out_fine)

  asked_once : (cs : List Call) (ds : List Deed) (y : Unit) → RunsTo x.unit cs ds y
      → RunsTo w (next host ∷ answer host reply ∷ cs)
      (hands_out host (registers_of (due_from w.unsaved p)) ∷ answering host reply (progressed x.answer) ∷ ds) y
  asked_once cs ds y more =
      runs_on w (next_effect host w) y (next host) _ _ _ sends_due.0 sends_due.1
      (runs_on (next_effect host w) x.unit y (answer host reply) _ cs ds takes.0 takes.1 more)

-- ---- up to a command

-- The operation waits in w for its next command; all else is as in v, but for the condition, the idle count and the unsaved mark.
pub record Ready (v w : Unit) (host : ℕ) (q p : Request) : Type 0 where
  pub fine : well_formed w ≡ true
  pub waits : slot_of w.slots host ≡ Waiting p
  pub out : w.out ≡ None
  pub edition : w.edition ≡ v.edition
  pub records : w.drive.records ≡ v.drive.records
  pub stopped : w.stopped ≡ v.stopped
  pub held : w.held ≡ v.held
  pub others : (k : ℕ) → slot_of (set w.slots host Empty) k ≡ Empty
  pub target : p.target ≡ q.target
  pub immediate : p.immed ≡ q.immed

-- Whatever is put in the slot, once it is emptied nothing waits.
emptied : (host : ℕ) (l : List Slot) → ((k : ℕ) → (k ≡ host → ⊥) → slot_of l k ≡ Empty) → host < length l
    → (k : ℕ) → slot_of (set l host Empty) k ≡ Empty
emptied host l rest h k = slot_after l host k Empty h ∙ on (eqb host k) refl
  where
    on : (b : Bool) → eqb host k ≡ b → cond b Empty (slot_of l k) ≡ Empty
    on true e = refl
    on false e = rest k (λ same. eqb-false host k e (sym same))

module _ (v : Unit) (host : ℕ) (cdb : List ℕ) (q : Request) (a : Admitted v host cdb q) where
  below : ltb 3 host ≡ false
  below = not_applies (start_stop_rows v host cdb) BadHost a.clear

  none_out : v.out ≡ None
  none_out = quiet_out v a.fine a.quiet

  -- The request and the record after acceptance.
  abbrev first : Request
  first = request_for q.target cdb

  abbrev begun : Unit
  begun = with_slot host (Waiting first) (rested v)

  accepts : (deed_at v (start_stop host cdb) ≡ begins host cdb) × (step v (start_stop host cdb) ≡ begun)
  accepts = (
    rw (own_told v (start_stop host cdb), a.clear),
    ap (λ (r : StartStopped). r.unit) (start_accepted v host cdb q.target a.clear a.wants),
  )

  begun_fine : well_formed begun ≡ true
  begun_fine = rw (← accepts.1) (well_formed_kept v (start_stop host cdb) a.fine)

  first_waits : slot_of begun.slots host ≡ Waiting first
  first_waits = own_slot v.slots host (Waiting first) (inside v host a.fine below)

  begun_others : (k : ℕ) → (k ≡ host → ⊥) → slot_of begun.slots k ≡ Empty
  begun_others k other = other_slot host k other v.slots (Waiting first) ∙ a.quiet k

  -- So it does once it is accepted,
  pub ready_begun : Ready v begun host q first
  ready_begun = record {
    fine = begun_fine;
    waits = first_waits;
    out = none_out;
    edition = refl;
    records = refl;
    stopped = refl;
    held = refl;
    others = emptied host begun.slots begun_others (inside begun host begun_fine below);
    target = refl;
    immediate = a.immediate;
  }

  -- and again after a flush answered good, with its last command due.
  abbrev flushed : Replied
  flushed = flushed_well (next_effect host begun) host first

  flush_taken : first.stage ≡ Flushing 0 → answered_for (next_effect host begun) host first Good ≡ flushed
  flush_taken e = flush_answered_lem (next_effect host begun) host first Good (rw e)

  pub flushed_due : is_flush (due_from false (flush_counted first)) ≡ false
  flushed_due = rw (counted_due false first refl) (last_no_flush q.target)

  pub ready_flushed : first.stage ≡ Flushing 0 → Ready v flushed.unit host q (flush_counted first)
  ready_flushed e =
      let w-fine = taken_fine begun begun_fine host first first_waits none_out Good flushed (flush_taken e) in
      let p = flush_counted first in
      record {
        fine = w-fine;
        waits = own_slot begun.slots host (Waiting p) (inside begun host begun_fine below);
        out = refl;
        edition = refl;
        records = refl;
        stopped = refl;
        held = refl;
        others =
            emptied host flushed.unit.slots
            (λ k other. other_slot host k other begun.slots (Waiting p) ∙ begun_others k other)
            (inside flushed.unit host w-fine below);
        target = refl;
        immediate = a.immediate;
      }

  -- ---- run whole

  begins_then : (cs : List Call) (ds : List Deed) (y : Unit) → RunsTo begun cs ds y → RunsTo v (start_stop host cdb ∷ cs) (begins host cdb ∷ ds) y
  begins_then cs ds y more =
      runs_on v begun y (start_stop host cdb) (begins host cdb) cs ds accepts.0 accepts.1 more

  -- With one answer, which ends it.
  pub whole_once : (reply : Reply) (x : Replied) (report : Report) → answered_for (next_effect host begun) host first reply ≡ x
      → x.answer ≡ Ok (Ended report)
      → RunsTo v (whole host cdb (reply ∷ []))
      (begins host cdb ∷ hands_out host (registers_of (due_from v.unsaved first)) ∷ ends host reply report ∷ []) x.unit
  whole_once reply x report e over =
      begins_then _ _ _
      (rw over at (asked_once begun begun_fine host first first_waits none_out reply x e [] [] x.unit (runs_nothing x.unit)))

  -- With a good flush's answer and one more.
  pub whole_twice : first.stage ≡ Flushing 0 → (reply : Reply) (x : Replied) (report : Report)
      → answered_for (next_effect host flushed.unit) host (flush_counted first) reply ≡ x → x.answer ≡ Ok (Ended report)
      → RunsTo v (whole host cdb (Good ∷ reply ∷ []))
      (begins host cdb
      ∷ hands_out host (registers_of (due_from v.unsaved first))
      ∷ goes_on host Good
      ∷ hands_out host (registers_of (due_from false (flush_counted first)))
      ∷ ends host reply report
      ∷ []) x.unit
  whole_twice flushes reply x report e over =
      let r = ready_flushed flushes in
      begins_then _ _ _
      (asked_once begun begun_fine host first first_waits none_out Good flushed (flush_taken flushes) _ _ x.unit
      (rw over at (asked_once flushed.unit r.fine host (flush_counted first) r.waits refl reply x e [] [] x.unit (runs_nothing x.unit))))
