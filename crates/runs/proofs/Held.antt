-- A failure with IMMED is not lost: the end report leaves it held, a held sense is changed only by what `keeps_held` shuts out, and REQUEST SENSE gives it.
use Rattle.std.proofs.Common.{Ok, Err, Some, None, Option}
use mathlib.Core.Path.{◌≡◌, refl, sym, ap, ◌∙◌}
use mathlib.Core.Bool.{Bool, true, false, not, ◌&&◌, cond, false≢true}
use mathlib.Core.List.{List, [], ◌∷◌}
use Prim.Native.Nat.{ℕ, suc}
use native.Mathlib.Omega.{arith}
use lib.Dec.{eqb}
use lib.ListN.{set}
use borrow.Author.Tests.{eqb-false, not-true}
use Rattle.rows.specs.Rows.{every_at}
use Rattle.rows.proofs.Places.{and_left, and_right}
use Rattle.senses.specs.Senses.{sense_bytes}
use Rattle.unit.specs.Units.{held_of, well_formed}
use Rattle.requests.specs.Requests.{failure_sense}
use Rattle.refusals.specs.Refusals.{is_same}
use Rattle.readouts.specs.Readouts.{sense_rows, told_bytes}
use Rattle.requests.specs.declared.Request.{Request}
use Rattle.requests.specs.declared.Failure.{Failure}
use Rattle.unit.specs.declared.Unit.{Unit}
use Rattle.cdb.specs.Cdb.{wanted}
use Rattle.operations.specs.Operations.{failure_of, one_more, flushes_of, report_failed}
use Rattle.exchange.specs.Answered.{failed}
use Rattle.requests.specs.declared.Reply.TheVariants.{Bad}
use Rattle.calls.specs.Calls.{Call, start_stop, answer, request_sense, outcome, step, run, history}
use Rattle.calls.specs.Described.{is_reset}
use Rattle.refusals.proofs.Lowest.{not_applies}
use Rattle.calls.proofs.Numbers.{own_told, acceptance_does}
use Rattle.unit.proofs.Hosts.{own_held, other_held}
use Rattle.calls.proofs.WellFormed.{well_formed_kept, run_well_formed}
use Rattle.runs.specs.Deeds.{Deed, ends, does, was_aborted, was_refused, another, deeds}
use Rattle.runs.specs.Reports.{sense_for, keeps_held, HeldTold, FailureTold}
use Rattle.runs.proofs.Deeds.{deed_at, by_deed, all_others}
use Rattle.runs.proofs.HeldSenses.{held_inside, held_after, failed_held}
use Rattle.runs.proofs.Reports.{closes, end_reported}
use Rattle.refusals.specs.declared.Refusal.TheVariants.{BadHost, Aborted}
use Rattle.refusals.specs.Refusals.{Verdict}

-- ---- the held sense stays

module _ (k : ℕ) where
  module _ (u : Unit) where
    abbrev Kept : Deed → Unit → Type 0
    Kept d v = keeps_held k d ≡ true → held_of v.held k ≡ held_of u.held k

    spared : (host : ℕ) (h : Option Failure) → eqb host k ≡ false → held_of (set u.held host h) k ≡ held_of u.held k
    spared host h other = other_held host k (λ same. eqb-false host k other (sym same)) u.held h

    -- A failure that is held is another host's.
    failed_kept : (host : ℕ) (q : Request) (n : ℕ)
        → Kept (ends host Bad (report_failed q.immed (failure_of q.target) n)) (failed u host q n).unit
    failed_kept host q n h = ap (λ (l : List (Option Failure)). held_of l k) (failed_held u host q n) ∙ on q.immed h
      where
        on : (b : Bool) → keeps_held k (ends host Bad (report_failed b (failure_of q.target) n)) ≡ true
            → held_of (held_after u.held host b (failure_of q.target)) k ≡ held_of u.held k
        on true h = spared host (Some (failure_of q.target)) (apart (eqb host k) h)
          where
            apart : (b : Bool) → (not (b && true) && true && true) ≡ true → b ≡ false
            apart true h = absurd (false≢true h)
            apart false h = refl
        on false h = refl

    kept : (c : Call) → Kept (deed_at u c) (step u c)
    kept = by_deed Kept u (record {
      refused = λ c h. refl;
      aborted = λ q a h. refl;
      begun = λ host cdb t clear wants h. refl;
      asked = λ host q clear waits h. refl;
      flushed = λ host q taken f h. refl;
      flush_failed = λ host q taken f. failed_kept host q (one_more (flushes_of q.stage));
      last_succeeded = λ host q taken f h. refl;
      last_failed = λ host q taken f. failed_kept host q (flushes_of q.stage);
    }) (all_others Kept u (λ c v did h.
        did.held k (not-true (is_reset c) (and_left (not (is_reset c)) _ h)) (not-true _ (and_right (not (is_reset c)) _ h))))

  run_kept : (u : Unit) (cs : List Call) (at : ℕ) → every_at (λ i d. keeps_held k d) at (deeds (history u cs)) ≡ true
      → held_of (run u cs).held k ≡ held_of u.held k
  run_kept u [] at h = refl
  run_kept u (c ∷ cs) at h =
      run_kept (step u c) cs (suc at) (and_right (keeps_held k (deed_at u c)) _ h) ∙ kept u c (and_left (keeps_held k (deed_at u c)) _ h)

-- ---- REQUEST SENSE

does_clear : (c : Call) (v : Verdict) → another c v ≡ does c → v ≡ Ok tt
does_clear c (Ok _) e = refl
does_clear c (Err r) e = on (is_same r Aborted) e
  where
    on : (b : Bool) → cond b (was_aborted c) (was_refused c) ≡ does c → ◌≡◌ {A = Verdict} (Err r) (Ok tt)
    on true e = let no : ◌≡◌ {A = ℕ} 0 1 = cc in absurd (omega arith)
    on false e = let no : ◌≡◌ {A = ℕ} 0 1 = cc in absurd (omega arith)

-- An accepted REQUEST SENSE gives the held failure, and then nothing is held.
sense_told : (w : Unit) (host : ℕ) (buffer : List ℕ) (f : Failure) → well_formed w ≡ true → held_of w.held host ≡ Some f
    → deed_at w (request_sense host buffer) ≡ does (request_sense host buffer)
    → ((outcome w (request_sense host buffer)).buffer ≡ sense_bytes true (failure_sense f))
    × (held_of (step w (request_sense host buffer)).held host ≡ None)
sense_told w host buffer f fine holds e =
    let c = request_sense host buffer in
    let told = does_clear c _ e in
    let did = acceptance_does w c told in
    let below = held_inside w host fine (not_applies (sense_rows w host buffer) BadHost (sym (own_told w c) ∙ told)) in (
      did.1 ∙ ap (told_bytes w.drive.power) holds,
      ap (λ (v : Unit). held_of v.held host) did.0 ∙ own_held w.held host None below,
    )

-- A sense without a status is what the host's next accepted REQUEST SENSE gives.
pub held_told : HeldTold outcome
held_told u host reply report s cs buffer fine ends-here none sense keeps accepts =
    let v = step u (answer host reply) in
    let fine-then = run_well_formed v cs (well_formed_kept u (answer host reply) fine) in
    let failure = (closes u fine host reply report ends-here).held s none sense in
    let told = sense_told (run v cs) host buffer failure.0 fine-then (run_kept host v cs 0 keeps ∙ failure.1) accepts in
    (told.0 ∙ ap (sense_bytes true) failure.2, told.1)

-- A failure with IMMED is what the host's next accepted REQUEST SENSE gives, unless a newer failure or a reset came between.
pub failure_told : FailureTold outcome
failure_told u host cdb cs report later buffer fine accepts immediate unended over keeps told =
    let says = end_reported u host cdb cs Bad report fine accepts unended over in
    let v = step u (start_stop host cdb) in
    (held_told (run v cs) host Bad report (sense_for (wanted cdb)) later buffer
    (run_well_formed v cs (well_formed_kept u (start_stop host cdb) fine)) over (says.status ∙ rw immediate) says.sense keeps told).0
