-- An accepted START STOP UNIT has one fate. A host's slot tells it: while its operation waits, each call leaves it waiting, ends it or is a reset; once
-- it is empty, the host has no end report until its next START STOP UNIT is accepted.
use Rattle.std.proofs.Common.{Ok, Err, Some}
use mathlib.Core.Path.{◌≡◌, refl, sym, ap, ◌∙◌}
use mathlib.Core.Bool.{Bool, true, false, cond, false≢true, true≢false}
use mathlib.Core.List.{List, [], ◌∷◌}
use Prim.Native.Nat.{ℕ}
use native.Mathlib.Omega.{arith}
use lib.Dec.{eqb}
use lib.ListN.{set}
use borrow.Author.Tests.{eqb-true}
use Rattle.rows.proofs.Choices.{either}
use Rattle.unit.specs.Units.{slot_of, is_waiting, well_formed, with_slot, rested}
use Rattle.refusals.specs.Refusals.{lowest}
use Rattle.requests.specs.declared.Target.{Target}
use Rattle.requests.specs.declared.Request.{Request}
use Rattle.unit.specs.declared.Slot.{Slot}
use Rattle.unit.specs.declared.Slot.TheVariants.{Empty, Waiting}
use Rattle.unit.specs.declared.Unit.{Unit}
use Rattle.cdb.specs.Cdb.{immed, wanted, request_for}
use Rattle.operations.specs.Operations.{failure_of, one_more, flushes_of, flush_counted, report_good, report_failed, accepted_as}
use Rattle.exchange.specs.Answered.{flushed_well, failed}
use Rattle.bridge.specs.Bridge.{start_stop_rows}
use Rattle.exchange.specs.Exchange.{answer_rows}
use Rattle.bridge.specs.declared.StartStopped.{StartStopped}
use Rattle.requests.specs.declared.Reply.{Reply}
use Rattle.requests.specs.declared.Reply.TheVariants.{Good, Bad}
use Rattle.operations.specs.declared.Report.{Report}
use Rattle.calls.specs.Calls.{Call, start_stop, accepted, outcome, step, run, history}
use Rattle.refusals.proofs.Lowest.{not_applies}
use Rattle.calls.proofs.Numbers.{own_told, start_wants, start_accepted}
use Rattle.unit.proofs.Hosts.{own_slot}
use Rattle.calls.proofs.WellFormed.{well_formed_kept}
use Rattle.calls.specs.Described.{is_reset}
use Rattle.runs.specs.Deeds.{Deed, begins, goes_on, ends, does, was_refused, beginning, deeds, does_a}
use Rattle.runs.specs.Reports.{ends_for, begins_for, end_reports, still_open, fates, WaitsAs, OneFate}
use Rattle.runs.proofs.Slots.{waiting_same, empty_waits, inside, slot_after, none_waits}
use Rattle.runs.proofs.Deeds.{Taken, deed_at, by_deed, Leaves, sweeps, marks, passes, all_others}
use Rattle.refusals.specs.declared.Refusal.TheVariants.{BadHost, OwnWaiting}
use Rattle.refusals.specs.Refusals.{Verdict}

-- ---- what a call is to host k's operation

-- The deed is (or is not) a START STOP UNIT of this host accepted, an end report of this host, a reset.
abbrev Means : ℕ → Deed → Bool → Bool → Bool → Type 0
Means k d begun ended reset = (begins_for k d ≡ begun) × (ends_for k d ≡ ended) × (does_a is_reset d ≡ reset)

not_waiting : (s : Slot) → is_waiting s ≡ false → s ≡ Empty
not_waiting Empty e = refl
not_waiting (Waiting q) e = absurd (true≢false e)

module _ (k : ℕ) (cdb : List ℕ) where
  -- The deed, with the host's slot before the call and after it. The CDB is the one that a waiting operation was accepted with.
  data Fares (before : Slot) (d : Deed) (after : Slot) : Type 0 where
    -- what waits goes on waiting, and what is empty stays so
    onward : Means k d false false false → (WaitsAs cdb before → WaitsAs cdb after) → (before ≡ Empty → after ≡ Empty) → Fares before d after
    -- an operation begins, and none did wait
    begun : Means k d true false false → before ≡ Empty → Fares before d after
    -- an end report comes, and is that of a waiting operation
    ended : Means k d false true false → (q : Request) → before ≡ Waiting q → after ≡ Empty → Fares before d after
    -- a reset leaves nothing
    cleared : Means k d false false true → after ≡ Empty → Fares before d after

  module _ (u : Unit) (fine : well_formed u ≡ true) where
    abbrev Fared : Deed → Unit → Type 0
    Fared d v = Fares (slot_of u.slots k) d (slot_of v.slots k)

    still : (d : Deed) → Means k d false false false → Fares (slot_of u.slots k) d (slot_of u.slots k)
    still d means = onward means (λ w. w) (λ e. e)

    begun_fares : (host : ℕ) (given : List ℕ) (t : Target) → lowest (start_stop_rows u host given) ≡ Ok tt
        → Fared (begins host given) (with_slot host (Waiting (request_for t given)) (rested u))
    begun_fares host given t clear =
        rw (slot_after u.slots host k (Waiting (request_for t given)) (inside u host fine (not_applies (start_stop_rows u host given) BadHost clear)))
        (on (eqb host k) refl)
      where
        on : (b : Bool) → eqb host k ≡ b
            → Fares (slot_of u.slots k) (begins host given) (cond b (Waiting (request_for t given)) (slot_of u.slots k))
        on true e =
            begun (e, refl, refl)
            (rw (← eqb-true host k e) (not_waiting (slot_of u.slots host) (not_applies (start_stop_rows u host given) OwnWaiting clear)))
        on false e = still (begins host given) (e, refl, refl)

    module _ (host : ℕ) (q : Request) (taken : Taken u host q) where
      after : (s : Slot) → slot_of (set u.slots host s) k ≡ cond (eqb host k) s (slot_of u.slots k)
      after s = slot_after u.slots host k s (inside u host fine (not_applies (answer_rows u host) BadHost taken.clear))

      own : eqb host k ≡ true → slot_of u.slots k ≡ Waiting q
      own e = rw (← eqb-true host k e) taken.waiting

      flushed_fares : Fared (goes_on host Good) (flushed_well u host q).unit
      flushed_fares = rw (after (Waiting (flush_counted q))) (on (eqb host k) refl)
        where
          on : (b : Bool) → eqb host k ≡ b
              → Fares (slot_of u.slots k) (goes_on host Good) (cond b (Waiting (flush_counted q)) (slot_of u.slots k))
          on true e =
              onward (refl, refl, refl)
              (λ w. let same = waiting_same w.0 q (sym w.1 ∙ own e) in
              (flush_counted q, refl, w.2 ∙ ap (λ (r : Request). Some r.target) same, w.3 ∙ ap (λ (r : Request). r.immed) same))
              (λ none. empty_waits q (sym none ∙ own e))
          on false e = still (goes_on host Good) (refl, refl, refl)

      ended_fares : (reply : Reply) (report : Report)
          → Fares (slot_of u.slots k) (ends host reply report) (slot_of (set u.slots host Empty) k)
      ended_fares reply report = rw (after Empty) (on (eqb host k) refl)
        where
          on : (b : Bool) → eqb host k ≡ b → Fares (slot_of u.slots k) (ends host reply report) (cond b Empty (slot_of u.slots k))
          on true e = ended (refl, e, refl) q (own e) refl
          on false e = still (ends host reply report) (refl, e, refl)

      failed_fares : (n : ℕ) → Fared (ends host Bad (report_failed q.immed (failure_of q.target) n)) (failed u host q n).unit
      failed_fares n =
          let report = report_failed q.immed (failure_of q.target) n in
          either (Fared (ends host Bad report)) q.immed _ _ (ended_fares Bad report) (ended_fares Bad report)

    other_fares : (c : Call) (v : Unit) → Leaves u c v → Fared (does c) v
    other_fares c v (sweeps power-on is slots none mark) = cleared (refl, refl, is.0) (rw slots (none_waits k))
    other_fares c v (marks is none slots same mark) = rw slots (still (does c) (refl, refl, is.0))
    other_fares c v (passes is slots same mark) = rw slots (still (does c) (refl, refl, is.0))

    fares : (c : Call) → Fared (deed_at u c) (step u c)
    fares = by_deed Fared u (record {
      refused = λ c. still (was_refused c) (refl, refl, refl);
      aborted = λ q a. still _ (refl, refl, refl);
      begun = λ host given t clear wants. begun_fares host given t clear;
      asked = λ host q clear waits. still _ (refl, refl, refl);
      flushed = λ host q taken f. flushed_fares host q taken;
      flush_failed = λ host q taken f. failed_fares host q taken (one_more (flushes_of q.stage));
      last_succeeded = λ host q taken f. ended_fares host q taken Good (report_good q.immed (flushes_of q.stage));
      last_failed = λ host q taken f. failed_fares host q taken (flushes_of q.stage);
    }) (all_others Fared u (λ c v did. other_fares c v did.leaves))

  -- ---- one call, then the deeds that follow

  module _ {before after : Slot} {d : Deed} (ds : List Deed) where
    none_first : Fares before d after → before ≡ Empty → (after ≡ Empty → end_reports k ds ≡ 0) → end_reports k (d ∷ ds) ≡ 0
    none_first (onward means waits none) empty later = rw (means.0, means.1) (later (none empty))
    none_first (begun means none) empty later = rw means.0
    none_first (ended means q waiting none) empty later = empty_waits q (sym empty ∙ waiting)
    none_first (cleared means none) empty later = rw (means.0, means.1) (later none)

    fate_first : Fares before d after → WaitsAs cdb before → (WaitsAs cdb after → fates k ds ≡ 1) → (after ≡ Empty → end_reports k ds ≡ 0)
        → fates k (d ∷ ds) ≡ 1
    fate_first (onward means waits none) w later over = rw (means.0, means.1, means.2) (later (waits w))
    fate_first (begun means none) w later over = empty_waits w.0 (sym none ∙ w.1)
    fate_first (ended means q waiting none) w later over = rw (means.0, means.1, means.2, over none)
    fate_first (cleared means none) w later over = rw (means.0, means.1, means.2, over none)

    open_first : Fares before d after → WaitsAs cdb before → still_open k (d ∷ ds) ≡ true → WaitsAs cdb after × (still_open k ds ≡ true)
    open_first (onward means waits none) w unended = (waits w, rw (means.0, means.1, means.2) at unended)
    open_first (begun means none) w unended = absurd (false≢true (rw means.0 at unended))
    open_first (ended means q waiting none) w unended = absurd (false≢true (rw (means.0, means.1) at unended))
    open_first (cleared means none) w unended = absurd (false≢true (rw (means.0, means.1, means.2) at unended))

  -- ---- along a run

  -- With its slot empty, the host has no end report until its next START STOP UNIT is accepted.
  none_more : (u : Unit) (cs : List Call) → well_formed u ≡ true → slot_of u.slots k ≡ Empty → end_reports k (deeds (history u cs)) ≡ 0
  none_more u [] fine empty = refl
  none_more u (c ∷ cs) fine empty =
      none_first (deeds (history (step u c) cs)) (fares u fine c) empty (none_more (step u c) cs (well_formed_kept u c fine))

  -- A waiting operation has one fate.
  waiting_fate : (u : Unit) (cs : List Call) → well_formed u ≡ true → WaitsAs cdb (slot_of u.slots k) → fates k (deeds (history u cs)) ≡ 1
  waiting_fate u [] fine w = refl
  waiting_fate u (c ∷ cs) fine w =
      let fine-after = well_formed_kept u c fine in
      fate_first (deeds (history (step u c) cs)) (fares u fine c) w (waiting_fate (step u c) cs fine-after) (none_more (step u c) cs fine-after)

  -- While it is open, it waits.
  open_waiting : (u : Unit) (cs : List Call) → well_formed u ≡ true → WaitsAs cdb (slot_of u.slots k)
      → still_open k (deeds (history u cs)) ≡ true → WaitsAs cdb (slot_of (run u cs).slots k)
  open_waiting u [] fine w unended = w
  open_waiting u (c ∷ cs) fine w unended =
      let later = open_first (deeds (history (step u c) cs)) (fares u fine c) w unended in
      open_waiting (step u c) cs (well_formed_kept u c fine) later.0 later.1

-- ---- from its acceptance on

begun_clear : (host : ℕ) (cdb : List ℕ) (v : Verdict) → beginning host cdb v ≡ begins host cdb → v ≡ Ok tt
begun_clear host cdb (Ok _) e = refl
begun_clear host cdb (Err r) e = let no : ◌≡◌ {A = ℕ} 0 1 = cc in absurd (omega arith)

module _ (u : Unit) (host : ℕ) (cdb : List ℕ) (fine : well_formed u ≡ true) (accepts : deed_at u (start_stop host cdb) ≡ begins host cdb) where
  clear : lowest (start_stop_rows u host cdb) ≡ Ok tt
  clear = sym (own_told u (start_stop host cdb)) ∙ begun_clear host cdb _ accepts

  abbrev target : Target
  target = (start_wants u host cdb clear).0

  wants : wanted cdb ≡ Some target
  wants = (start_wants u host cdb clear).1

  begun_slot : slot_of (step u (start_stop host cdb)).slots host ≡ Waiting (request_for target cdb)
  begun_slot =
      ap (λ (o : StartStopped). slot_of o.unit.slots host) (start_accepted u host cdb target clear wants)
      ∙ own_slot u.slots host (Waiting (request_for target cdb)) (inside u host fine (not_applies (start_stop_rows u host cdb) BadHost clear))

  begun_waits : WaitsAs cdb (slot_of (step u (start_stop host cdb)).slots host)
  begun_waits = (request_for target cdb, begun_slot, wants, refl)

  pub begun_said : (outcome u (start_stop host cdb)).said ≡ accepted (Ok (accepted_as (immed cdb)))
  begun_said = ap (λ (o : StartStopped). accepted o.answer) (start_accepted u host cdb target clear wants)

-- Each accepted START STOP UNIT has exactly one end report, or was taken by a reset, or still waits at the end.
pub one_fate : OneFate outcome
one_fate u host cdb cs fine accepts =
    let v = step u (start_stop host cdb) in
    let fine-then = well_formed_kept u (start_stop host cdb) fine in
    let waits = begun_waits u host cdb fine accepts in
    (waiting_fate host cdb v cs fine-then waits, open_waiting host cdb v cs fine-then waits)
