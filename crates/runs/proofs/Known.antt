-- The past knows the record: of each waiting operation the CDB, the flushes answered and the answers, and of what is out whether it is a flush.
-- Each call keeps that, case by case; a case that changes a slot is split by whether it is this host's.
use Rattle.std.proofs.Common.{Ok, Some, None, Option}
use mathlib.Core.Path.{◌≡◌, refl, sym, ap, subst, ◌∙◌}
use mathlib.Core.Bool.{Bool, true, false, ◌||◌, cond, true≢false}
use mathlib.Core.List.{List, [], ◌∷◌, reverse_aux}
use Prim.Native.Nat.{ℕ, zero, suc, ◌+◌, ◌<◌}
use native.Mathlib.Omega.{arith}
use lib.Dec.{eqb, ltb}
use lib.ListN.{length, set, replicate}
use borrow.Author.Tests.{ltb-true, ltb-false, le-ltb, eq-eqb, eqb-true, not-false}
use Rattle.rows.proofs.Choices.{either}
use Rattle.unit.specs.Units.{slot_of, well_formed, with_slot, rested}
use Rattle.refusals.specs.Refusals.{lowest}
use Rattle.requests.specs.declared.Target.{Target}
use Rattle.requests.specs.declared.Target.TheVariants.{Stop, Start, GoTo}
use Rattle.requests.specs.declared.Stage.{Stage}
use Rattle.requests.specs.declared.Stage.TheVariants.{Straight, Flushing}
use Rattle.requests.specs.declared.Request.{Request}
use Rattle.unit.specs.declared.Slot.{Slot}
use Rattle.unit.specs.declared.Slot.TheVariants.{Empty, Waiting}
use Rattle.unit.specs.declared.Unit.{Unit}
use Rattle.cdb.specs.Cdb.{byte, immed, no_flush, reserved_in_cdb, wanted, stage_for, request_for}
use Rattle.operations.specs.Operations.{failure_of, registers_of, due_at, due_from, is_flush, one_more, flushes_of, flush_counted, report_good, report_failed}
use Rattle.exchange.specs.Answered.{flushed_well, failed}
use Rattle.bridge.specs.Bridge.{start_stop_rows}
use Rattle.exchange.specs.Exchange.{next_effect, answer_rows}
use Rattle.operations.specs.declared.Due.{Due}
use Rattle.operations.specs.declared.Due.TheVariants.{Flush, StandbyImmediate, ReadVerify, EpcGoTo}
use Rattle.requests.specs.declared.Reply.{Reply}
use Rattle.requests.specs.declared.Reply.TheVariants.{Good, Bad}
use Rattle.operations.specs.declared.Report.{Report}
use Rattle.calls.specs.Calls.{Call, step, run, history}
use Rattle.refusals.proofs.Lowest.{not_applies}
use Rattle.cdb.proofs.Requests.{listed_unreserved}
use Rattle.calls.proofs.WellFormed.{well_formed_kept}
use Rattle.calls.proofs.Progress.{last_no_flush}
use Rattle.runs.specs.Deeds.{Deed, begins, hands_out, goes_on, ends, does, deeds}
use Rattle.runs.specs.Past.{past_of, cdb_of, flush_sent, answers_got, flushes_answered, held_at255}
use Rattle.runs.specs.Serial.{nothing_waits}
use Rattle.runs.specs.Safe.{flushing}
use Rattle.runs.proofs.Slots.{Quiet, waiting_same, empty_waits, out_same, taken_out, none_out_for, inside, slot_after, none_waits, nothing_waits_lem}
use Rattle.runs.proofs.Deeds.{Taken, deed_at, by_deed, Leaves, sweeps, marks, passes, all_others}
use Rattle.refusals.specs.declared.Refusal.TheVariants.{BadField, BadHost, BadLength, BadOpcode, CommandOut, HasNone}

-- ---- a fact of the past and of the record, along a run

module _ (P : List Deed → Unit → Type 0) (kept : (past : List Deed) (u : Unit) (c : Call) → P past u → P (deed_at u c ∷ past) (step u c)) where
  pub along : (past : List Deed) (u : Unit) (cs : List Call) → P past u → P (reverse_aux (deeds (history u cs)) past) (run u cs)
  along past u [] p = p
  along past u (c ∷ cs) p = along (deed_at u c ∷ past) (step u c) cs (kept past u c p)

-- ---- what is known of a waiting operation

-- the answers that it has got: its last flush's, which was good, once there was one
abbrev pub goods : ℕ → List Reply
goods zero = []
goods (suc n) = Good ∷ []

-- An operation that sends no flush has none answered; one that does has its count as its progress. The first stage is that of its acceptance.
abbrev pub Reached : Stage → Stage → ℕ → List Reply → Type 0
Reached Straight now n answers = (now ≡ Straight) × (n ≡ 0) × (answers ≡ [])
Reached (Flushing m) now n answers = (now ≡ Flushing (held_at255 n)) × (answers ≡ goods n)

-- The CDB is one that START STOP UNIT takes, and asks for this request; the request stands where its flushes answered have brought it.
pub record Noted (cdb : List ℕ) (n : ℕ) (answers : List Reply) (q : Request) : Type 0 where
  pub six : length cdb ≡ 6
  pub opcode : byte 0 cdb ≡ 0x1B
  pub unreserved : reserved_in_cdb cdb ≡ false
  pub wants : wanted cdb ≡ Some q.target
  pub immediate : immed cdb ≡ q.immed
  pub reached : Reached (stage_for q.target (no_flush cdb)) q.stage n answers

abbrev pub NotedBy : List Deed → ℕ → Request → Type 0
NotedBy past host q = Noted (cdb_of host past) (flushes_answered host past) (answers_got host past) q

abbrev pub Operations : List Deed → List Slot → Type 0
Operations past slots = (host : ℕ) (q : Request) → slot_of slots host ≡ Waiting q → NotedBy past host q

-- Of a command that is out the past tells whether it is a flush.
abbrev pub OutNoted : List Deed → List Slot → Bool → Option ℕ → Type 0
OutNoted past slots unsaved out = (host : ℕ) (q : Request) → out ≡ Some host → slot_of slots host ≡ Waiting q
    → flush_sent host past ≡ is_flush (due_from unsaved q)

abbrev pub Known : List Deed → Unit → Type 0
Known past u = (well_formed u ≡ true) × Operations past u.slots × OutNoted past u.slots u.unsaved u.out

-- ---- counts and commands

pub counts_on : (n : ℕ) → one_more (held_at255 n) ≡ held_at255 (suc n)
counts_on n = on (ltb n 255) refl
  where
    below : (b : Bool) → ltb (suc n) 255 ≡ b → n < 255 → n + 1 ≡ cond b (suc n) 255
    below true e h = omega arith
    below false e h = omega (arith, ltb-false (suc n) 255 e)

    on : (b : Bool) → ltb n 255 ≡ b → one_more (cond b n 255) ≡ held_at255 (suc n)
    on true e = rw e (below (ltb (suc n) 255) refl (ltb-true n 255 e))
    on false e = rw (le-ltb (suc n) 255 (omega (arith, ltb-false n 255 e)))

pub is_flush_lem : (d : Due) → eqb (registers_of d).command 0xE7 ≡ is_flush d
is_flush_lem Flush = refl
is_flush_lem StandbyImmediate = refl
is_flush_lem ReadVerify = refl
is_flush_lem (EpcGoTo c) = refl

-- ---- each case

-- Sending no flush is another stage than flushing.
pub straight_flushing : {A : Type 0} (n : ℕ) → Straight ≡ Flushing n → A
straight_flushing n e = let apart : ◌≡◌ {A = ℕ} 0 1 = cc in absurd (omega arith)

-- An operation that sends no flush has no flush due.
pub straight_no_flush : (unsaved : Bool) (q : Request) → q.stage ≡ Straight → is_flush (due_from unsaved q) ≡ false
straight_no_flush unsaved q e = rw e (last_no_flush q.target)

-- One that flushes has its last command due once a flush is answered and nothing is unsaved.
pub last_means : (n : ℕ) (unsaved : Bool) (last : Due) → is_flush (due_at (Flushing n) unsaved last) ≡ false → (eqb n 0 ≡ false) × (unsaved ≡ false)
last_means n unsaved last f = on (eqb n 0) unsaved f
  where
    on : (b c : Bool) → is_flush (cond (b || c) Flush last) ≡ false → (b ≡ false) × (c ≡ false)
    on true c f = absurd (true≢false f)
    on false true f = absurd (true≢false f)
    on false false f = (refl, refl)

-- A flush answered brings a flushing operation one further.
flush_reached : (begun : Stage) (n : ℕ) (answers : List Reply) (unsaved : Bool) (q : Request) → Reached begun q.stage n answers
    → is_flush (due_from unsaved q) ≡ true → Reached begun (Flushing (one_more (flushes_of q.stage))) (suc n) (Good ∷ [])
flush_reached Straight n answers unsaved q r f = absurd (true≢false (sym f ∙ straight_no_flush unsaved q r.0))
flush_reached (Flushing m) n answers unsaved q r f = (rw (r.0, counts_on n), refl)

-- An operation begins with a flush to come exactly if it is a flushing one, and then with none answered.
pub begins_with : (t : Target) (without : Bool) → stage_for t without ≡ cond (flushing (Some t) without) (Flushing 0) Straight
begins_with Stop true = refl
begins_with Stop false = refl
begins_with Start without = refl
begins_with (GoTo c) true = refl
begins_with (GoTo c) false = refl

pub begins_flushing : (t : Target) (without : Bool) (m : ℕ) → stage_for t without ≡ Flushing m → flushing (Some t) without ≡ true
begins_flushing t without m e = on (flushing (Some t) without) (sym (begins_with t without) ∙ e)
  where
    on : (b : Bool) → cond b (Flushing 0) Straight ≡ Flushing m → b ≡ true
    on true e = refl
    on false e = straight_flushing m e

fresh_reached : (t : Target) (without : Bool) → Reached (stage_for t without) (stage_for t without) 0 []
fresh_reached t without = rw (begins_with t without) (on (flushing (Some t) without))
  where
    on : (b : Bool) → let stage = cond b (Flushing 0) Straight in Reached stage stage 0 []
    on true = (refl, refl)
    on false = (refl, refl, refl)

-- A CDB that is accepted, as the request that it asks for.
begun_noted : (u : Unit) (host : ℕ) (cdb : List ℕ) (t : Target) → lowest (start_stop_rows u host cdb) ≡ Ok tt → wanted cdb ≡ Some t
    → Noted cdb 0 [] (request_for t cdb)
begun_noted u host cdb t clear wants = record {
  six = eqb-true _ _ (not-false _ (not_applies (start_stop_rows u host cdb) BadLength clear));
  opcode = eqb-true _ _ (not-false _ (not_applies (start_stop_rows u host cdb) BadOpcode clear));
  unreserved = listed_unreserved u.drive.records cdb (not-false _ (not_applies (start_stop_rows u host cdb) BadField clear));
  wants = wants;
  immediate = refl;
  reached = fresh_reached t (no_flush cdb);
}

-- A flush that was answered well.
flushed_noted : (cdb : List ℕ) (n : ℕ) (answers : List Reply) (unsaved : Bool) (q : Request) → Noted cdb n answers q
    → is_flush (due_from unsaved q) ≡ true → Noted cdb (suc n) (Good ∷ []) (flush_counted q)
flushed_noted cdb n answers unsaved q noted f = record {
  six = noted.six;
  opcode = noted.opcode;
  unreserved = noted.unreserved;
  wants = noted.wants;
  immediate = noted.immediate;
  reached = flush_reached (stage_for q.target (no_flush cdb)) n answers unsaved q noted.reached f;
}

module _ (past : List Deed) (u : Unit) (known : Known past u) where
  abbrev ops : Operations past u.slots
  ops = known.1

  abbrev out : OutNoted past u.slots u.unsaved u.out
  out = known.2

  abbrev Stay : Deed → Unit → Type 0
  Stay d v = Operations (d ∷ past) v.slots × OutNoted (d ∷ past) v.slots v.unsaved v.out

  begun_stays : (host : ℕ) (cdb : List ℕ) (t : Target) → lowest (start_stop_rows u host cdb) ≡ Ok tt → wanted cdb ≡ Some t
      → Stay (begins host cdb) (with_slot host (Waiting (request_for t cdb)) (rested u))
  begun_stays host cdb t clear wants = (
    λ k q w. on k q (eqb host k) (sym (slot_after u.slots host k _ (inside u host known.0 (not_applies (start_stop_rows u host cdb) BadHost clear))) ∙ w),
    λ k q o w. none_out_for u.out k (not_applies (start_stop_rows u host cdb) CommandOut clear) o,
  )
    where
      on : (k : ℕ) (q : Request) (b : Bool) → cond b (Waiting (request_for t cdb)) (slot_of u.slots k) ≡ Waiting q
          → Noted (cond b cdb (cdb_of k past)) (cond b 0 (flushes_answered k past)) (cond b [] (answers_got k past)) q
      on k q true w = rw (← waiting_same _ q w) (begun_noted u host cdb t clear wants)
      on k q false w = ops k q w

  asked_stays : (host : ℕ) (q : Request) → slot_of u.slots host ≡ Waiting q
      → Stay (hands_out host (registers_of (due_from u.unsaved q))) (next_effect host u)
  asked_stays host q waits = (
    ops,
    λ k p o w.
        rw (eq-eqb host k (out_same host k o)) (is_flush_lem (due_from u.unsaved q))
        ∙ ap (λ (r : Request). is_flush (due_from u.unsaved r)) (waiting_same q p (sym waits ∙ ap (slot_of u.slots) (out_same host k o) ∙ w)),
  )

  -- An answer to the host's operation: its slot is set, and nothing is out.
  answered_stays : (d : Deed) (host : ℕ) (q : Request) (s : Slot) (unsaved : Bool) → Taken u host q
      → ((k : ℕ) (p : Request) (b : Bool) → eqb host k ≡ b → cond b s (slot_of u.slots k) ≡ Waiting p → NotedBy (d ∷ past) k p)
      → Operations (d ∷ past) (set u.slots host s) × OutNoted (d ∷ past) (set u.slots host s) unsaved None
  answered_stays d host q s unsaved taken noted = (
    λ k p w.
        noted k p (eqb host k) refl
        (sym (slot_after u.slots host k s (inside u host known.0 (not_applies (answer_rows u host) BadHost taken.clear))) ∙ w),
    λ k p o w. none_out_for None k refl o,
  )

  -- An answer that is taken is to the command that was due.
  pub sent_due : (host : ℕ) (q : Request) → Taken u host q → flush_sent host past ≡ is_flush (due_from u.unsaved q)
  sent_due host q taken = out host q (taken_out u host (not_applies (answer_rows u host) HasNone taken.clear)) taken.waiting

  flushed_stays : (host : ℕ) (q : Request) → Taken u host q → is_flush (due_from u.unsaved q) ≡ true
      → Stay (goes_on host Good) (flushed_well u host q).unit
  flushed_stays host q taken f = answered_stays (goes_on host Good) host q (Waiting (flush_counted q)) false taken noted
    where
      noted : (k : ℕ) (p : Request) (b : Bool) → eqb host k ≡ b → cond b (Waiting (flush_counted q)) (slot_of u.slots k) ≡ Waiting p
          → NotedBy (goes_on host Good ∷ past) k p
      noted k p true e w =
          rw (e, sent_due host q taken ∙ f, ← waiting_same _ p w)
          (subst (λ j. Noted (cdb_of j past) (suc (flushes_answered j past)) (Good ∷ []) (flush_counted q)) (eqb-true host k e)
          (flushed_noted _ _ _ u.unsaved q (ops host q taken.waiting) f))
      noted k p false e w = rw e (ops k p w)

  ended_stays : (host : ℕ) (reply : Reply) (report : Report) (q : Request) (unsaved : Bool) → Taken u host q
      → Operations (ends host reply report ∷ past) (set u.slots host Empty)
      × OutNoted (ends host reply report ∷ past) (set u.slots host Empty) unsaved None
  ended_stays host reply report q unsaved taken = answered_stays (ends host reply report) host q Empty unsaved taken noted
    where
      noted : (k : ℕ) (p : Request) (b : Bool) → eqb host k ≡ b → cond b Empty (slot_of u.slots k) ≡ Waiting p
          → NotedBy (ends host reply report ∷ past) k p
      noted k p true e w = empty_waits p w
      noted k p false e w = rw e (ops k p w)

  failed_stays : (host : ℕ) (q : Request) (n : ℕ) → Taken u host q
      → Stay (ends host Bad (report_failed q.immed (failure_of q.target) n)) (failed u host q n).unit
  failed_stays host q n taken =
      let report = report_failed q.immed (failure_of q.target) n in
      let over = ended_stays host Bad report q u.unsaved taken in
      either (Stay (ends host Bad report)) q.immed _ _ over over

  cleared : (d : Deed) (unsaved : Bool)
      → Operations (d ∷ past) (replicate 4 Empty) × OutNoted (d ∷ past) (replicate 4 Empty) unsaved None
  cleared d unsaved = (λ k q w. empty_waits q (sym (none_waits k) ∙ w), λ k q o w. none_out_for None k refl o)

  -- A call that is no part of an operation.
  other_stays : (c : Call) (v : Unit) → Leaves u c v → Stay (does c) v
  other_stays c v (sweeps power-on is slots none mark) = rw (slots, none) (cleared (does c) v.unsaved)
  other_stays c v (marks is none slots same mark) = rw (slots, same) (ops, λ k q o w. none_out_for u.out k none o)
  other_stays c v (passes is slots same mark) = rw (slots, same, mark) (ops, out)

  stays : (c : Call) → Stay (deed_at u c) (step u c)
  stays = by_deed Stay u (record {
    refused = λ c. (ops, out);
    aborted = λ q a. (ops, out);
    begun = begun_stays;
    asked = λ host q clear. asked_stays host q;
    flushed = flushed_stays;
    flush_failed = λ host q taken f. failed_stays host q (one_more (flushes_of q.stage)) taken;
    last_succeeded = λ host q taken f. ended_stays host Good (report_good q.immed (flushes_of q.stage)) q u.unsaved taken;
    last_failed = λ host q taken f. failed_stays host q (flushes_of q.stage) taken;
  }) (all_others Stay u (λ c v did. other_stays c v did.leaves))

-- What is known of the record stays known, whatever the call.
pub known_kept : (past : List Deed) (u : Unit) (c : Call) → Known past u → Known (deed_at u c ∷ past) (step u c)
known_kept past u c known =
    let stay = stays past u known c in
    (well_formed_kept u c known.0, stay.0, stay.1)

-- With nothing waiting there is nothing to know.
pub known_at_first : (u : Unit) → well_formed u ≡ true → Quiet u → Known [] u
known_at_first u fine none = (fine, λ k q w. empty_waits q (sym (none k) ∙ w), λ k q o w. empty_waits q (sym (none k) ∙ w))

-- So over any run from there the past knows the record.
pub known_after : (u : Unit) → well_formed u ≡ true → nothing_waits u ≡ true → (cs : List Call) → Known (past_of u cs) (run u cs)
known_after u fine none cs = along Known known_kept [] u cs (known_at_first u fine (nothing_waits_lem u none))
