-- A waiting operation with nothing out always gets a command, and every answer to it ends it or counts one flush and clears the unsaved mark.
-- The mark is set again only by an accepted write, so without one the next command is the last, and its answer ends the operation.
use Rattle.std.proofs.Common.{Ok, Err, Some, None}
use mathlib.Core.Path.{◌≡◌, refl, ap, sym, ◌∙◌}
use mathlib.Core.Bool.{Bool, true, false, not, ◌&&◌, ◌||◌, cond, true≢false}
use mathlib.Core.List.{List, [], ◌∷◌}
use mathlib.Core.Logic.{◌⊎◌, inl, inr, ⊎_elim}
use Prim.Native.Nat.{ℕ, suc, ◌+◌, ◌<◌, ◌≤◌}
use native.Mathlib.Omega.{arith}
use lib.Dec.{eqb, ltb, eqb-suc-zero}
use lib.ListN.{length, get_or-eq_default}
use borrow.Author.Tests.{ltb-true, ltb-false, le-ltb, eqb-false, eq-eqb, ne_eqb, not-true}
use Rattle.rows.specs.Rows.{every_at}
use Rattle.rows.proofs.Places.{and_left, and_right}
use Rattle.rows.proofs.Choices.{either}
use Rattle.unit.specs.Units.{slot_of, is_waiting, well_formed}
use Rattle.refusals.specs.Refusals.{lowest}
use Rattle.outcomes.specs.Settled.{settled}
use Rattle.engine.specs.Engine.{medium_rows, write_effect, write_outcome}
use Rattle.requests.specs.declared.Target.{Target}
use Rattle.requests.specs.declared.Target.TheVariants.{Stop, Start, GoTo}
use Rattle.requests.specs.declared.Stage.TheVariants.{Straight, Flushing}
use Rattle.requests.specs.declared.Request.{Request}
use Rattle.unit.specs.declared.Slot.TheVariants.{Empty, Waiting}
use Rattle.unit.specs.declared.Unit.{Unit}
use Rattle.operations.specs.Operations.{registers_of, last_of, due_from, is_flush, one_more, flushes_of, flush_counted, is_good}
use Rattle.exchange.specs.Answered.{flushed_well, failed, succeeded, flush_answered, last_answered, answered_for}
use Rattle.bridge.specs.Bridge.{start_stop_rows}
use Rattle.exchange.specs.Exchange.{next_rows, next_outcome, answer_rows, answer_outcome}
use Rattle.operations.specs.declared.Due.{Due}
use Rattle.requests.specs.declared.Reply.{Reply}
use Rattle.operations.specs.declared.Report.{Report}
use Rattle.operations.specs.declared.Progress.TheVariants.{More, Ended}
use Rattle.exchange.specs.declared.Replied.{Replied}
use Rattle.calls.specs.Calls.{Call, set_features, tick, read, write, power_on, hard_reset, soft_reset, start_stop, next, answer, request_sense, log_page, transitions_page, new_page, Said, plain, outcome, step, run, Event, history}
use Rattle.calls.specs.Described.{is_reset, is_write, is_answer_for}
use Rattle.calls.specs.Table.{verdict_in, is_clear}
use Rattle.refusals.proofs.Lowest.{not_applies}
use Rattle.refusals.specs.declared.Refusal.TheVariants.{OwnWaiting}
use Rattle.calls.proofs.Steps.{after_every}
use Rattle.unit.proofs.Hosts.{own_slot, other_slot}
use Rattle.unit.proofs.WellFormed.{unit_fine}
use Rattle.calls.proofs.WellFormed.{well_formed_kept, run_well_formed}
use Rattle.refusals.specs.Refusals.{Verdict}
use Rattle.unit.specs.declared.Slot.{Slot}

-- ---- asking for the next command

-- The host is given the command that is due from its operation; that command is then out, and the slots and the unsaved mark stay.
pub record Sends (u : Unit) (host : ℕ) (q : Request) : Type 0 where
  pub answer : (next_outcome u host).answer ≡ Ok (registers_of (due_from u.unsaved q))
  pub out : (next_outcome u host).unit.out ≡ Some host
  pub slots : (next_outcome u host).unit.slots ≡ u.slots
  pub unsaved : (next_outcome u host).unit.unsaved ≡ u.unsaved

module _ (u : Unit) (fine : well_formed u ≡ true) (host : ℕ) (q : Request) (waiting : slot_of u.slots host ≡ Waiting q) where
  -- An operation waits only for one of the hosts 0 to 3.
  pub host_below : host < 4
  host_below = on (ltb host 4) refl
    where
      four : length u.slots ≡ 4
      four = ((unit_fine u).0 fine).slots

      on : (b : Bool) → ltb host 4 ≡ b → host < 4
      on true e = ltb-true host 4 e
      on false e =
          let past : length u.slots ≤ host = omega (arith, four, ltb-false host 4 e) in
          let empty : Empty ≡ Waiting q = sym (get_or-eq_default u.slots Empty past) ∙ waiting in
          let no : ◌≡◌ {A = ℕ} 0 1 = cc in
          absurd (omega arith)

  pub next_clear : u.out ≡ None → lowest (next_rows u host) ≡ Ok tt
  unfolding lowest
  next_clear none = rw (le-ltb 3 host (omega (arith, host_below)), fine, none, waiting)

  -- A waiting operation with nothing out always gets its command.
  pub next_sends : u.out ≡ None → Sends u host q
  unfolding next_outcome
  next_sends none = record {
    answer = rw (next_clear none, waiting);
    out = rw (next_clear none, waiting);
    slots = rw (next_clear none, waiting);
    unsaved = rw (next_clear none, waiting);
  }

  pub answer_clear : u.out ≡ Some host → lowest (answer_rows u host) ≡ Ok tt
  unfolding lowest
  answer_clear out = rw (le-ltb 3 host (omega (arith, host_below)), fine, out, eq-eqb host host refl)

  pub answer_taken : u.out ≡ Some host → (reply : Reply) → answer_outcome u host reply ≡ answered_for u host q reply
  unfolding answer_outcome
  answer_taken out reply = rw (answer_clear out, waiting)

-- ---- the answer

-- An answer is judged by the command that is due.
pub flush_answered_lem : (u : Unit) (host : ℕ) (q : Request) (reply : Reply) → is_flush (due_from u.unsaved q) ≡ true
    → answered_for u host q reply ≡ flush_answered u host q reply
unfolding answered_for
flush_answered_lem u host q reply f = rw f

pub last_answered_lem : (u : Unit) (host : ℕ) (q : Request) (reply : Reply) → is_flush (due_from u.unsaved q) ≡ false
    → answered_for u host q reply ≡ last_answered u host q reply
unfolding answered_for
last_answered_lem u host q reply f = rw f

-- The operation is over: the answer says so, with its report, and the slot is empty. Nothing is out.
pub record Over (host : ℕ) (r : Replied) : Type 0 where
  pub report : Report
  pub answer : r.answer ≡ Ok (Ended report)
  pub slot : slot_of r.unit.slots host ≡ Empty
  pub out : r.unit.out ≡ None

-- The operation goes on with one more flush counted, and what was written is saved. Nothing is out.
pub record Counted (host : ℕ) (q : Request) (r : Replied) : Type 0 where
  pub answer : r.answer ≡ Ok More
  pub slot : slot_of r.unit.slots host ≡ Waiting (flush_counted q)
  pub unsaved : r.unit.unsaved ≡ false
  pub out : r.unit.out ≡ None

module _ (u : Unit) (host : ℕ) (q : Request) (inside : host < length u.slots) where
  failed_over : (n : ℕ) → Over host (failed u host q n)
  failed_over n = record {
    report = _;
    answer = refl;
    slot = either (λ (v : Unit). slot_of v.slots host ≡ Empty) q.immed _ _ (own_slot u.slots host Empty inside) (own_slot u.slots host Empty inside);
    out = either (λ (v : Unit). v.out ≡ None) q.immed _ _ refl refl;
  }

  succeeded_over : Over host (succeeded u host q)
  succeeded_over = record { report = _; answer = refl; slot = own_slot u.slots host Empty inside; out = refl }

  last_over : (reply : Reply) → Over host (last_answered u host q reply)
  last_over reply = either (Over host) (is_good reply) _ _ succeeded_over (failed_over (flushes_of q.stage))

  flushed_counted : Counted host q (flushed_well u host q)
  flushed_counted = record { answer = refl; slot = own_slot u.slots host _ inside; unsaved = refl; out = refl }

-- The last command is no flush.
pub last_no_flush : (t : Target) → is_flush (last_of t) ≡ false
last_no_flush Stop = refl
last_no_flush Start = refl
last_no_flush (GoTo c) = refl

module _ (u : Unit) (fine : well_formed u ≡ true) (host : ℕ) (q : Request) (waiting : slot_of u.slots host ≡ Waiting q)
    (out : u.out ≡ Some host) (reply : Reply) where
  inside : host < length u.slots
  inside = omega (arith, host_below u fine host q waiting, ((unit_fine u).0 fine).slots)

  -- Every answer ends the operation, or counts one flush and leaves the unsaved mark clear.
  pub answer_ends_or_counts : Over host (answer_outcome u host reply) ⊎ Counted host q (answer_outcome u host reply)
  unfolding answered_for
  answer_ends_or_counts =
      rw (answer_taken u fine host q waiting out reply)
      (either P (is_flush (due_from u.unsaved q)) _ _
      (either P (is_good reply) _ _ (inr (flushed_counted u host q inside)) (inl (failed_over u host q inside _)))
      (inl (last_over u host q inside reply)))
    where
      P : Replied → Type 0
      P r = Over host r ⊎ Counted host q r

  -- The answer to the last command ends the operation.
  pub last_ends : due_from u.unsaved q ≡ last_of q.target → Over host (answer_outcome u host reply)
  unfolding answered_for
  last_ends last =
      rw (answer_taken u fine host q waiting out reply, last, last_no_flush q.target) (last_over u host q inside reply)

-- ---- when the last command is due

-- An operation that sends no flush sends its last command at once.
pub straight_due : (unsaved : Bool) (q : Request) → q.stage ≡ Straight → due_from unsaved q ≡ last_of q.target
straight_due unsaved q e = rw e

-- A flushing operation sends it once a flush is answered and nothing is unsaved.
pub flushed_due : (unsaved : Bool) (q : Request) (n : ℕ) → unsaved ≡ false → q.stage ≡ Flushing (suc n) → due_from unsaved q ≡ last_of q.target
flushed_due unsaved q n saved e = rw (saved, e, eqb-suc-zero n)

-- A flush that is counted leaves a count that is not 0.
pub one_more_some : (n : ℕ) → eqb (one_more n) 0 ≡ false
one_more_some n = on (ltb n 255) refl
  where
    on : (b : Bool) → ltb n 255 ≡ b → eqb (cond b (n + 1) n) 0 ≡ false
    on true e = ne_eqb (n + 1) 0 (λ z. omega arith)
    on false e = ne_eqb n 0 (λ z. omega (arith, ltb-false n 255 e))

-- So after it, with nothing unsaved, the last command is due.
pub counted_due : (unsaved : Bool) (q : Request) → unsaved ≡ false → due_from unsaved (flush_counted q) ≡ last_of q.target
counted_due unsaved q saved = rw (saved, one_more_some (flushes_of q.stage))

-- ---- the calls between two answers

-- An accepted write.
abbrev pub wrote : Call → Said → Bool
wrote c said = is_write c && is_clear (verdict_in said)

-- A reset, or an answer to the host's own command.
abbrev pub moves_on : ℕ → Call → Bool
moves_on k c = is_reset c || is_answer_for (λ host. eqb host k) c

module _ (u : Unit) (saved : u.unsaved ≡ false) where
  saved_unless : (c : Call) → ((said : Said) → wrote c said ≡ false) → (outcome u c).unit.unsaved ≡ false
  saved_unless = after_every (λ c v. ((said : Said) → wrote c said ≡ false) → v.unsaved ≡ false) u (record {
    none = λ c n. saved;
    aborts = λ q n. saved;
    epc = λ q e n. saved;
    ticks = λ e n. saved;
    reads = λ host n. saved;
    writes = λ host n. absurd (true≢false (n (plain (Ok tt))));
    powers_on = λ n. refl;
    resets_hard = λ n. saved;
    resets_soft = λ n. saved;
    accepts = λ host cdb t e w n. saved;
    sends = λ host e n. saved;
    flushes = λ host reply q e f n. refl;
    fails = λ host reply n. saved;
    defers = λ host reply f n. saved;
    succeeds = λ host reply q e n. saved;
    tells = λ host buffer n. saved;
  })

  -- Only an accepted write sets the unsaved mark.
  pub saved_kept : (c : Call) → wrote c (outcome u c).said ≡ false → (outcome u c).unit.unsaved ≡ false
  unfolding write_outcome
  saved_kept (set_features q) n = saved_unless (set_features q) (λ said. refl)
  saved_kept tick n = saved_unless tick (λ said. refl)
  saved_kept (read host) n = saved_unless (read host) (λ said. refl)
  saved_kept (write host) n = on (lowest (medium_rows u host)) n
    where
      on : (v : Verdict) → is_clear (verdict_in (plain (settled u (write_effect u) v).answer)) ≡ false → (settled u (write_effect u) v).unit.unsaved ≡ false
      on (Ok _) n = absurd (true≢false n)
      on (Err r) n = saved
  saved_kept power_on n = saved_unless power_on (λ said. refl)
  saved_kept hard_reset n = saved_unless hard_reset (λ said. refl)
  saved_kept soft_reset n = saved_unless soft_reset (λ said. refl)
  saved_kept (start_stop host cdb) n = saved_unless (start_stop host cdb) (λ said. refl)
  saved_kept (next host) n = saved_unless (next host) (λ said. refl)
  saved_kept (answer host reply) n = saved_unless (answer host reply) (λ said. refl)
  saved_kept (request_sense host buffer) n = saved_unless (request_sense host buffer) (λ said. refl)
  saved_kept (log_page buffer) n = saved_unless (log_page buffer) (λ said. refl)
  saved_kept (transitions_page buffer) n = saved_unless (transitions_page buffer) (λ said. refl)
  saved_kept (new_page number buffer) n = saved_unless (new_page number buffer) (λ said. refl)

-- A waiting operation stays as it is through every call that is no reset and no answer to it: its own host's START STOP UNIT is refused.
pub waiting_kept : (u : Unit) (c : Call) (k : ℕ) (q : Request) → slot_of u.slots k ≡ Waiting q → moves_on k c ≡ false
    → slot_of (outcome u c).unit.slots k ≡ Waiting q
waiting_kept u c k q waiting = after_every (λ c v. moves_on k c ≡ false → slot_of v.slots k ≡ Waiting q) u (record {
  none = λ c n. waiting;
  aborts = λ q n. waiting;
  epc = λ q e n. waiting;
  ticks = λ e n. waiting;
  reads = λ host n. waiting;
  writes = λ host n. waiting;
  powers_on = λ n. absurd (true≢false n);
  resets_hard = λ n. absurd (true≢false n);
  resets_soft = λ n. absurd (true≢false n);
  accepts = λ host cdb t clear w n. other_slot host k (not_own host cdb clear) u.slots _ ∙ waiting;
  sends = λ host e n. waiting;
  flushes = λ host reply q e f n. other_slot host k (apart host n) u.slots _ ∙ waiting;
  fails = λ host reply n. other_slot host k (apart host n) u.slots _ ∙ waiting;
  defers = λ host reply f n. other_slot host k (apart host n) u.slots _ ∙ waiting;
  succeeds = λ host reply q e n. other_slot host k (apart host n) u.slots _ ∙ waiting;
  tells = λ host buffer n. waiting;
}) c
  where
    not_own : (host : ℕ) (cdb : List ℕ) → lowest (start_stop_rows u host cdb) ≡ Ok tt → k ≡ host → ⊥
    not_own host cdb clear e =
        let none : is_waiting (slot_of u.slots host) ≡ false = not_applies (start_stop_rows u host cdb) OwnWaiting clear in
        true≢false (rw (← e, waiting) at none)

    apart : (host : ℕ) → eqb host k ≡ false → k ≡ host → ⊥
    apart host n e = eqb-false host k n (sym e)

-- ---- runs

-- The call is no reset and no answer to host k's command. (A run's calls are all so where `every_at (leaves k) 0` holds of it.)
abbrev pub leaves : ℕ → ℕ → Call → Bool
leaves k place c = not (moves_on k c)

-- The event is no accepted write.
abbrev pub keeps_saved : ℕ → Event → Bool
keeps_saved place e = not (wrote e.call e.came.said)

run_waiting : (u : Unit) (cs : List Call) (at k : ℕ) (q : Request) → slot_of u.slots k ≡ Waiting q → every_at (leaves k) at cs ≡ true
    → slot_of (run u cs).slots k ≡ Waiting q
run_waiting u [] at k q waiting h = waiting
run_waiting u (c ∷ cs) at k q waiting h =
    run_waiting (step u c) cs (suc at) k q (waiting_kept u c k q waiting (not-true (moves_on k c) (and_left _ _ h))) (and_right (leaves k at c) _ h)

run_saved : (u : Unit) (cs : List Call) (at : ℕ) → u.unsaved ≡ false → every_at keeps_saved at (history u cs) ≡ true → (run u cs).unsaved ≡ false
run_saved u [] at saved h = saved
run_saved u (c ∷ cs) at saved h =
    run_saved (step u c) cs (suc at) (saved_kept u saved c (not-true (wrote c (outcome u c).said) (and_left _ _ h)))
    (and_right (not (wrote c (outcome u c).said)) _ h)

-- Asked for, the command is the last one of the operation, and the answer to it ends the operation.
pub record EndsNext (u : Unit) (host : ℕ) (t : Target) (reply : Reply) : Type 0 where
  pub sends : (next_outcome u host).answer ≡ Ok (registers_of (last_of t))
  pub over : Over host (answer_outcome (step u (next host)) host reply)

module _ (u : Unit) (fine : well_formed u ≡ true) (host : ℕ) (q : Request) (waiting : slot_of u.slots host ≡ Waiting q) where
  -- the unit after the host has asked, with its command out
  still_waiting : u.out ≡ None → slot_of (step u (next host)).slots host ≡ Waiting q
  still_waiting none = ap (λ (l : List Slot). slot_of l host) (next_sends u fine host q waiting none).slots ∙ waiting

  ends_next : u.out ≡ None → due_from u.unsaved q ≡ last_of q.target → (reply : Reply) → EndsNext u host q.target reply
  ends_next none last reply =
      let s = next_sends u fine host q waiting none in
      let still-last = ap (λ (b : Bool). due_from b q) s.unsaved ∙ last in
      record {
        sends = s.answer ∙ ap (λ (d : Due). Ok (registers_of d)) last;
        over = last_ends (step u (next host)) (well_formed_kept u (next host) fine) host q (still_waiting none) s.out reply still-last;
      }

  -- An operation that sends no flush ends with its first answer.
  pub straight_ends : u.out ≡ None → q.stage ≡ Straight → (reply : Reply) → EndsNext u host q.target reply
  straight_ends none e = ends_next none (straight_due u.unsaved q e)

  -- One that flushes ends with the next answer once a flush is answered and nothing is unsaved.
  pub flushed_ends : u.out ≡ None → u.unsaved ≡ false → (n : ℕ) → q.stage ≡ Flushing (suc n) → (reply : Reply)
      → EndsNext u host q.target reply
  flushed_ends none saved n e = ends_next none (flushed_due u.unsaved q n saved e)

  -- After an answer that counted a flush, and any calls but a reset, an answer to this operation or an accepted write, the last command is due.
  last_after : (reply : Reply) (mid : List Call) → let w = run (step u (answer host reply)) mid in
      Counted host q (answer_outcome u host reply) → every_at (leaves host) 0 mid ≡ true
      → every_at keeps_saved 0 (history (step u (answer host reply)) mid) ≡ true
      → (slot_of w.slots host ≡ Waiting (flush_counted q)) × (due_from w.unsaved (flush_counted q) ≡ last_of q.target) × (well_formed w ≡ true)
  last_after reply mid counted left kept =
      let v = step u (answer host reply) in (
        run_waiting v mid 0 host (flush_counted q) counted.slot left,
        counted_due (run v mid).unsaved q (run_saved v mid 0 counted.unsaved kept),
        run_well_formed v mid (well_formed_kept u (answer host reply) fine),
      )

  -- Of two answers to an operation with no accepted write between, the first or the second ends it.
  pub second_ends : u.out ≡ Some host → (first second : Reply) (mid : List Call) → let w = run (step u (answer host first)) mid in
      every_at (leaves host) 0 mid ≡ true → every_at keeps_saved 0 (history (step u (answer host first)) mid) ≡ true → w.out ≡ Some host
      → Over host (answer_outcome u host first) ⊎ Over host (answer_outcome w host second)
  second_ends out first second mid left kept out-again =
      ⊎_elim inl
      (λ counted. let l = last_after first mid counted left kept in inr (last_ends _ l.2 host (flush_counted q) l.0 out-again second l.1))
      (answer_ends_or_counts u fine host q waiting out first)

-- A waiting operation with nothing out, asked and answered, is over; or, after any calls but a reset, an answer to it or an accepted write, and
-- with nothing out, it is given its last command and is over with the answer: it ends by its second answer.
pub ends_by_second : (u : Unit) → well_formed u ≡ true → (host : ℕ) (q : Request) → slot_of u.slots host ≡ Waiting q → u.out ≡ None
    → (first second : Reply) (mid : List Call) → let asked = step u (next host) in let w = run (step asked (answer host first)) mid in
    every_at (leaves host) 0 mid ≡ true → every_at keeps_saved 0 (history (step asked (answer host first)) mid) ≡ true → w.out ≡ None
    → Over host (answer_outcome asked host first) ⊎ EndsNext w host q.target second
ends_by_second u fine host q waiting none first second mid left kept none-again =
    let asked = step u (next host) in
    let fine-asked = well_formed_kept u (next host) fine in
    let waits = still_waiting u fine host q waiting none in
    ⊎_elim inl
    (λ counted. let l = last_after asked fine-asked host q waits first mid counted left kept in
    inr (ends_next _ l.2 host (flush_counted q) l.0 none-again l.1 second))
    (answer_ends_or_counts asked fine-asked host q waits (next_sends u fine host q waiting none).out first)
