-- What a call comes to, and the record that it leaves: one of the cases below. Every fact over runs goes through here, by a table of these cases; the
-- calls that are no part of an operation need one row of it together, but where each has to be looked at by itself.
use Rattle.std.proofs.Common.{Ok, Err, Some, None}
use mathlib.Core.Path.{◌≡◌, refl, sym, ap, ◌∙◌}
use mathlib.Core.Bool.{Bool, true, false, cond, false≢true, true≢false}
use mathlib.Core.List.{List}
use Prim.Native.Nat.{ℕ}
use lib.Dec.{eqb}
use lib.ListN.{replicate}
use borrow.Author.Tests.{eqb-false}
use Rattle.drive.specs.Drives.{used}
use Rattle.drive.specs.declared.Tenths.{Tenths}
use Rattle.drive.proofs.Used.{used_leaves, powered_on_leaves}
use Rattle.epc.specs.Epc.{aborts}
use Rattle.registers.specs.declared.Registers.{Registers}
use Rattle.rows.proofs.Choices.{either}
use Rattle.epc.proofs.Effects.{idle_after}
use Rattle.unit.specs.Units.{slot_of, held_of, is_out, with_slot, rested}
use Rattle.refusals.specs.Refusals.{lowest, is_same}
use Rattle.refusals.proofs.Ranks.{is_same_lem}
use Rattle.engine.specs.Engine.{epc_rows, medium_rows, epc_effect, tick_effect, read_effect, write_effect, power_on_effect, hard_reset_effect}
use Rattle.readouts.specs.Readouts.{sense_rows, log_rows, transitions_rows, new_page_rows, sense_effect}
use Rattle.refusals.specs.declared.Refusal.{Refusal}
use Rattle.refusals.specs.declared.Refusal.TheVariants.{CommandOut, Aborted}
use Rattle.requests.specs.declared.Target.{Target}
use Rattle.requests.specs.declared.Request.{Request}
use Rattle.unit.specs.declared.Slot.TheVariants.{Waiting}
use Rattle.unit.specs.declared.Unit.{Unit}
use Rattle.cdb.specs.Cdb.{wanted, request_for}
use Rattle.operations.specs.Operations.{failure_of, registers_of, one_more, flushes_of, due_from, is_flush, report_good, report_failed}
use Rattle.exchange.specs.Answered.{flushed_well, failed, succeeded, flush_answered, last_answered, answered_for}
use Rattle.bridge.specs.Bridge.{start_stop_rows, start_stop_effect}
use Rattle.exchange.specs.Exchange.{next_rows, next_effect, next_settled, next_outcome, answer_rows, answer_settled, answer_outcome}
use Rattle.requests.specs.declared.Reply.{Reply}
use Rattle.requests.specs.declared.Reply.TheVariants.{Good, Bad}
use Rattle.operations.specs.declared.Progress.TheVariants.{More, Ended}
use Rattle.operations.specs.declared.Report.{Report}
use Rattle.exchange.specs.declared.Replied.{Replied}
use Rattle.calls.specs.Calls.{Call, set_features, tick, read, write, power_on, hard_reset, soft_reset, start_stop, next, answer, request_sense, log_page, transitions_page, new_page, Said, plain, accepted, sent, progressed, outcome, step}
use Rattle.calls.specs.Described.{is_reset, is_power_on, is_write, is_tick, excepted_from_restart, is_sense_of, own_rows, effect}
use Rattle.calls.specs.Table.{verdict_in, applies_to}
use Rattle.unit.proofs.Hosts.{other_held}
use Rattle.refusals.proofs.Lowest.{not_applies}
use Rattle.calls.proofs.Numbers.{own_told, next_waiting, answer_waiting, refused_exactly, refusal_keeps, acceptance_does, start_wants, abort_rests, other_keeps}
use Rattle.runs.specs.Deeds.{Deed, begins, hands_out, goes_on, ends, does, was_aborted, was_refused, if_hands_out, if_ends, does_a, beginning, sending, answering, another, deed_of}
use Rattle.refusals.specs.Refusals.{Verdict}
use Rattle.unit.specs.declared.Slot.TheVariants.{Empty}

-- ---- the cases

-- The drive's answer is taken: no row of its applies, and it goes to the host's waiting operation.
pub record Taken (u : Unit) (host : ℕ) (q : Request) : Type 0 where
  pub clear : lowest (answer_rows u host) ≡ Ok tt
  pub waiting : slot_of u.slots host ≡ Waiting q

-- A fact of the deed and of the record after it holds in every case of a call on the record u: refused, aborted, or a step of an operation,
pub record Cases (P : Deed → Unit → Type 0) (u : Unit) : Type 0 where
  pub refused : (c : Call) → P (was_refused c) u
  pub aborted : (q : Registers) → aborts u.edition q u.drive.records ≡ true → P (was_aborted (set_features q)) (rested u)
  pub begun : (host : ℕ) (cdb : List ℕ) (t : Target) → lowest (start_stop_rows u host cdb) ≡ Ok tt → wanted cdb ≡ Some t
      → P (begins host cdb) (with_slot host (Waiting (request_for t cdb)) (rested u))
  pub asked : (host : ℕ) (q : Request) → lowest (next_rows u host) ≡ Ok tt → slot_of u.slots host ≡ Waiting q
      → P (hands_out host (registers_of (due_from u.unsaved q))) (next_effect host u)
  pub flushed : (host : ℕ) (q : Request) → Taken u host q → is_flush (due_from u.unsaved q) ≡ true
      → P (goes_on host Good) (flushed_well u host q).unit
  pub flush_failed : (host : ℕ) (q : Request) → Taken u host q → is_flush (due_from u.unsaved q) ≡ true
      → P (ends host Bad (report_failed q.immed (failure_of q.target) (one_more (flushes_of q.stage))))
      (failed u host q (one_more (flushes_of q.stage))).unit
  pub last_succeeded : (host : ℕ) (q : Request) → Taken u host q → is_flush (due_from u.unsaved q) ≡ false
      → P (ends host Good (report_good q.immed (flushes_of q.stage))) (succeeded u host q).unit
  pub last_failed : (host : ℕ) (q : Request) → Taken u host q → is_flush (due_from u.unsaved q) ≡ false
      → P (ends host Bad (report_failed q.immed (failure_of q.target) (flushes_of q.stage)))
      (failed u host q (flushes_of q.stage)).unit

-- or another call, accepted: one row for each.
pub record Others (P : Deed → Unit → Type 0) (u : Unit) : Type 0 where
  pub epc : (q : Registers) → lowest (epc_rows u q) ≡ Ok tt → P (does (set_features q)) (epc_effect q u)
  pub ticks : P (does tick) (tick_effect u)
  pub reads : (host : ℕ) → lowest (medium_rows u host) ≡ Ok tt → P (does (read host)) (read_effect u)
  pub writes : (host : ℕ) → lowest (medium_rows u host) ≡ Ok tt → P (does (write host)) (write_effect u)
  pub powers_on : P (does power_on) (power_on_effect u)
  pub resets_hard : P (does hard_reset) (hard_reset_effect u)
  pub resets_soft : P (does soft_reset) (hard_reset_effect u)
  pub tells : (host : ℕ) (buffer : List ℕ) → lowest (sense_rows u host buffer) ≡ Ok tt
      → P (does (request_sense host buffer)) (sense_effect host u)
  pub logs : (buffer : List ℕ) → lowest (log_rows u buffer) ≡ Ok tt → P (does (log_page buffer)) u
  pub logs_transitions : (buffer : List ℕ) → lowest (transitions_rows u buffer) ≡ Ok tt → P (does (transitions_page buffer)) u
  pub logs_new : (number : ℕ) (buffer : List ℕ) → lowest (new_page_rows u number buffer) ≡ Ok tt → P (does (new_page number buffer)) u

-- The deed of a call on a record.
abbrev pub deed_at : Unit → Call → Deed
deed_at u c = deed_of c (outcome u c).said

-- ---- what a call is to an operation

-- A call is START STOP UNIT, a host's question, the drive's answer, or one that is no part of an operation.
pub data Turn : Call → Type 0 where
  starts : (host : ℕ) (cdb : List ℕ) → Turn (start_stop host cdb)
  asks : (host : ℕ) → Turn (next host)
  answers : (host : ℕ) (reply : Reply) → Turn (answer host reply)
  apart : (c : Call) → ((said : Said) → deed_of c said ≡ another c (verdict_in said)) → Turn c

pub turn : (c : Call) → Turn c
turn (set_features q) = apart (set_features q) (λ said. refl)
turn tick = apart tick (λ said. refl)
turn (read host) = apart (read host) (λ said. refl)
turn (write host) = apart (write host) (λ said. refl)
turn power_on = apart power_on (λ said. refl)
turn hard_reset = apart hard_reset (λ said. refl)
turn soft_reset = apart soft_reset (λ said. refl)
turn (start_stop host cdb) = starts host cdb
turn (next host) = asks host
turn (answer host reply) = answers host reply
turn (request_sense host buffer) = apart (request_sense host buffer) (λ said. refl)
turn (log_page buffer) = apart (log_page buffer) (λ said. refl)
turn (transitions_page buffer) = apart (transitions_page buffer) (λ said. refl)
turn (new_page number buffer) = apart (new_page number buffer) (λ said. refl)

-- ---- a refused call

never : {A : Type 0} → false ≡ true → A
never h = absurd (false≢true h)

module _ (P : Deed → Unit → Type 0) (u : Unit) (cases : Cases P u) (others : Others P u) where
  -- number 10 or another one
  refusing : (c : Call) (r : Refusal) → verdict_in (outcome u c).said ≡ Err r → (r ≡ Aborted → P (was_aborted c) (rested u))
      → (b : Bool) → is_same r Aborted ≡ b → P (cond b (was_aborted c) (was_refused c)) (step u c)
  refusing c r e tenth true same =
      let ten = is_same_lem r Aborted same in
      rw (abort_rests u c (e ∙ ap Err ten)).1 (tenth ten)
  refusing c r e tenth false other = rw (refusal_keeps u c r e other) (cases.refused c)

  -- ---- the calls that are no part of an operation

  other : (c : Call) → (lowest (own_rows u c) ≡ Ok tt → P (does c) (effect u c)) → (applies_to u c Aborted ≡ true → P (was_aborted c) (rested u))
      → P (another c (verdict_in (outcome u c).said)) (step u c)
  other c accepts tenth = on (verdict_in (outcome u c).said) refl
    where
      on : (v : Verdict) → verdict_in (outcome u c).said ≡ v → P (another c v) (step u c)
      on (Ok _) e = rw (acceptance_does u c e).0 (accepts (sym (own_told u c) ∙ e))
      on (Err r) e =
          refusing c r e (λ ten. tenth ((refused_exactly u c Aborted).0 (e ∙ ap Err ten)).itself) (is_same r Aborted) refl

  -- ---- START STOP UNIT

  starts_stops : (host : ℕ) (cdb : List ℕ) → P (beginning host cdb (verdict_in (outcome u (start_stop host cdb)).said)) (step u (start_stop host cdb))
  starts_stops host cdb = on (verdict_in (outcome u (start_stop host cdb)).said) refl
    where
      begin : (t : Target) → wanted cdb ≡ Some t → lowest (start_stop_rows u host cdb) ≡ Ok tt
          → P (begins host cdb) (start_stop_effect host cdb (wanted cdb) u)
      begin t wants clear = rw wants (cases.begun host cdb t clear wants)

      on : (v : Verdict) → verdict_in (outcome u (start_stop host cdb)).said ≡ v → P (beginning host cdb v) (step u (start_stop host cdb))
      on (Ok _) e =
          let clear = sym (own_told u (start_stop host cdb)) ∙ e in
          let wants = start_wants u host cdb clear in
          rw (acceptance_does u (start_stop host cdb) e).0 (begin wants.0 wants.1 clear)
      on (Err r) e = rw (other_keeps u (start_stop host cdb) r e refl) (cases.refused (start_stop host cdb))

  -- ---- the next command

  asked : (host : ℕ) → P (sending host (outcome u (next host)).said) (step u (next host))
  unfolding next_outcome
  asked host = on (lowest (next_rows u host)) refl
    where
      on : (v : Verdict) → lowest (next_rows u host) ≡ v → P (sending host (sent (next_settled u host v).answer)) (next_settled u host v).unit
      on (Ok _) e =
          let w = next_waiting u host e in
          rw w.1 (cases.asked host w.0 e w.1)
      on (Err r) e = cases.refused (next host)

  -- ---- the answer

  module _ (host : ℕ) (reply : Reply) where
    abbrev Q : Replied → Type 0
    Q r = P (answering host reply (progressed r.answer)) r.unit

    replied : (q : Request) → Taken u host q → Q (answered_for u host q reply)
    unfolding answered_for
    replied q taken = on (is_flush (due_from u.unsaved q)) refl
      where
        to_flush : is_flush (due_from u.unsaved q) ≡ true → (reply : Reply)
            → P (answering host reply (progressed (flush_answered u host q reply).answer)) (flush_answered u host q reply).unit
        to_flush f Good = cases.flushed host q taken f
        to_flush f Bad = cases.flush_failed host q taken f

        to_last : is_flush (due_from u.unsaved q) ≡ false → (reply : Reply)
            → P (answering host reply (progressed (last_answered u host q reply).answer)) (last_answered u host q reply).unit
        to_last f Good = cases.last_succeeded host q taken f
        to_last f Bad = cases.last_failed host q taken f

        on : (b : Bool) → is_flush (due_from u.unsaved q) ≡ b → Q (cond b (flush_answered u host q reply) (last_answered u host q reply))
        on true f = to_flush f reply
        on false f = to_last f reply

    answered : P (answering host reply (outcome u (answer host reply)).said) (step u (answer host reply))
    unfolding answer_outcome
    answered = on (lowest (answer_rows u host)) refl
      where
        on : (v : Verdict) → lowest (answer_rows u host) ≡ v → Q (answer_settled u host reply v)
        on (Ok _) e =
            let w = answer_waiting u host e in
            rw w.1 (replied w.0 (record { clear = e; waiting = w.1 }))
        on (Err r) e = cases.refused (answer host reply)

  -- What holds in every case holds of the deed of every call and of the record that it leaves.
  pub by_deed : (c : Call) → P (deed_at u c) (step u c)
  by_deed (set_features q) = other (set_features q) (others.epc q) (cases.aborted q)
  by_deed tick = other tick (λ e. others.ticks) never
  by_deed (read host) = other (read host) (others.reads host) never
  by_deed (write host) = other (write host) (others.writes host) never
  by_deed power_on = other power_on (λ e. others.powers_on) never
  by_deed hard_reset = other hard_reset (λ e. others.resets_hard) never
  by_deed soft_reset = other soft_reset (λ e. others.resets_soft) never
  by_deed (start_stop host cdb) = starts_stops host cdb
  by_deed (next host) = asked host
  by_deed (answer host reply) = answered host reply
  by_deed (request_sense host buffer) = other (request_sense host buffer) (others.tells host buffer) never
  by_deed (log_page buffer) = other (log_page buffer) (others.logs buffer) never
  by_deed (transitions_page buffer) = other (transitions_page buffer) (others.logs_transitions buffer) never
  by_deed (new_page number buffer) = other (new_page number buffer) (others.logs_new number buffer) never

-- ---- the calls that are no part of an operation, in one row

abbrev Is : Call → Bool → Bool → Bool → Type 0
Is c resetting writing powering = (is_reset c ≡ resetting) × (is_write c ≡ writing) × (is_power_on c ≡ powering)

-- What such a call, accepted, leaves of the slots, of what is out and of the unsaved mark.
pub data Leaves (u : Unit) (c : Call) (v : Unit) : Type 0 where
  -- a reset leaves nothing waiting and nothing out
  sweeps : (power-on : Bool) → Is c true false power-on → v.slots ≡ replicate 4 Empty → v.out ≡ None
      → v.unsaved ≡ cond power-on false u.unsaved → Leaves u c v
  -- a write comes while nothing is out
  marks : Is c false true false → is_out u.out ≡ false → v.slots ≡ u.slots → v.out ≡ u.out → v.unsaved ≡ true → Leaves u c v
  -- any other leaves all three
  passes : Is c false false false → v.slots ≡ u.slots → v.out ≡ u.out → v.unsaved ≡ u.unsaved → Leaves u c v

-- What it leaves of the idle count: it starts again, or it stays; of a tick nothing is said here.
pub data LeavesIdle (u : Unit) (c : Call) (v : Unit) : Type 0 where
  restarts : excepted_from_restart c ≡ false → v.drive.idle.0 ≡ 0 → LeavesIdle u c v
  is_tick_lem : excepted_from_restart c ≡ true → is_tick c ≡ true → LeavesIdle u c v
  stays : excepted_from_restart c ≡ true → v.drive.idle ≡ u.drive.idle → LeavesIdle u c v

-- All that is asked of such a call where it is not looked at by itself: also of the held senses and of the idle count.
pub record Done (u : Unit) (c : Call) (v : Unit) : Type 0 where
  pub leaves : Leaves u c v
  pub held : (k : ℕ) → is_reset c ≡ false → is_sense_of (λ host. eqb host k) c ≡ false → held_of v.held k ≡ held_of u.held k
  pub idle : LeavesIdle u c v

-- One row for all of them.
module _ (P : Deed → Unit → Type 0) (u : Unit) (done : (c : Call) (v : Unit) → Done u c v → P (does c) v) where
  row : (c : Call) (v : Unit) → Leaves u c v
      → ((k : ℕ) → is_reset c ≡ false → is_sense_of (λ host. eqb host k) c ≡ false → held_of v.held k ≡ held_of u.held k)
      → LeavesIdle u c v → P (does c) v
  row c v leaves held idle = done c v (record { leaves = leaves; held = held; idle = idle })

  pub all_others : Others P u
  all_others = record {
    epc = λ q clear. row (set_features q) _ (passes (refl, refl, refl) refl refl refl) (λ k r s. refl) (restarts refl (idle_after q u.drive));
    ticks =
        row tick _ (either (Leaves u tick) (is_out u.out) _ _ (passes (refl, refl, refl) refl refl refl) (passes (refl, refl, refl) refl refl refl))
        (λ k r s. either (λ (v : Unit). held_of v.held k ≡ held_of u.held k) (is_out u.out) _ _ refl refl) (is_tick_lem refl refl);
    reads = λ host clear. row (read host) _ (passes (refl, refl, refl) refl refl refl) (λ k r s. refl) (restarts refl used_idle);
    writes = λ host clear.
        row (write host) _ (marks (refl, refl, refl) (not_applies (medium_rows u host) CommandOut clear) refl refl refl) (λ k r s. refl)
        (restarts refl used_idle);
    powers_on =
        row power_on _ (sweeps true (refl, refl, refl) refl refl refl) (λ k r. absurd (true≢false r))
        (restarts refl (ap (λ (t : Tenths). t.0) (powered_on_leaves u.drive).2));
    resets_hard = row hard_reset _ (sweeps false (refl, refl, refl) refl refl refl) (λ k r. absurd (true≢false r)) (restarts refl refl);
    resets_soft = row soft_reset _ (sweeps false (refl, refl, refl) refl refl refl) (λ k r. absurd (true≢false r)) (restarts refl refl);
    tells = λ host buffer clear.
        row (request_sense host buffer) _ (passes (refl, refl, refl) refl refl refl)
        (λ k r other. other_held host k (λ same. eqb-false host k other (sym same)) u.held None) (stays refl refl);
    logs = λ buffer clear. row (log_page buffer) _ (passes (refl, refl, refl) refl refl refl) (λ k r s. refl) (stays refl refl);
    logs_transitions = λ buffer clear.
        row (transitions_page buffer) _ (passes (refl, refl, refl) refl refl refl) (λ k r s. refl) (stays refl refl);
    logs_new = λ number buffer clear.
        row (new_page number buffer) _ (passes (refl, refl, refl) refl refl refl) (λ k r s. refl) (stays refl refl);
  }
    where
      used_idle : (used u.drive).idle.0 ≡ 0
      used_idle = ap (λ (t : Tenths). t.0) (used_leaves u.drive).2

-- ---- a command handed out, and the end of an operation

-- A fact of an end report with the record after it holds in every way that an operation ends.
pub record Endings (E : ℕ → Reply → Report → Unit → Type 0) (u : Unit) : Type 0 where
  pub flush_failed : (host : ℕ) (q : Request) → Taken u host q → is_flush (due_from u.unsaved q) ≡ true
      → let n = one_more (flushes_of q.stage) in
      E host Bad (report_failed q.immed (failure_of q.target) n) (failed u host q n).unit
  pub last_succeeded : (host : ℕ) (q : Request) → Taken u host q → is_flush (due_from u.unsaved q) ≡ false
      → E host Good (report_good q.immed (flushes_of q.stage)) (succeeded u host q).unit
  pub last_failed : (host : ℕ) (q : Request) → Taken u host q → is_flush (due_from u.unsaved q) ≡ false → let n = flushes_of q.stage in
      E host Bad (report_failed q.immed (failure_of q.target) n) (failed u host q n).unit

-- A fact of a command that is handed out holds of what is due to a waiting operation.
abbrev pub Handings : (ℕ → Registers → Type 0) → Unit → Type 0
Handings S u = (host : ℕ) (q : Request) → slot_of u.slots host ≡ Waiting q → S host (registers_of (due_from u.unsaved q))

module _ (S : ℕ → Registers → Type 0) (E : ℕ → Reply → Report → Unit → Type 0) (u : Unit) (handings : Handings S u) (endings : Endings E u) where
  abbrev Telling : Deed → Unit → Type 0
  Telling d v = if_hands_out S (if_ends (λ host reply report. E host reply report v) (Prim.Unit {0}) d) d

  telling : (c : Call) → Telling (deed_at u c) (step u c)
  telling = by_deed Telling u (record {
    refused = λ c. tt;
    aborted = λ q ten. tt;
    begun = λ host cdb t clear wants. tt;
    asked = λ host q clear. handings host q;
    flushed = λ host q taken f. tt;
    flush_failed = endings.flush_failed;
    last_succeeded = endings.last_succeeded;
    last_failed = endings.last_failed;
  }) (all_others Telling u (λ c v did. tt))

-- So they hold of the command that a host is handed, and of the end report that an answer brings.
pub when_sent : (S : ℕ → Registers → Type 0) (u : Unit) → Handings S u → (host : ℕ) (q : Registers) → deed_at u (next host) ≡ hands_out host q → S host q
when_sent S u handings host q e = rw e at (telling S (λ host reply report v. Prim.Unit {0}) u handings (record {
  flush_failed = λ host q taken f. tt;
  last_succeeded = λ host q taken f. tt;
  last_failed = λ host q taken f. tt;
}) (next host))

pub when_ended : (E : ℕ → Reply → Report → Unit → Type 0) (u : Unit) → Endings E u → (host : ℕ) (reply : Reply) (report : Report)
    → deed_at u (answer host reply) ≡ ends host reply report → E host reply report (step u (answer host reply))
when_ended E u endings host reply report e = rw e at (telling (λ host q. Prim.Unit {0}) E u (λ host q waits. tt) endings (answer host reply))

-- ---- only a reset comes to the deed of a reset

another_reset : (c : Call) (v : Verdict) → does_a is_reset (another c v) ≡ true → is_reset c ≡ true
another_reset c (Ok _) h = h
another_reset c (Err r) h =
    absurd (true≢false (sym h ∙ either (λ (d : Deed). does_a is_reset d ≡ false) (is_same r Aborted) (was_aborted c) (was_refused c) refl refl))

begins_no_reset : (host : ℕ) (cdb : List ℕ) (v : Verdict) → does_a is_reset (beginning host cdb v) ≡ false
begins_no_reset host cdb (Ok _) = refl
begins_no_reset host cdb (Err r) = refl

sends_no_reset : (host : ℕ) (said : Said) → does_a is_reset (sending host said) ≡ false
sends_no_reset host (plain a) = refl
sends_no_reset host (accepted a) = refl
sends_no_reset host (sent (Ok q)) = refl
sends_no_reset host (sent (Err r)) = refl
sends_no_reset host (progressed p) = refl

answers_no_reset : (host : ℕ) (reply : Reply) (said : Said) → does_a is_reset (answering host reply said) ≡ false
answers_no_reset host reply (plain a) = refl
answers_no_reset host reply (accepted a) = refl
answers_no_reset host reply (sent n) = refl
answers_no_reset host reply (progressed (Ok More)) = refl
answers_no_reset host reply (progressed (Ok (Ended report))) = refl
answers_no_reset host reply (progressed (Err r)) = refl

pub reset_call_lem : (c : Call) (said : Said) → does_a is_reset (deed_of c said) ≡ true → is_reset c ≡ true
reset_call_lem c said = on (turn c)
  where
    on : {c : Call} → Turn c → does_a is_reset (deed_of c said) ≡ true → is_reset c ≡ true
    on (starts host cdb) h = sym (begins_no_reset host cdb (verdict_in said)) ∙ h
    on (asks host) h = sym (sends_no_reset host said) ∙ h
    on (answers host reply) h = sym (answers_no_reset host reply said) ∙ h
    on (apart c other) h = another_reset c (verdict_in said) (rw (other said) at h)
