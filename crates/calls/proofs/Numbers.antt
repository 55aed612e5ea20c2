-- Document 01, "Numbers given back": a number is given exactly when its row applies and none before it does, over all calls.
-- Each call's own rows are those of the table whose test is not `false` for it, so the lowest of both is the same.
use Rattle.std.proofs.Common.{Ok, Err, Some, None, Option}
use mathlib.Core.Path.{◌≡◌, refl, sym, ◌∙◌}
use mathlib.Core.Bool.{Bool, true, false, cond, ◌&&◌, and-true, and-false, or-false, false≢true, true≢false}
use mathlib.Core.List.{List}
use mathlib.Core.Logic.{◌↔◌}
use Prim.Native.Nat.{ℕ}
use borrow.Author.Tests.{eqb-true, not-false}
use Rattle.rows.proofs.Choices.{either}
use Rattle.unit.specs.Units.{slot_of, is_waiting, is_out_for, out_well_formed, well_formed, with_slot, rested}
use Rattle.refusals.specs.Refusals.{lowest, is_same, rows_by, IsLowest}
use Rattle.refusals.proofs.Lowest.{not_applies, gives_in, not_given}
use Rattle.refusals.proofs.Ranks.{given_exactly, clear_exactly}
use Rattle.engine.specs.Engine.{epc_settled, epc_outcome, tick_outcome, read_outcome, write_outcome, power_on_outcome, reset_outcome}
use Rattle.outcomes.specs.Settled.{settled}
use Rattle.readouts.specs.Readouts.{filled, sense_outcome, log_outcome, transitions_outcome, new_page_outcome}
use Rattle.refusals.specs.declared.Refusal.{Refusal}
use Rattle.refusals.specs.declared.Refusal.TheVariants.{BadRecord, HasNone, BadField, Aborted}
use Rattle.requests.specs.declared.Target.{Target}
use Rattle.unit.proofs.WellFormed.{unit_fine}
use Rattle.cdb.proofs.Requests.{fitting, listed_fits}
use Rattle.unit.specs.declared.Slot.{Slot}
use Rattle.unit.specs.declared.Slot.TheVariants.{Empty, Waiting}
use Rattle.requests.specs.declared.Request.{Request}
use Rattle.unit.specs.declared.Unit.{Unit}
use Rattle.operations.specs.Operations.{registers_of, due_from, is_flush, is_good, accepted_as}
use Rattle.exchange.specs.Answered.{flushed_well, failed, succeeded, flush_answered, last_answered, answered_for}
use Rattle.cdb.specs.Cdb.{immed, wanted, fits, request_for}
use Rattle.bridge.specs.Bridge.{start_stop_rows, start_stop_settled, start_stop_outcome}
use Rattle.exchange.specs.Exchange.{next_rows, next_effect, next_settled, next_outcome, answer_rows, answer_settled, answer_outcome}
use Rattle.requests.specs.declared.Reply.{Reply}
use Rattle.exchange.specs.declared.Replied.{Replied}
use Rattle.calls.specs.Calls.{Call, set_features, tick, read, write, power_on, hard_reset, soft_reset, start_stop, next, answer, request_sense, log_page, transitions_page, new_page, plain, accepted, sent, progressed, outcome, step}
use Rattle.calls.specs.Table.{applies_to, is_epc, verdict_in, Numbers}
use Rattle.calls.specs.Described.{own_rows, effect, lent, writes}
use Rattle.refusals.specs.Refusals.{Verdict}

-- ---- the rows of each call are the table's

pub own_rows_lem : (u : Unit) (c : Call) → lowest (own_rows u c) ≡ lowest (rows_by (applies_to u c))
unfolding lowest
own_rows_lem u (set_features q) = simp (and-true, and-false)
own_rows_lem u tick = simp and-false
own_rows_lem u (read host) = simp and-true
own_rows_lem u (write host) = simp and-true
own_rows_lem u power_on = simp and-false
own_rows_lem u hard_reset = simp and-false
own_rows_lem u soft_reset = simp and-false
own_rows_lem u (start_stop host cdb) = simp (and-true, and-false)
own_rows_lem u (next host) = simp (and-true, and-false, or-false)
own_rows_lem u (answer host reply) = simp and-false
own_rows_lem u (request_sense host buffer) = simp (and-true, and-false)
own_rows_lem u (log_page buffer) = simp and-false
own_rows_lem u (transitions_page buffer) = simp and-false
own_rows_lem u (new_page number buffer) = simp and-false

-- ---- where a host's next command or its answer is not refused, its operation waits

waiting : (s : Slot) → is_waiting s ≡ true → (q : Request) × (s ≡ Waiting q)
waiting Empty h = absurd (false≢true h)
waiting (Waiting q) h = (q, refl)

waiting_out : (slots : List Slot) (out : Option ℕ) (host : ℕ) → out_well_formed slots out ≡ true → is_out_for host out ≡ true
    → is_waiting (slot_of slots host) ≡ true
waiting_out slots None host w o = absurd (false≢true o)
waiting_out slots (Some h) host w o = rw (eqb-true h host o) at w

pub next_waiting : (u : Unit) (host : ℕ) → lowest (next_rows u host) ≡ Ok tt → (q : Request) × (slot_of u.slots host ≡ Waiting q)
next_waiting u host h = waiting _ (not-false _ (not_applies (next_rows u host) HasNone h))

pub answer_waiting : (u : Unit) (host : ℕ) → lowest (answer_rows u host) ≡ Ok tt → (q : Request) × (slot_of u.slots host ≡ Waiting q)
answer_waiting u host h =
    waiting _
    (waiting_out u.slots u.out host ((unit_fine u).0 (not-false _ (not_applies (answer_rows u host) BadRecord h))).out
    (not-false _ (not_applies (answer_rows u host) HasNone h)))

-- ---- each call says what its rows give

settled_told : (u v : Unit) (given : Verdict) → verdict_in (plain (settled u v given).answer) ≡ given
settled_told u v (Ok _) = refl
settled_told u v (Err r) = refl

epc_told : (u v : Unit) (given : Verdict) → verdict_in (plain (epc_settled u v given).answer) ≡ given
epc_told u v (Ok _) = refl
epc_told u v (Err r) = refl

filled_told : (u v : Unit) (bytes buffer : List ℕ) (given : Verdict)
    → verdict_in (plain (filled u v bytes buffer given).called.answer) ≡ given
filled_told u v bytes buffer (Ok _) = refl
filled_told u v bytes buffer (Err r) = refl

accepted_clear : (immediate : Bool) → verdict_in (accepted (Ok (accepted_as immediate))) ≡ Ok tt
accepted_clear true = refl
accepted_clear false = refl

start_told : (u : Unit) (host : ℕ) (cdb : List ℕ) (w : Option Target) (given : Verdict)
    → verdict_in (accepted (start_stop_settled u host cdb w given).answer) ≡ given
start_told u host cdb w (Ok _) = accepted_clear (immed cdb)
start_told u host cdb w (Err r) = refl

next_told : (u : Unit) (host : ℕ) (given : Verdict) → lowest (next_rows u host) ≡ given
    → verdict_in (sent (next_settled u host given).answer) ≡ given
next_told u host (Ok _) e = rw (next_waiting u host e).1
next_told u host (Err r) e = refl

clear_either : (b : Bool) (x y : Replied) → verdict_in (progressed x.answer) ≡ Ok tt → verdict_in (progressed y.answer) ≡ Ok tt
    → verdict_in (progressed (cond b x y).answer) ≡ Ok tt
clear_either true x y p q = p
clear_either false x y p q = q

answered_clear : (u : Unit) (host : ℕ) (q : Request) (reply : Reply) → verdict_in (progressed (answered_for u host q reply).answer) ≡ Ok tt
unfolding answered_for
answered_clear u host q reply =
    clear_either (is_flush (due_from u.unsaved q)) (flush_answered u host q reply) (last_answered u host q reply)
    (clear_either (is_good reply) (flushed_well u host q) (failed u host q _) refl refl)
    (clear_either (is_good reply) (succeeded u host q) (failed u host q _) refl refl)

answer_told : (u : Unit) (host : ℕ) (reply : Reply) (given : Verdict) → lowest (answer_rows u host) ≡ given
    → verdict_in (progressed (answer_settled u host reply given).answer) ≡ given
answer_told u host reply (Ok _) e = rw (answer_waiting u host e).1 (answered_clear u host (answer_waiting u host e).0 reply)
answer_told u host reply (Err r) e = refl

-- What a call says is the verdict of its own rows.
pub own_told : (u : Unit) (c : Call) → verdict_in (outcome u c).said ≡ lowest (own_rows u c)
unfolding epc_outcome tick_outcome read_outcome write_outcome power_on_outcome reset_outcome sense_outcome log_outcome transitions_outcome new_page_outcome start_stop_outcome next_outcome answer_outcome
own_told u (set_features q) = epc_told u _ _
own_told u tick = settled_told u _ _
own_told u (read host) = settled_told u _ _
own_told u (write host) = settled_told u _ _
own_told u power_on = settled_told u _ _
own_told u hard_reset = settled_told u _ _
own_told u soft_reset = settled_told u _ _
own_told u (start_stop host cdb) = start_told u host cdb (wanted cdb) _
own_told u (next host) = next_told u host _ refl
own_told u (answer host reply) = answer_told u host reply _ refl
own_told u (request_sense host buffer) = filled_told u _ _ buffer _
own_told u (log_page buffer) = filled_told u _ _ buffer _
own_told u (transitions_page buffer) = filled_told u _ _ buffer _
own_told u (new_page number buffer) = filled_told u _ _ buffer _

-- What a call says is the lowest number of the table that applies to it, or that none does.
pub told : (u : Unit) (c : Call) → verdict_in (outcome u c).said ≡ lowest (rows_by (applies_to u c))
told u c = own_told u c ∙ own_rows_lem u c

module _ (u : Unit) (c : Call) where
  -- "The lowest number that applies is given": a call is refused with r exactly when r's row applies to it and the row of none of lower rank does.
  pub refused_exactly : (r : Refusal) → verdict_in (outcome u c).said ≡ Err r ↔ IsLowest (applies_to u c) r
  refused_exactly r = rw (told u c) (given_exactly (applies_to u c) r)

  -- A call is accepted exactly when no row applies to it.
  pub accepted_exactly : verdict_in (outcome u c).said ≡ Ok tt ↔ ((q : Refusal) → applies_to u c q ≡ false)
  accepted_exactly = rw (told u c) (clear_exactly (applies_to u c))

-- The layer gives the numbers of the table.
pub numbers_given : Numbers outcome
numbers_given = refused_exactly

-- "3: record not well formed": an accepted call stood on a well-formed record.
pub accepted_well_formed : (u : Unit) (c : Call) → verdict_in (outcome u c).said ≡ Ok tt → well_formed u ≡ true
accepted_well_formed u c h = not-false _ ((accepted_exactly u c).0 h BadRecord)

-- ---- what a call leaves

-- Number 10 is EPC's alone: of no other call's rows does one give it.
ten_is_epc : (u : Unit) (c : Call) → is_epc c ≡ false → gives_in Aborted (own_rows u c) ≡ false
ten_is_epc u (set_features q) other = absurd (true≢false other)
ten_is_epc u tick other = refl
ten_is_epc u (read host) other = refl
ten_is_epc u (write host) other = refl
ten_is_epc u power_on other = refl
ten_is_epc u hard_reset other = refl
ten_is_epc u soft_reset other = refl
ten_is_epc u (start_stop host cdb) other = refl
ten_is_epc u (next host) other = refl
ten_is_epc u (answer host reply) other = refl
ten_is_epc u (request_sense host buffer) other = refl
ten_is_epc u (log_page buffer) other = refl
ten_is_epc u (transitions_page buffer) other = refl
ten_is_epc u (new_page number buffer) other = refl

own_kept : (u : Unit) (c : Call) (r : Refusal) → lowest (own_rows u c) ≡ Err r
    → (step u c ≡ cond (is_epc c && is_same r Aborted) (rested u) u) × ((outcome u c).buffer ≡ lent c)
unfolding epc_outcome tick_outcome read_outcome write_outcome power_on_outcome reset_outcome sense_outcome log_outcome transitions_outcome new_page_outcome start_stop_outcome next_outcome answer_outcome
own_kept u (set_features q) r e = (rw (e, step), refl)
own_kept u tick r e = (rw (e, step), refl)
own_kept u (read host) r e = (rw (e, step), refl)
own_kept u (write host) r e = (rw (e, step), refl)
own_kept u power_on r e = (rw (e, step), refl)
own_kept u hard_reset r e = (rw (e, step), refl)
own_kept u soft_reset r e = (rw (e, step), refl)
own_kept u (start_stop host cdb) r e = (rw (e, step), refl)
own_kept u (next host) r e = (rw (e, step), refl)
own_kept u (answer host reply) r e = (rw (e, step), refl)
own_kept u (request_sense host buffer) r e = (rw (e, step), rw (e, outcome))
own_kept u (log_page buffer) r e = (rw (e, step), rw (e, outcome))
own_kept u (transitions_page buffer) r e = (rw (e, step), rw (e, outcome))
own_kept u (new_page number buffer) r e = (rw (e, step), rw (e, outcome))

-- What holds of the record as it came, and with its idle count restarted, holds after every refusal.
pub after_refusal : (u : Unit) (c : Call) (r : Refusal) (P : Unit → Type 0) → P (rested u) → P u → verdict_in (outcome u c).said ≡ Err r
    → P (step u c)
after_refusal u c r P rests stays h =
    rw (own_kept u c r (sym (own_told u c) ∙ h)).0 (either P (is_epc c && is_same r Aborted) (rested u) u rests stays)

-- "A refusal writes to no buffer".
pub refusal_writes_nothing : (u : Unit) (c : Call) (r : Refusal) → verdict_in (outcome u c).said ≡ Err r → (outcome u c).buffer ≡ lent c
refusal_writes_nothing u c r h = (own_kept u c r (sym (own_told u c) ∙ h)).1

-- "and returns the record as it came": every number but 10,
pub refusal_keeps : (u : Unit) (c : Call) (r : Refusal) → verdict_in (outcome u c).said ≡ Err r → is_same r Aborted ≡ false → step u c ≡ u
refusal_keeps u c r h other = (own_kept u c r (sym (own_told u c) ∙ h)).0 ∙ rw (other, and-false (is_epc c))

-- and every call but EPC.
pub other_keeps : (u : Unit) (c : Call) (r : Refusal) → verdict_in (outcome u c).said ≡ Err r → is_epc c ≡ false → step u c ≡ u
other_keeps u c r h other = (own_kept u c r (sym (own_told u c) ∙ h)).0 ∙ rw other

-- "10 differs only in idle count 0": it is given to EPC alone.
pub abort_rests : (u : Unit) (c : Call) → verdict_in (outcome u c).said ≡ Err Aborted → (is_epc c ≡ true) × (step u c ≡ rested u)
abort_rests u c h = on (is_epc c) refl
  where
    given : lowest (own_rows u c) ≡ Err Aborted
    given = sym (own_told u c) ∙ h

    on : (b : Bool) → is_epc c ≡ b → (is_epc c ≡ true) × (step u c ≡ rested u)
    on true e = (e, (own_kept u c Aborted given).0 ∙ rw e)
    on false e = absurd (not_given (own_rows u c) Aborted (ten_is_epc u c e) given)

-- Where none of its rows applies, a call leaves its effect, and in the buffer what it writes.
pub own_effect : (u : Unit) (c : Call) → lowest (own_rows u c) ≡ Ok tt → (step u c ≡ effect u c) × ((outcome u c).buffer ≡ writes u c)
unfolding epc_outcome tick_outcome read_outcome write_outcome power_on_outcome reset_outcome sense_outcome log_outcome transitions_outcome new_page_outcome start_stop_outcome next_outcome answer_outcome
own_effect u (set_features q) e = (rw (e, step), refl)
own_effect u tick e = (rw (e, step), refl)
own_effect u (read host) e = (rw (e, step), refl)
own_effect u (write host) e = (rw (e, step), refl)
own_effect u power_on e = (rw (e, step), refl)
own_effect u hard_reset e = (rw (e, step), refl)
own_effect u soft_reset e = (rw (e, step), refl)
own_effect u (start_stop host cdb) e = (rw (e, step), refl)
own_effect u (next host) e = (rw (e, step, (next_waiting u host e).1), refl)
own_effect u (answer host reply) e = (rw (e, step), refl)
own_effect u (request_sense host buffer) e = (rw (e, step), rw (e, outcome))
own_effect u (log_page buffer) e = (rw (e, step), rw (e, outcome))
own_effect u (transitions_page buffer) e = (rw (e, step), rw (e, outcome))
own_effect u (new_page number buffer) e = (rw (e, step), rw (e, outcome))

-- An accepted call leaves its effect.
pub acceptance_does : (u : Unit) (c : Call) → verdict_in (outcome u c).said ≡ Ok tt
    → (step u c ≡ effect u c) × ((outcome u c).buffer ≡ writes u c)
acceptance_does u c h = own_effect u c (sym (own_told u c) ∙ h)

-- ---- what an accepted call of START STOP UNIT says and leaves, whole

-- The CDB asks for a target that fits the unit.
pub start_wants : (u : Unit) (host : ℕ) (cdb : List ℕ) → lowest (start_stop_rows u host cdb) ≡ Ok tt
    → (t : Target) × (wanted cdb ≡ Some t) × (fits u.drive.records (Some t) ≡ true)
start_wants u host cdb h =
    fitting u.drive.records (wanted cdb)
    (listed_fits u.drive.records cdb (not-false _ (not_applies (start_stop_rows u host cdb) BadField h)))

-- Its operation waits in the host's slot.
pub start_accepted : (u : Unit) (host : ℕ) (cdb : List ℕ) (t : Target) → lowest (start_stop_rows u host cdb) ≡ Ok tt → wanted cdb ≡ Some t
    → start_stop_outcome u host cdb
    ≡ record { answer = Ok (accepted_as (immed cdb)); unit = with_slot host (Waiting (request_for t cdb)) (rested u) }
unfolding start_stop_outcome
start_accepted u host cdb t h e = rw (h, e)

-- The waiting operation's command that is due is sent, and is out.
pub next_accepted : (u : Unit) (host : ℕ) (q : Request) → lowest (next_rows u host) ≡ Ok tt → slot_of u.slots host ≡ Waiting q
    → next_outcome u host ≡ record { answer = Ok (registers_of (due_from u.unsaved q)); unit = next_effect host u }
unfolding next_outcome
next_accepted u host q h e = rw (h, e)

-- The answer goes to the waiting operation.
pub answer_accepted : (u : Unit) (host : ℕ) (reply : Reply) (q : Request) → lowest (answer_rows u host) ≡ Ok tt
    → slot_of u.slots host ≡ Waiting q → answer_outcome u host reply ≡ answered_for u host q reply
unfolding answer_outcome
answer_accepted u host reply q h e = rw (h, e)
