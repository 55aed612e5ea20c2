-- What a call does to the record: one of the effects below, if no row applies; else nothing, but that an aborted power subcommand restarts the idle count.
-- Every fact that all calls share goes through here.
use Rattle.std.proofs.Common.{Ok, Err, Some, None, Option}
use mathlib.Core.Path.{◌≡◌, refl}
use mathlib.Core.Bool.{true, false}
use mathlib.Core.List.{List}
use Prim.Native.Nat.{ℕ}
use Rattle.drive.specs.Drives.{ticked}
use Rattle.registers.specs.declared.Registers.{Registers}
use Rattle.rows.proofs.Choices.{either, chosen}
use Rattle.unit.specs.Units.{slot_of, is_out, largest_of, with_drive, with_slot, with_held, rested, with_power}
use Rattle.refusals.specs.Refusals.{is_same, lowest}
use Rattle.outcomes.specs.Settled.{settled}
use Rattle.engine.specs.Engine.{epc_settled, epc_rows, tick_rows, medium_rows, reset_rows, epc_effect, tick_effect, read_effect, write_effect, power_on_effect, hard_reset_effect, epc_outcome, tick_outcome, read_outcome, write_outcome, power_on_outcome, reset_outcome}
use Rattle.readouts.specs.Readouts.{filled, sense_rows, log_rows, transitions_rows, new_page_rows, sense_effect, sense_outcome, log_outcome, transitions_outcome, new_page_outcome}
use Rattle.refusals.specs.declared.Refusal.TheVariants.{Aborted}
use Rattle.requests.specs.declared.Target.{Target}
use Rattle.requests.specs.declared.Request.{Request}
use Rattle.unit.specs.declared.Slot.{Slot}
use Rattle.unit.specs.declared.Slot.TheVariants.{Empty, Waiting}
use Rattle.requests.specs.declared.Failure.{Failure}
use Rattle.conditions.specs.declared.Power.TheVariants.{Active}
use Rattle.unit.specs.declared.Unit.{Unit}
use Rattle.cdb.specs.Cdb.{wanted, request_for}
use Rattle.exchange.specs.Answered.{taken, flushed_well, failed, succeeded, answered_for}
use Rattle.operations.specs.Operations.{failure_of, one_more, flushes_of, due_from, is_flush, is_good}
use Rattle.bridge.specs.Bridge.{start_stop_rows, start_stop_effect, start_stop_settled, start_stop_outcome}
use Rattle.exchange.specs.Exchange.{next_rows, next_effect, next_on, next_settled, next_outcome, answer_rows, answer_on, answer_settled, answer_outcome}
use Rattle.requests.specs.declared.Reply.{Reply}
use Rattle.exchange.specs.declared.Replied.{Replied}
use Rattle.calls.specs.Calls.{Call, set_features, tick, read, write, power_on, hard_reset, soft_reset, start_stop, next, answer, request_sense, log_page, transitions_page, new_page, outcome}
use Rattle.refusals.specs.Refusals.{Verdict}

-- ---- the effects

-- A fact holds after every effect on the record u. (The fact may speak of the call.)
pub record Effects (P : Call → Unit → Type 0) (u : Unit) : Type 0 where
  pub none : (c : Call) → P c u
  pub aborts : (q : Registers) → P (set_features q) (rested u)
  pub epc : (q : Registers) → lowest (epc_rows u q) ≡ Ok tt → P (set_features q) (epc_effect q u)
  pub ticks : is_out u.out ≡ false → P tick (with_drive (ticked (largest_of u) u.drive) u)
  pub reads : (host : ℕ) → P (read host) (read_effect u)
  pub writes : (host : ℕ) → P (write host) (write_effect u)
  pub powers_on : P power_on (power_on_effect u)
  pub resets_hard : P hard_reset (hard_reset_effect u)
  pub resets_soft : P soft_reset (hard_reset_effect u)
  pub accepts : (host : ℕ) (cdb : List ℕ) (t : Target) → lowest (start_stop_rows u host cdb) ≡ Ok tt → wanted cdb ≡ Some t
      → P (start_stop host cdb) (with_slot host (Waiting (request_for t cdb)) (rested u))
  pub sends : (host : ℕ) → lowest (next_rows u host) ≡ Ok tt → P (next host) (next_effect host u)
  pub flushes : (host : ℕ) (reply : Reply) (q : Request) → slot_of u.slots host ≡ Waiting q → is_flush (due_from u.unsaved q) ≡ true
      → P (answer host reply) (flushed_well u host q).unit
  pub fails : (host : ℕ) (reply : Reply) → P (answer host reply) (with_slot host Empty (with_power Active (taken u)))
  pub defers : (host : ℕ) (reply : Reply) (f : Failure)
      → P (answer host reply) (with_held host (Some f) (with_slot host Empty (with_power Active (taken u))))
  pub succeeds : (host : ℕ) (reply : Reply) (q : Request) → slot_of u.slots host ≡ Waiting q → P (answer host reply) (succeeded u host q).unit
  pub tells : (host : ℕ) (buffer : List ℕ) → P (request_sense host buffer) (sense_effect host u)

module _ (P : Call → Unit → Type 0) (u : Unit) (after : Effects P u) where
  settles : (c : Call) (effect : Unit) (v : Verdict) → (v ≡ Ok tt → P c effect) → P c (settled u effect v).unit
  settles c effect (Ok _) k = k refl
  settles c effect (Err r) k = after.none c

  -- number 10 restarts the idle count, another one leaves the record
  subcommands : (q : Registers) (v : Verdict) → (v ≡ Ok tt → P (set_features q) (epc_effect q u))
      → P (set_features q) (epc_settled u (epc_effect q u) v).unit
  subcommands q (Ok _) k = k refl
  subcommands q (Err r) k = either (P (set_features q)) (is_same r Aborted) (rested u) u (after.aborts q) (after.none (set_features q))

  fills : (c : Call) (effect : Unit) (bytes buffer : List ℕ) (v : Verdict) → P c effect → P c (filled u effect bytes buffer v).called.unit
  fills c effect bytes buffer (Ok _) k = k
  fills c effect bytes buffer (Err r) k = after.none c

  starts_stops : (host : ℕ) (cdb : List ℕ) (v : Verdict) → lowest (start_stop_rows u host cdb) ≡ v
      → P (start_stop host cdb) (start_stop_settled u host cdb (wanted cdb) v).unit
  starts_stops host cdb (Ok _) clear = on (wanted cdb) refl
    where
      on : (w : Option Target) → wanted cdb ≡ w → P (start_stop host cdb) (start_stop_effect host cdb w u)
      on None e = after.none (start_stop host cdb)
      on (Some t) e = after.accepts host cdb t clear e
  starts_stops host cdb (Err r) clear = after.none (start_stop host cdb)

  asks : (host : ℕ) (v : Verdict) → lowest (next_rows u host) ≡ v → P (next host) (next_settled u host v).unit
  asks host (Ok _) clear = on (slot_of u.slots host)
    where
      on : (s : Slot) → P (next host) (next_on u host s).unit
      on Empty = after.none (next host)
      on (Waiting q) = after.sends host clear
  asks host (Err r) clear = after.none (next host)

  module _ (host : ℕ) (reply : Reply) where
    abbrev Q : Replied → Type 0
    Q r = P (answer host reply) r.unit

    failing : (q : Request) (n : ℕ) → Q (failed u host q n)
    failing q n = either (P (answer host reply)) q.immed _ _ (after.defers host reply (failure_of q.target)) (after.fails host reply)

    answered : (q : Request) → slot_of u.slots host ≡ Waiting q → Q (answered_for u host q reply)
    unfolding answered_for
    answered q e =
        chosen Q (is_flush (due_from u.unsaved q)) _ _
        (λ f. either Q (is_good reply) _ _ (after.flushes host reply q e f) (failing q (one_more (flushes_of q.stage))))
        (λ f. either Q (is_good reply) _ _ (after.succeeds host reply q e) (failing q (flushes_of q.stage)))

    replies : (v : Verdict) → Q (answer_settled u host reply v)
    replies (Ok _) = on (slot_of u.slots host) refl
      where
        on : (s : Slot) → slot_of u.slots host ≡ s → Q (answer_on u host reply s)
        on Empty e = after.none (answer host reply)
        on (Waiting q) e = answered q e
    replies (Err r) = after.none (answer host reply)

  -- What holds after every effect holds after every call.
  pub after_every : (c : Call) → P c (outcome u c).unit
  unfolding epc_outcome tick_outcome read_outcome write_outcome power_on_outcome reset_outcome sense_outcome log_outcome transitions_outcome new_page_outcome start_stop_outcome next_outcome answer_outcome
  after_every (set_features q) = subcommands q (lowest (epc_rows u q)) (after.epc q)
  after_every tick =
      settles tick (tick_effect u) (lowest (tick_rows u)) (λ v. chosen (P tick) (is_out u.out) _ _ (λ e. after.none tick) after.ticks)
  after_every (read host) = settles (read host) (read_effect u) (lowest (medium_rows u host)) (λ v. after.reads host)
  after_every (write host) = settles (write host) (write_effect u) (lowest (medium_rows u host)) (λ v. after.writes host)
  after_every power_on = settles power_on (power_on_effect u) (lowest (reset_rows u)) (λ v. after.powers_on)
  after_every hard_reset = settles hard_reset (hard_reset_effect u) (lowest (reset_rows u)) (λ v. after.resets_hard)
  after_every soft_reset = settles soft_reset (hard_reset_effect u) (lowest (reset_rows u)) (λ v. after.resets_soft)
  after_every (start_stop host cdb) = starts_stops host cdb (lowest (start_stop_rows u host cdb)) refl
  after_every (next host) = asks host (lowest (next_rows u host)) refl
  after_every (answer host reply) = replies host reply (lowest (answer_rows u host))
  after_every (request_sense host buffer) =
      fills (request_sense host buffer) (sense_effect host u) _ buffer (lowest (sense_rows u host buffer)) (after.tells host buffer)
  after_every (log_page buffer) = fills (log_page buffer) u _ buffer (lowest (log_rows u buffer)) (after.none (log_page buffer))
  after_every (transitions_page buffer) =
      fills (transitions_page buffer) u _ buffer (lowest (transitions_rows u buffer)) (after.none (transitions_page buffer))
  after_every (new_page number buffer) =
      fills (new_page number buffer) u _ buffer (lowest (new_page_rows u number buffer)) (after.none (new_page number buffer))
