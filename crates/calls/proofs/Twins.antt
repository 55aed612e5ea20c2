-- The edition makes no other difference. It is read in three places, and at each the two editions agree where `tells_edition` does not hold: then the rows of
-- the table agree, so the same is given; and each outcome is made, by what is given, of the record's other fields.
use Rattle.std.proofs.Common.{Ok, Err, Some, None, Option}
use mathlib.Core.Path.{◌≡◌, refl, sym, ap, ◌∙◌}
use mathlib.Core.Bool.{Bool, true, false, ◌&&◌, ◌||◌, cond}
use mathlib.Core.List.{List, []}
use mathlib.Core.Logic.{inr}
use Prim.Native.Nat.{ℕ, ◌≤◌}
use native.Mathlib.Omega.{arith}
use lib.Dec.{eqb, leb}
use borrow.Author.Tests.{leb-false}
use Rattle.rows.proofs.Some.{or_left, or_right}
use Rattle.bits.specs.Bits.{bits, bit}
use Rattle.conditions.specs.declared.Power.TheVariants.{Active}
use Rattle.drive.specs.Records.{largest_timer, unsupported}
use Rattle.drive.specs.Drives.{ticked}
use Rattle.drive.specs.declared.Drive.{Drive}
use Rattle.drive.specs.declared.Edition.{Edition}
use Rattle.drive.specs.declared.Edition.TheVariants.{Draft, Published}
use Rattle.drive.proofs.Ticks.{tick_below}
use Rattle.drive.proofs.WellFormed.{drive_within}
use Rattle.registers.specs.declared.Registers.{Registers}
use Rattle.requests.specs.declared.Failure.{Failure}
use Rattle.requests.specs.declared.Reply.{Reply}
use Rattle.requests.specs.declared.Request.{Request}
use Rattle.refusals.specs.Refusals.{is_same, lowest, rows_by}
use Rattle.refusals.specs.declared.Refusal.TheVariants.{Aborted}
use Rattle.epc.proofs.Reserved.{aborts_agree}
use Rattle.published.specs.Descriptors.{lacks_page}
use Rattle.published.proofs.Lacks.{lacks_exactly}
use Rattle.unit.specs.Units.{slot_of, is_out, well_formed, with_edition, with_drive, with_power, with_slot, rested}
use Rattle.unit.specs.declared.Slot.{Slot}
use Rattle.unit.specs.declared.Slot.TheVariants.{Empty, Waiting}
use Rattle.unit.specs.declared.Unit.{Unit}
use Rattle.unit.proofs.WellFormed.{unit_fine}
use Rattle.outcomes.specs.Settled.{settled}
use Rattle.operations.specs.Operations.{due_from, is_flush, is_good, failure_of}
use Rattle.engine.specs.Engine.{epc_settled, tick_effect, epc_outcome, tick_outcome, read_outcome, write_outcome, power_on_outcome, reset_outcome}
use Rattle.readouts.specs.Readouts.{filled, sense_outcome, log_outcome, transitions_outcome, new_page_outcome}
use Rattle.cdb.specs.Cdb.{wanted}
use Rattle.bridge.specs.Bridge.{start_stop_settled, start_stop_outcome}
use Rattle.bridge.specs.declared.StartStopped.{StartStopped}
use Rattle.exchange.specs.Answered.{taken, held_if, failed, answered_for}
use Rattle.exchange.specs.Exchange.{next_on, next_settled, next_outcome, answer_on, answer_settled, answer_outcome}
use Rattle.exchange.specs.declared.Asked.{Asked}
use Rattle.exchange.specs.declared.Replied.{Replied}
use Rattle.calls.specs.Calls.{Call, set_features, tick, read, write, power_on, hard_reset, soft_reset, start_stop, next, answer, request_sense, log_page, transitions_page, new_page, accepted, sent, progressed, Outcome, plainly, into_buffer, outcome}
use Rattle.calls.specs.Described.{describe, is_new_page, is_tick, own_rows, effect, writes}
use Rattle.calls.specs.Editions.{Bounded, twin_of, tells_edition, EditionBlind}
use Rattle.calls.specs.Table.{is_epc, applies_to}
use Rattle.calls.proofs.Numbers.{own_rows_lem}
use Rattle.refusals.specs.Refusals.{Verdict}
use Rattle.requests.specs.declared.Target.{Target}

-- ---- the same is given

-- 65,535 is within every edition's largest timer.
reaches : (ed : Edition) → 65535 ≤ largest_timer ed
reaches Draft = omega arith
reaches Published = omega arith

-- Where no timer and no idle count is above 65,535, what is well formed in one edition is so in another,
well_formed_in : (ed other : Edition) (u : Unit) → Bounded 65535 u → well_formed (with_edition ed u) ≡ true → well_formed (with_edition other u) ≡ true
well_formed_in ed other u small h =
    let p = (unit_fine (with_edition ed u)).0 h in
    let up = reaches other in
    (unit_fine (with_edition other u)).1 (record {
      drive =
          drive_within (largest_timer ed) (largest_timer other) unsupported u.drive
          (λ place below. record {
            default = omega (arith, up, small.default place below);
            saved = omega (arith, up, small.saved place below);
            current = omega (arith, up, small.current place below);
          })
          (omega (arith, up, small.idle)) p.drive;
      slots = p.slots;
      held = p.held;
      requests = p.requests;
      out = p.out;
    })

-- so what is not well formed is not so in either.
same_truth : (a b : Bool) → (a ≡ true → b ≡ true) → (b ≡ true → a ≡ true) → a ≡ b
same_truth true b to from = sym (to refl)
same_truth false true to from = from refl
same_truth false false to from = refl

-- No edition has a page above 1.
pages_agree : (ed other : Edition) (number : ℕ) → leb number 1 ≡ false → lacks_page ed number ≡ lacks_page other number
pages_agree ed other number h =
    let above = leb-false number 1 h in
    (lacks_exactly ed number).1 (inr above) ∙ sym ((lacks_exactly other number).1 (inr above))

-- a row for some calls, which agrees but for some of them
row_agrees : (names tells x y : Bool) → (names && tells) ≡ false → (tells ≡ false → x ≡ y) → (names && x) ≡ (names && y)
row_agrees true tells x y none same = same none
row_agrees false tells x y none same = refl

module _ (ed : Edition) (u : Unit) (small : Bounded 65535 u) (c : Call) (none : tells_edition u c ≡ false) where
  abbrev q : Registers
  q = (describe c).registers

  abbrev page : Bool
  page = is_new_page c && leb (describe c).page 1

  abbrev by_minutes : Bool
  by_minutes = is_epc c && (eqb (bits 3 0 q.lba) 2 && bit 7 q.lba)

  -- Three rows of the table look at the edition: 3, 11 and 10.
  table_agrees : lowest (rows_by (applies_to (with_edition ed u) c)) ≡ lowest (rows_by (applies_to u c))
  table_agrees =
      let neither = or_left (page || by_minutes) (is_tick c && leb 65535 u.drive.idle.0) none in
      rw (
        same_truth _ _ (well_formed_in ed u.edition u small) (well_formed_in u.edition ed u small),
        row_agrees _ _ _ _ (or_left page by_minutes neither) (pages_agree ed u.edition (describe c).page),
        row_agrees _ _ _ _ (or_right page by_minutes neither) (aborts_agree ed u.edition q u.drive.records),
      )

  rows_agree : lowest (own_rows (with_edition ed u) c) ≡ lowest (own_rows u c)
  rows_agree = own_rows_lem (with_edition ed u) c ∙ table_agrees ∙ sym (own_rows_lem u c)

-- ---- each kind of outcome, by what is given

module _ (ed : Edition) (u : Unit) where
  abbrev twin : Unit
  twin = with_edition ed u

  settles : (v : Unit) (given : Verdict) → plainly (settled twin (with_edition ed v) given) ≡ twin_of ed (plainly (settled u v given))
  settles v (Ok _) = refl
  settles v (Err r) = refl

  -- number 10 restarts the idle count, another one leaves the record
  subcommands : (v : Unit) (given : Verdict) → plainly (epc_settled twin (with_edition ed v) given) ≡ twin_of ed (plainly (epc_settled u v given))
  subcommands v (Ok _) = refl
  subcommands v (Err r) = on (is_same r Aborted)
    where
      on : (rests : Bool)
          → plainly (settled (cond rests (rested twin) twin) (with_edition ed v) (Err r)) ≡ twin_of ed (plainly (settled (cond rests (rested u) u) v (Err r)))
      on true = refl
      on false = refl

  fills : (v : Unit) (bytes buffer : List ℕ) (given : Verdict)
      → into_buffer (filled twin (with_edition ed v) bytes buffer given) ≡ twin_of ed (into_buffer (filled u v bytes buffer given))
  fills v bytes buffer (Ok _) = refl
  fills v bytes buffer (Err r) = refl

  abbrev of_start : StartStopped → Outcome
  of_start s = record { said = accepted s.answer; unit = s.unit; buffer = [] }

  starts_stops : (host : ℕ) (cdb : List ℕ) (w : Option Target) (given : Verdict)
      → of_start (start_stop_settled twin host cdb w given) ≡ twin_of ed (of_start (start_stop_settled u host cdb w given))
  starts_stops host cdb None (Ok _) = refl
  starts_stops host cdb (Some target) (Ok _) = refl
  starts_stops host cdb w (Err r) = refl

  abbrev of_next : Asked → Outcome
  of_next a = record { said = sent a.answer; unit = a.unit; buffer = [] }

  asks : (host : ℕ) (given : Verdict) → of_next (next_settled twin host given) ≡ twin_of ed (of_next (next_settled u host given))
  asks host (Ok _) = on (slot_of u.slots host)
    where
      on : (s : Slot) → of_next (next_on twin host s) ≡ twin_of ed (of_next (next_on u host s))
      on Empty = refl
      on (Waiting q) = refl
  asks host (Err r) = refl

  abbrev of_answer : Replied → Outcome
  of_answer r = record { said = progressed r.answer; unit = r.unit; buffer = [] }

  abbrev Twins : Replied → Replied → Type 0
  Twins r s = of_answer r ≡ twin_of ed (of_answer s)

  either_twins : (b : Bool) (r r' s s' : Replied) → Twins r s → Twins r' s' → Twins (cond b r r') (cond b s s')
  either_twins true r r' s s' p q = p
  either_twins false r r' s s' p q = q

  held_twin : (immed : Bool) (host : ℕ) (f : Failure) (v : Unit) → held_if immed host f (with_edition ed v) ≡ with_edition ed (held_if immed host f v)
  held_twin true host f v = refl
  held_twin false host f v = refl

  fails : (host : ℕ) (q : Request) (flushes : ℕ) → Twins (failed twin host q flushes) (failed u host q flushes)
  fails host q flushes =
      ap (λ (v : Unit). of_answer (record { answer = (failed u host q flushes).answer; unit = v }))
      (held_twin q.immed host (failure_of q.target) (with_slot host Empty (with_power Active (taken u))))

  answered : (host : ℕ) (reply : Reply) (q : Request) → Twins (answered_for twin host q reply) (answered_for u host q reply)
  unfolding answered_for
  answered host reply q =
      either_twins (is_flush (due_from u.unsaved q)) _ _ _ _ (either_twins (is_good reply) _ _ _ _ refl (fails host q _))
      (either_twins (is_good reply) _ _ _ _ refl (fails host q _))

  replies : (host : ℕ) (reply : Reply) (given : Verdict) → Twins (answer_settled twin host reply given) (answer_settled u host reply given)
  replies host reply (Ok _) = on (slot_of u.slots host)
    where
      on : (s : Slot) → Twins (answer_on twin host reply s) (answer_on u host reply s)
      on Empty = refl
      on (Waiting q) = answered host reply q
  replies host reply (Err r) = refl

  -- Below 65,535 a tick counts on in either edition.
  ticks : leb 65535 u.drive.idle.0 ≡ false → tick_effect twin ≡ with_edition ed (tick_effect u)
  ticks h =
      let below = leb-false 65535 u.drive.idle.0 h in
      let same = tick_below (largest_timer ed) u.drive (largest_timer u.edition) (omega (arith, reaches ed)) (omega (arith, reaches u.edition)) in
      rw same (on (is_out u.out))
    where
      after : Drive
      after = ticked (largest_timer u.edition) u.drive

      on : (out : Bool) → cond out twin (with_drive after twin) ≡ with_edition ed (cond out u (with_drive after u))
      on true = refl
      on false = refl

  -- ---- every call

  abbrev given : Call → Verdict
  given c = lowest (own_rows u c)

  twins : (c : Call) → lowest (own_rows twin c) ≡ given c → tells_edition u c ≡ false → outcome twin c ≡ twin_of ed (outcome u c)
  unfolding epc_outcome tick_outcome read_outcome write_outcome power_on_outcome reset_outcome sense_outcome log_outcome transitions_outcome new_page_outcome
      start_stop_outcome next_outcome answer_outcome
  twins (set_features q) same none = rw same (subcommands (effect u (set_features q)) (given (set_features q)))
  twins tick same none = rw (same, ticks none) (settles (effect u tick) (given tick))
  twins (read host) same none = rw same (settles (effect u (read host)) (given (read host)))
  twins (write host) same none = rw same (settles (effect u (write host)) (given (write host)))
  twins power_on same none = rw same (settles (effect u power_on) (given power_on))
  twins hard_reset same none = rw same (settles (effect u hard_reset) (given hard_reset))
  twins soft_reset same none = rw same (settles (effect u soft_reset) (given soft_reset))
  twins (start_stop host cdb) same none = rw same (starts_stops host cdb (wanted cdb) (given (start_stop host cdb)))
  twins (next host) same none = rw same (asks host (given (next host)))
  twins (answer host reply) same none = rw same (replies host reply (given (answer host reply)))
  twins (request_sense host buffer) same none = let c = request_sense host buffer in rw same (fills (effect u c) (writes u c) buffer (given c))
  twins (log_page buffer) same none = let c = log_page buffer in rw same (fills u (writes u c) buffer (given c))
  twins (transitions_page buffer) same none = let c = transitions_page buffer in rw same (fills u (writes u c) buffer (given c))
  twins (new_page number buffer) same none = let c = new_page number buffer in rw same (fills u (writes u c) buffer (given c))

-- Where no timer and no idle count is above 65,535, no call tells a unit's edition but the two new pages, 2h with LBA bit 7 one and a tick at 65,535.
pub edition_blind : EditionBlind outcome
edition_blind ed u c small none = twins ed u c (rows_agree ed u small c none) none
