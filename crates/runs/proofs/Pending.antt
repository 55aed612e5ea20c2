-- The START STOP UNITs of the serial run are those of the real one: a host's CDB is pending from its acceptance to its last answer, where its whole run
-- stands for it. With each call, what was pending and what begins is what ends and what is pending then.
use Rattle.std.proofs.Common.{Ok}
use mathlib.Core.Path.{◌≡◌, refl, sym, ap, ◌∙◌}
use mathlib.Core.Bool.{Bool, true, false, cond, true≢false}
use mathlib.Core.List.{List, [], ◌∷◌, ◌++◌, append-nil}
use Prim.Native.Nat.{ℕ}
use lib.Dec.{eqb, ltb}
use lib.ListN.{set, replicate}
use borrow.Author.Tests.{eqb-true}
use Rattle.rows.proofs.Choices.{either}
use Rattle.unit.specs.Units.{slot_of, is_waiting, with_slot, rested}
use Rattle.refusals.specs.Refusals.{lowest}
use Rattle.unit.specs.declared.Slot.{Slot}
use Rattle.unit.specs.declared.Slot.TheVariants.{Empty, Waiting}
use Rattle.requests.specs.declared.Target.{Target}
use Rattle.requests.specs.declared.Request.{Request}
use Rattle.unit.specs.declared.Unit.{Unit}
use Rattle.operations.specs.Operations.{one_more, flushes_of, flush_counted}
use Rattle.exchange.specs.Answered.{flushed_well, failed}
use Rattle.bridge.specs.Bridge.{start_stop_rows}
use Rattle.exchange.specs.Exchange.{answer_rows}
use Rattle.cdb.specs.Cdb.{request_for}
use Rattle.requests.specs.declared.Reply.TheVariants.{Good}
use Rattle.calls.specs.Calls.{Call, step}
use Rattle.refusals.proofs.Lowest.{not_applies}
use Rattle.calls.specs.Described.{is_reset}
use Rattle.runs.specs.Deeds.{Deed, begins, goes_on, does, does_a}
use Rattle.runs.specs.Past.{cdb_of}
use Rattle.runs.specs.Serial.{begun_in}
use Rattle.runs.proofs.Deeds.{Taken, deed_at, by_deed, Leaves, sweeps, marks, passes, all_others}
use Rattle.runs.proofs.Known.{Known}
use Rattle.runs.proofs.Slots.{inside, none_waits, slot_after, Quiet}
use Rattle.runs.proofs.Same.{ended_in}
use Rattle.refusals.specs.declared.Refusal.TheVariants.{BadHost, OwnWaiting}

abbrev pub pending_in : Slot → List ℕ → List (List ℕ)
pending_in Empty cdb = []
pending_in (Waiting q) cdb = cdb ∷ []

abbrev pub pending : ℕ → List Deed → List Slot → List (List ℕ)
pending k past slots = pending_in (slot_of slots k) (cdb_of k past)

none_pending : (s : Slot) (cdb : List ℕ) → is_waiting s ≡ false → pending_in s cdb ≡ []
none_pending Empty cdb h = refl
none_pending (Waiting q) cdb h = absurd (true≢false h)

module _ (past : List Deed) (u : Unit) (known : Known past u) (k : ℕ) where
  -- With each deed: what was pending and what begins is what ends and what is pending then.
  abbrev Balance : Deed → Unit → Type 0
  Balance d v = (does_a is_reset d ≡ true → Quiet u)
      → pending k past u.slots ++ begun_in k d ≡ ended_in k past d ++ pending k (d ∷ past) v.slots

  unmoved : pending k past u.slots ++ [] ≡ pending k past u.slots
  unmoved = append-nil (pending k past u.slots)

  -- a slot set, by whether it is this host's
  set_pending : (host : ℕ) (s : Slot) → ltb 3 host ≡ false → (cdb : List ℕ)
      → pending_in (slot_of (set u.slots host s) k) cdb ≡ pending_in (cond (eqb host k) s (slot_of u.slots k)) cdb
  set_pending host s below cdb = ap (λ (x : Slot). pending_in x cdb) (slot_after u.slots host k s (inside u host known.0 below))

  -- this host's operation, which waits
  own_pending : (host : ℕ) (q : Request) → eqb host k ≡ true → slot_of u.slots host ≡ Waiting q → pending k past u.slots ≡ cdb_of host past ∷ []
  own_pending host q e waits = rw (← eqb-true host k e, waits)

  begins_balance : (host : ℕ) (cdb : List ℕ) (t : Target) → lowest (start_stop_rows u host cdb) ≡ Ok tt
      → Balance (begins host cdb) (with_slot host (Waiting (request_for t cdb)) (rested u))
  begins_balance host cdb t clear r =
      on (eqb host k) refl ∙ sym (set_pending host _ (not_applies (start_stop_rows u host cdb) BadHost clear) _)
    where
      on : (b : Bool) → eqb host k ≡ b → pending k past u.slots ++ cond b (cdb ∷ []) []
          ≡ pending_in (cond b (Waiting (request_for t cdb)) (slot_of u.slots k)) (cond b cdb (cdb_of k past))
      on true e =
          ap (λ (l : List (List ℕ)). l ++ cdb ∷ [])
          (none_pending (slot_of u.slots k) (cdb_of k past) (rw (← eqb-true host k e) (not_applies (start_stop_rows u host cdb) OwnWaiting clear)))
      on false e = unmoved

  flushes_balance : (host : ℕ) (q : Request) → Taken u host q → Balance (goes_on host Good) (flushed_well u host q).unit
  flushes_balance host q taken r =
      on (eqb host k) refl ∙ sym (set_pending host _ (not_applies (answer_rows u host) BadHost taken.clear) _)
    where
      on : (b : Bool) → eqb host k ≡ b → pending k past u.slots ++ []
          ≡ pending_in (cond b (Waiting (flush_counted q)) (slot_of u.slots k)) (cdb_of k past)
      on true e = unmoved ∙ own_pending host q e taken.waiting ∙ rw (← eqb-true host k e)
      on false e = unmoved

  ends_balance : (host : ℕ) (q : Request) → Taken u host q
      → pending k past u.slots ++ [] ≡ cond (eqb host k) (cdb_of host past ∷ []) [] ++ pending k past (set u.slots host Empty)
  ends_balance host q taken =
      on (eqb host k) refl
      ∙ ap (λ (l : List (List ℕ)). cond (eqb host k) (cdb_of host past ∷ []) [] ++ l)
      (sym (set_pending host Empty (not_applies (answer_rows u host) BadHost taken.clear) _))
    where
      on : (b : Bool) → eqb host k ≡ b → pending k past u.slots ++ []
          ≡ cond b (cdb_of host past ∷ []) [] ++ pending_in (cond b Empty (slot_of u.slots k)) (cdb_of k past)
      on true e = unmoved ∙ own_pending host q e taken.waiting
      on false e = unmoved

  fails_balance : (host : ℕ) (q : Request) (n : ℕ) → Taken u host q
      → pending k past u.slots ++ []
      ≡ cond (eqb host k) (cdb_of host past ∷ []) [] ++ pending k past (failed u host q n).unit.slots
  fails_balance host q n taken =
      either
      (λ (v : Unit). pending k past u.slots ++ [] ≡ cond (eqb host k) (cdb_of host past ∷ []) [] ++ pending k past v.slots)
      q.immed _ _ (ends_balance host q taken) (ends_balance host q taken)

  resets_balance : Quiet u → pending k past u.slots ++ [] ≡ pending_in (slot_of (replicate 4 Empty) k) (cdb_of k past)
  resets_balance quiet = rw (quiet k, none_waits k)

  other_balance : (c : Call) (v : Unit) → Leaves u c v → Balance (does c) v
  other_balance c v (sweeps power-on is slots none mark) r = rw slots (resets_balance (r is.0))
  other_balance c v (marks is none slots same mark) r = rw slots unmoved
  other_balance c v (passes is slots same mark) r = rw slots unmoved

  pub balanced : (c : Call) → Balance (deed_at u c) (step u c)
  balanced = by_deed Balance u (record {
    refused = λ c r. unmoved;
    aborted = λ q ten r. unmoved;
    begun = λ host cdb t clear wants. begins_balance host cdb t clear;
    asked = λ host q clear waits r. unmoved;
    flushed = λ host q taken f. flushes_balance host q taken;
    flush_failed = λ host q taken f r. fails_balance host q (one_more (flushes_of q.stage)) taken;
    last_succeeded = λ host q taken f r. ends_balance host q taken;
    last_failed = λ host q taken f r. fails_balance host q (flushes_of q.stage) taken;
  }) (all_others Balance u (λ c v did. other_balance c v did.leaves))
