-- A call changes no slot and no held sense but those of its own host: each effect sets the one or the other there, or clears all.
use Rattle.std.proofs.Common.{Ok, None}
use mathlib.Core.Path.{◌≡◌, refl}
use mathlib.Core.Bool.{Bool, true, false, ◌||◌, false≢true, true≢false}
use Prim.Native.Nat.{ℕ}
use lib.ListN.{replicate}
use Rattle.requests.specs.declared.Reply.TheVariants.{Good}
use Rattle.unit.specs.Units.{slot_of, held_of}
use Rattle.unit.specs.declared.Unit.{Unit}
use Rattle.calls.specs.Calls.{Call, set_features, tick, read, write, power_on, hard_reset, soft_reset, start_stop, next, answer, request_sense, log_page, transitions_page, new_page, outcome, step}
use Rattle.calls.specs.Described.{Reach, nobody, only, everybody, reach_of, is_reset, is_sense, same_kind, effect}
use Rattle.calls.specs.Table.{verdict_in}
use Rattle.calls.proofs.Numbers.{acceptance_does}
use Rattle.calls.proofs.Steps.{after_every}
use Rattle.unit.proofs.Hosts.{other_slot, other_held}
use Rattle.unit.specs.declared.Slot.TheVariants.{Empty}

-- Host k has in v the slot and the held sense that it has in u.
abbrev pub SameFor : ℕ → Unit → Unit → Type 0
SameFor k u v = (slot_of v.slots k ≡ slot_of u.slots k) × (held_of v.held k ≡ held_of u.held k)

-- Who is out of reach has the same in v as in u: with nobody in reach all slots and held senses, with one host those of every other.
abbrev pub Spared : Reach → Unit → Unit → Type 0
Spared nobody u v = (v.slots ≡ u.slots) × (v.held ≡ u.held)
Spared (only host) u v = (k : ℕ) → (k ≡ host → ⊥) → SameFor k u v
Spared everybody u v = Prim.Unit {0}

-- No call changes the slot or the held sense of a host that is out of its reach.
pub spared : (u : Unit) (c : Call) → Spared (reach_of c) u (outcome u c).unit
spared u = after_every (λ c v. Spared (reach_of c) u v) u (record {
  none = λ c. unmoved u refl refl (reach_of c);
  aborts = λ q. (refl, refl);
  epc = λ q e. (refl, refl);
  ticks = λ e. (refl, refl);
  reads = λ host k n. (refl, refl);
  writes = λ host k n. (refl, refl);
  powers_on = tt;
  resets_hard = tt;
  resets_soft = tt;
  accepts = λ host cdb t e w k n. (other_slot host k n u.slots _, refl);
  sends = λ host e k n. (refl, refl);
  flushes = λ host reply q e f k n. (other_slot host k n u.slots _, refl);
  fails = λ host reply k n. (other_slot host k n u.slots _, refl);
  defers = λ host reply f k n. (other_slot host k n u.slots _, other_held host k n u.held _);
  succeeds = λ host reply q e k n. (other_slot host k n u.slots _, refl);
  tells = λ host buffer k n. (refl, other_held host k n u.held _);
})
  where
    unmoved : (v : Unit) → v.slots ≡ u.slots → v.held ≡ u.held → (r : Reach) → Spared r u v
    unmoved v slots held nobody = (slots, held)
    unmoved v slots held (only host) = λ k n. (rw slots, rw held)
    unmoved v slots held everybody = tt

-- A host's call changes no other host's slot or held sense.
pub others_spared : (u : Unit) (c : Call) (host k : ℕ) → reach_of c ≡ only host → (k ≡ host → ⊥) → SameFor k u (outcome u c).unit
others_spared u c host k e other = (rw e at (spared u c)) k other

-- EPC, a tick and a read of a log page change no slot and no held sense at all.
pub all_spared : (u : Unit) (c : Call) → reach_of c ≡ nobody → ((outcome u c).unit.slots ≡ u.slots) × ((outcome u c).unit.held ≡ u.held)
all_spared u c e = rw e at (spared u c)

-- ---- what is held

-- Only an answer, REQUEST SENSE and a reset change what is held; of the answers, only a bad one with IMMED 1 (Answers · good_not_held, told_not_held).
abbrev pub may_hold : Call → Bool
may_hold c = is_reset c || same_kind c (answer 0 Good) || is_sense c

pub held_kept_lem : (u : Unit) (c : Call) → may_hold c ≡ false → (step u c).held ≡ u.held
held_kept_lem u = after_every (λ c v. may_hold c ≡ false → v.held ≡ u.held) u (record {
  none = λ c h. refl;
  aborts = λ q h. refl;
  epc = λ q e h. refl;
  ticks = λ e h. refl;
  reads = λ host h. refl;
  writes = λ host h. refl;
  powers_on = λ h. absurd (true≢false h);
  resets_hard = λ h. absurd (true≢false h);
  resets_soft = λ h. absurd (true≢false h);
  accepts = λ host cdb t e w h. refl;
  sends = λ host e h. refl;
  flushes = λ host reply q e f h. absurd (true≢false h);
  fails = λ host reply h. absurd (true≢false h);
  defers = λ host reply f h. absurd (true≢false h);
  succeeds = λ host reply q e h. absurd (true≢false h);
  tells = λ host buffer h. absurd (true≢false h);
})

-- ---- resets

-- "no operation, command out, deferred sense": of no host is anything left.
pub record Cleared (u : Unit) : Type 0 where
  pub slots : u.slots ≡ replicate 4 Empty
  pub held : u.held ≡ replicate 4 None
  pub out : u.out ≡ None

-- A reset is everybody's, and an accepted one clears all.
pub reset_clears_lem : (u : Unit) (c : Call) → is_reset c ≡ true → verdict_in (outcome u c).said ≡ Ok tt
    → (reach_of c ≡ everybody) × Cleared (step u c)
reset_clears_lem u c reset e = rw (acceptance_does u c e).0 (on c reset)
  where
    on : (c : Call) → is_reset c ≡ true → (reach_of c ≡ everybody) × Cleared (effect u c)
    on (set_features q) h = absurd (false≢true h)
    on tick h = absurd (false≢true h)
    on (read host) h = absurd (false≢true h)
    on (write host) h = absurd (false≢true h)
    on power_on h = (refl, record { slots = refl; held = refl; out = refl })
    on hard_reset h = (refl, record { slots = refl; held = refl; out = refl })
    on soft_reset h = (refl, record { slots = refl; held = refl; out = refl })
    on (start_stop host cdb) h = absurd (false≢true h)
    on (next host) h = absurd (false≢true h)
    on (answer host reply) h = absurd (false≢true h)
    on (request_sense host buffer) h = absurd (false≢true h)
    on (log_page buffer) h = absurd (false≢true h)
    on (transitions_page buffer) h = absurd (false≢true h)
    on (new_page number buffer) h = absurd (false≢true h)
