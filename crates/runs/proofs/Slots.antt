-- Laws about the slots and what is out: a slot after it is set, records in which nothing waits.
use Rattle.std.proofs.Common.{Some, None, Option}
use mathlib.Core.Path.{◌≡◌, refl, sym, ap, ◌∙◌}
use mathlib.Core.Bool.{Bool, true, false, not, cond, true≢false, false≢true}
use mathlib.Core.List.{List, [], ◌∷◌}
use Prim.Native.Nat.{ℕ, zero, suc, ◌<◌}
use native.Mathlib.Omega.{arith}
use lib.Dec.{eqb, ltb}
use lib.ListN.{length, set, replicate}
use borrow.Author.Tests.{ltb-false, eqb-true, eqb-false, not-false}
use Rattle.rows.specs.Rows.{every_at}
use Rattle.rows.proofs.Places.{and_left, and_right}
use Rattle.unit.specs.Units.{slot_of, is_waiting, is_out, is_out_for, out_well_formed, well_formed}
use Rattle.requests.specs.declared.Request.{Request}
use Rattle.unit.specs.declared.Slot.{Slot}
use Rattle.unit.specs.declared.Slot.TheVariants.{Empty, Waiting}
use Rattle.unit.specs.declared.Unit.{Unit}
use Rattle.unit.proofs.Hosts.{own_slot, other_slot}
use Rattle.unit.proofs.WellFormed.{unit_fine}
use Rattle.runs.specs.Serial.{nothing_waits}

-- ---- what waits and what is out, by the case

pub waiting_same : (p q : Request) → Waiting p ≡ Waiting q → p ≡ q
waiting_same p q e = cc

pub empty_waits : {A : Type 0} (q : Request) → Empty ≡ Waiting q → A
empty_waits q e = let no : ◌≡◌ {A = ℕ} 0 1 = cc in absurd (omega arith)

pub out_same : (h k : ℕ) → Some h ≡ Some k → h ≡ k
out_same h k e = cc

pub taken_out : (u : Unit) (host : ℕ) → not (is_out_for host u.out) ≡ false → u.out ≡ Some host
taken_out u host e = on u.out (not-false _ e)
  where
    on : (o : Option ℕ) → is_out_for host o ≡ true → o ≡ Some host
    on None e = absurd (false≢true e)
    on (Some h) e = ap Some (eqb-true h host e)

pub none_out_for : {A : Type 0} (o : Option ℕ) (k : ℕ) → is_out o ≡ false → o ≡ Some k → A
none_out_for o k none e = absurd (true≢false (sym (ap is_out e) ∙ none))

-- ---- a slot set

pub inside : (u : Unit) (host : ℕ) → well_formed u ≡ true → ltb 3 host ≡ false → host < length u.slots
inside u host fine h = omega (arith, ((unit_fine u).0 fine).slots, ltb-false 3 host h)

-- After a host's slot is set, host k's is the one set if k is that host, else as before.
pub slot_after : (slots : List Slot) (host k : ℕ) (s : Slot) → host < length slots
    → slot_of (set slots host s) k ≡ cond (eqb host k) s (slot_of slots k)
slot_after slots host k s h = on (eqb host k) refl
  where
    on : (b : Bool) → eqb host k ≡ b → slot_of (set slots host s) k ≡ cond b s (slot_of slots k)
    on true e = rw (← eqb-true host k e) (own_slot slots host s h)
    on false e = other_slot host k (λ same. eqb-false host k e (sym same)) slots s

-- ---- a record with nothing waiting

abbrev pub Quiet : Unit → Type 0
Quiet u = (k : ℕ) → slot_of u.slots k ≡ Empty

-- What is out is a waiting operation's, so here nothing is.
pub quiet_out : (v : Unit) → well_formed v ≡ true → Quiet v → v.out ≡ None
quiet_out v fine quiet = on v.out ((unit_fine v).0 fine).out
  where
    on : (o : Option ℕ) → out_well_formed v.slots o ≡ true → o ≡ None
    on None h = refl
    on (Some k) h = absurd (false≢true (sym (ap is_waiting (quiet k)) ∙ h))

-- Where nothing waits every slot is empty, past the fourth too.
pub nothing_waits_lem : (u : Unit) → nothing_waits u ≡ true → Quiet u
nothing_waits_lem u = each 0 u.slots
  where
    empty : (s : Slot) → not (is_waiting s) ≡ true → s ≡ Empty
    empty Empty h = refl
    empty (Waiting q) h = absurd (false≢true h)

    each : (at : ℕ) (slots : List Slot) → every_at (λ i s. not (is_waiting s)) at slots ≡ true → (k : ℕ) → slot_of slots k ≡ Empty
    each at [] h k = refl
    each at (s ∷ slots) h zero = empty s (and_left (not (is_waiting s)) _ h)
    each at (s ∷ slots) h (suc k) = each (suc at) slots (and_right (not (is_waiting s)) _ h) k

-- After a reset nothing waits.
pub none_waits : (k : ℕ) → slot_of (replicate 4 Empty) k ≡ Empty
none_waits k = all 4 k
  where
    all : (n k : ℕ) → slot_of (replicate n Empty) k ≡ Empty
    all zero k = refl
    all (suc n) zero = refl
    all (suc n) (suc k) = all n k
