-- Where each byte of the two pages stands. A condition's page is a first part that ends at the condition's byte, its descriptor, and a rest: so says
-- the table, and what no condition has is zeros.
use mathlib.Core.Path.{◌≡◌, refl, sym, ap, ap₂, ◌∙◌}
use mathlib.Core.List.{List, [], ◌++◌, append-nil, append_assoc}
use Prim.Native.Nat.{ℕ, zero, suc, ◌+◌, ◌-◌, ◌<◌, ◌≤◌}
use native.Mathlib.Nat.{lt_of_not-le}
use native.Mathlib.Omega.{arith}
use lib.Dec.{eqb}
use lib.ListN.{length, get_or, replicate, length-append, length-replicate, get_or-append}
use lib.Seq.{get_or-append-add}
use Rattle.rows.proofs.Choices.{either}
use Rattle.conditions.specs.declared.Condition.{Condition}
use Rattle.conditions.specs.declared.Condition.TheVariants.{IdleA, IdleB, IdleC, StandbyY, StandbyZ}
use Rattle.drive.specs.Records.{unsupported}
use Rattle.drive.specs.declared.Record.{Record}
use Rattle.published.specs.Descriptors.{named_bytes, descriptor, described, descriptor_page}
use Rattle.published.specs.Readings.{new_page_of, byte_of}
use Rattle.published.proofs.Copies.{descriptor_64}

-- ---- a descriptor

zeros_at : (n i : ℕ) → ◌≡◌ {A = ℕ} (get_or (replicate n 0) i 0) 0
zeros_at zero i = refl
zeros_at (suc n) zero = refl
zeros_at (suc n) (suc i) = zeros_at n i

-- Of its bytes the request names byte 1, the flags, and bytes 4 to 19, four numbers; "all else zero here".
pub unnamed_byte : (r : Record) (k : ℕ) → (k ≡ 1 → ⊥) → (4 ≤ k → k < 20 → ⊥) → get_or (descriptor r) k 0 ≡ 0
unfolding descriptor
unnamed_byte r zero flags numbers = refl
unnamed_byte r (suc zero) flags numbers = absurd (flags refl)
unnamed_byte r (suc (suc zero)) flags numbers = refl
unnamed_byte r (suc (suc (suc zero))) flags numbers = refl
unnamed_byte r (suc (suc (suc (suc k)))) flags numbers =
    let beyond = lt_of_not-le (numbers (omega arith)) in
    let after : suc (suc (suc (suc k))) ≡ 20 + (k - 16) = omega arith in
    ap (λ (i : ℕ). get_or (descriptor r) i 0) after ∙ get_or-append-add (named_bytes r) (replicate 44 0) (k - 16) 0 ∙ zeros_at 44 (k - 16)

-- A condition that is not supported has a descriptor of zeros.
pub unsupported_zeros : descriptor unsupported ≡ replicate 64 0
unfolding descriptor
unsupported_zeros = refl

-- ---- a part of a list that begins at a place

record Part (whole part : List ℕ) (at : ℕ) : Type 0 where
  front : List ℕ
  rest : List ℕ
  begins : length front ≡ at
  made : whole ≡ front ++ (part ++ rest)

last : (p d : List ℕ) (at : ℕ) → length p ≡ at → Part (p ++ d) d at
last p d at e = record { front = p; rest = []; begins = e; made = ap (◌++◌ p) (sym (append-nil d)) }

longer : {p d : List ℕ} {at : ℕ} → Part p d at → (q : List ℕ) → Part (p ++ q) d at
longer {d = d} a q = record {
  front = a.front;
  rest = a.rest ++ q;
  begins = a.begins;
  made = rw (a.made, append_assoc a.front (d ++ a.rest) q, append_assoc d a.rest q);
}

part_at : {p d : List ℕ} {at : ℕ} → Part p d at → (k : ℕ) → k < length d → get_or p (at + k) 0 ≡ get_or d k 0
part_at {d = d} a k h = rw (a.made, ← a.begins) (get_or-append-add a.front (d ++ a.rest) k 0 ∙ get_or-append d a.rest 0 k h)

-- ---- the pages

past : (at i : ℕ) → at ≤ i → (at ≤ i → i < at + 64 → ⊥) → at + 64 ≤ i
past at i h outside = let beyond = lt_of_not-le (outside h) in omega arith

module _ (rs : List Record) where
  abbrev has : Condition → List ℕ
  has c = described rs c

  has_64 : (c : Condition) → length (has c) ≡ 64
  has_64 c = descriptor_64 _

  -- What stands before the zeros of page 0, and before Standby_y and Standby_z on page 1.
  abbrev idle_half : List ℕ
  idle_half = has IdleA ++ has IdleB ++ has IdleC

  idle_192 : length idle_half ≡ 192
  idle_192 = rw (length-append, length-append, has_64 IdleA, has_64 IdleB, has_64 IdleC)

  abbrev ahead : List ℕ
  ahead = replicate 384 0

  ahead_384 : length ahead ≡ 384
  ahead_384 = length-replicate {A = ℕ} 384 0

  ahead_448 : length (ahead ++ has StandbyY) ≡ 448
  ahead_448 = length-append ahead (has StandbyY) ∙ ap₂ ◌+◌ ahead_384 (has_64 StandbyY)

  -- Each new page is 512 bytes.
  pub new_page_512 : (number : ℕ) → length (descriptor_page number rs) ≡ 512
  unfolding descriptor_page
  new_page_512 number =
      either (λ (page : List ℕ). length page ≡ 512) (eqb number 0) _ _
      (length-append idle_half (replicate 320 0) ∙ ap₂ ◌+◌ idle_192 (length-replicate {A = ℕ} 320 0))
      (length-append (ahead ++ has StandbyY) (has StandbyZ) ∙ ap₂ ◌+◌ ahead_448 (has_64 StandbyZ))

  -- The table of places, from the definition of the pages.
  placed : (c : Condition) → Part (descriptor_page (new_page_of c) rs) (has c) (byte_of c)
  unfolding descriptor_page
  placed IdleA = longer (longer (longer (last [] (has IdleA) 0 refl) (has IdleB)) (has IdleC)) (replicate 320 0)
  placed IdleB = longer (longer (last (has IdleA) (has IdleB) 64 (has_64 IdleA)) (has IdleC)) (replicate 320 0)
  placed IdleC = longer (last (has IdleA ++ has IdleB) (has IdleC) 128 (rw (length-append, has_64 IdleA, has_64 IdleB))) (replicate 320 0)
  placed StandbyY = longer (last ahead (has StandbyY) 384 ahead_384) (has StandbyZ)
  placed StandbyZ = last (ahead ++ has StandbyY) (has StandbyZ) 448 ahead_448

  -- A condition's descriptor stands on its page from its byte on.
  pub in_place : (c : Condition) (k : ℕ) → k < 64 → get_or (descriptor_page (new_page_of c) rs) (byte_of c + k) 0 ≡ get_or (described rs c) k 0
  in_place c k h = part_at (placed c) k (rw (has_64 c) h)

  -- A byte of page 0 or 1 that is in no condition's descriptor is zero.
  pub else_zero : (number i : ℕ) → number < 2 → i < 512
      → ((c : Condition) → new_page_of c ≡ number → byte_of c ≤ i → i < byte_of c + 64 → ⊥) → get_or (descriptor_page number rs) i 0 ≡ 0
  unfolding descriptor_page
  else_zero zero i low inside outside =
      let b = past 0 i (omega arith) (outside IdleA refl) in
      let c = past 64 i b (outside IdleB refl) in
      let end = past 128 i c (outside IdleC refl) in
      let after : i ≡ length idle_half + (i - 192) = omega (arith, idle_192) in
      ap (λ (i : ℕ). get_or (descriptor_page 0 rs) i 0) after ∙ get_or-append-add idle_half (replicate 320 0) (i - 192) 0 ∙ zeros_at 320 (i - 192)
  else_zero (suc zero) i low inside outside =
      let before : i < 384 = lt_of_not-le (λ y. let z = past 384 i y (outside StandbyY refl) in omega (arith, past 448 i z (outside StandbyZ refl))) in
      get_or-append (ahead ++ has StandbyY) (has StandbyZ) 0 i (omega (arith, ahead_448))
      ∙ get_or-append ahead (has StandbyY) 0 i (omega (arith, ahead_384))
      ∙ zeros_at 384 i
  else_zero (suc (suc number)) i low inside outside = absurd (omega arith)
