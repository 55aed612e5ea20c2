-- Some bit of high:low is one exactly if one of the bits is that `span` lists. A range is its lowest bit and the range above that, so the proof is
-- by induction on the width; what is said of the list is then said of each bit.
use mathlib.Core.Path.{◌≡◌, refl, sym, ap, ◌∙◌}
use mathlib.Core.Bool.{Bool, true, false, not, ◌&&◌, ◌||◌, or-true, or_assoc, true≢false}
use mathlib.Core.List.{List, [], ◌∷◌, ◌++◌}
use mathlib.Core.Logic.{inl, inr}
use Prim.Native.Nat.{ℕ, zero, suc, ◌+◌, ◌-◌, ◌*◌, ◌/◌, ◌%◌, ◌^◌, ◌≤◌, ◌<◌, zero-le}
use native.Mathlib.Nat.{eq-or-lt_of_le, mod-one}
use native.Mathlib.Numerals.{add-one}
use native.Mathlib.Omega.{arith}
use lib.Dec.{eqb}
use lib.Pow.{mod-pow-add, shr-shr}
use borrow.Author.Tests.{ne_eqb}
use Rattle.rows.specs.Rows.{some_at}
use Rattle.bits.specs.Bits.{bit, some_one}
use Rattle.bits.specs.Reserved.{bits_from, span, is_named, some_unnamed}

-- ---- a range and its bits

-- the lowest bit and the range above it
lowest_apart : (n low w : ℕ) → n / 2 ^ low % 2 ^ suc w ≡ n / 2 ^ suc low % 2 ^ w * 2 + n / 2 ^ low % 2
lowest_apart n low w =
    let m = n / 2 ^ low in
    ap (λ (x : ℕ). m % 2 ^ x) (sym (add-one w)) ∙ mod-pow-add m w 1
    ∙ ap (λ (x : ℕ). x % 2 ^ w * 2 + m % 2) (shr-shr n low 1 ∙ ap (λ (x : ℕ). n / 2 ^ x) (add-one low))

either_one : (x y : ℕ) → not (eqb (x * 2 + y) 0) ≡ (not (eqb y 0) || not (eqb x 0))
either_one zero zero = refl
either_one (suc x) zero = rw (ne_eqb (suc x * 2 + 0) 0 (omega arith), ne_eqb (suc x) 0 (omega arith))
either_one x (suc y) = rw (ne_eqb (x * 2 + suc y) 0 (omega arith), ne_eqb (suc y) 0 (omega arith))

one_wide : (k n : ℕ) → bit k n ≡ not (eqb (n / 2 ^ k % 2) 0)
one_wide k n =
    let e : suc k - k ≡ 1 = omega arith in
    rw e

range_at : (w low n at : ℕ) → not (eqb (n / 2 ^ low % 2 ^ w) 0) ≡ some_at (λ at k. bit k n) at (bits_from low w)
range_at zero low n at = rw (mod-one (n / 2 ^ low))
range_at (suc w) low n at =
    rw (lowest_apart n low w, either_one (n / 2 ^ suc low % 2 ^ w) (n / 2 ^ low % 2), range_at w (suc low) n (suc at), one_wide low n)

-- the tests here look at the bit and not at its place in the list
any_place : (f : ℕ → Bool) (at from : ℕ) (l : List ℕ) → some_at (λ at k. f k) at l ≡ some_at (λ at k. f k) from l
any_place f at from [] = refl
any_place f at from (k ∷ l) = ap (◌||◌ (f k)) (any_place f (suc at) (suc from) l)

append_at : (f : ℕ → Bool) (at : ℕ) (l m : List ℕ)
    → some_at (λ at k. f k) at (l ++ m) ≡ (some_at (λ at k. f k) at l || some_at (λ at k. f k) 0 m)
append_at f at [] m = any_place f at 0 m
append_at f at (k ∷ l) m = rw (append_at f (suc at) l m, or_assoc)

-- "Some bit of high:low is one" is one bit after the other, from the lowest on; and so for two ranges.
pub range : (high low n : ℕ) → some_one high low n ≡ some_at (λ at k. bit k n) 0 (span high low)
range high low n = range_at (suc high - low) low n 0

pub two_ranges : (high low top bottom n : ℕ)
    → (some_one high low n || some_one top bottom n) ≡ some_at (λ at k. bit k n) 0 (span high low ++ span top bottom)
two_ranges high low top bottom n =
    rw (range high low n, range top bottom n, append_at (λ k. bit k n) 0 (span high low) (span top bottom))

-- ---- bit by bit

module _ (f : ℕ → Bool) where
  some_from : (w low at k : ℕ) → low ≤ k → k < low + w → f k ≡ true → some_at (λ at k. f k) at (bits_from low w) ≡ true
  some_from zero low at k from below holds = absurd (omega arith)
  some_from (suc w) low at k from below holds =
      elim (eq-or-lt_of_le from) [
        | inl e ↦ rw (e, holds)
        | inr h ↦ rw (some_from w (suc low) (suc at) k h (omega arith) holds) (or-true (f low))
      ]

  none_from : (w low at : ℕ) → ((k : ℕ) → low ≤ k → k < low + w → f k ≡ false) → some_at (λ at k. f k) at (bits_from low w) ≡ false
  none_from zero low at none = refl
  none_from (suc w) low at none =
      rw (none low (omega arith) (omega arith)) (none_from w (suc low) (suc at) (λ k from below. none k (omega arith) (omega arith)))

  -- A test that holds of one bit of a range holds of some; one that holds of none fails on each of them, and the other way round.
  pub some_in : (high low k : ℕ) → low ≤ k → k ≤ high → f k ≡ true → some_at (λ at k. f k) 0 (span high low) ≡ true
  some_in high low k from to holds = some_from (suc high - low) low 0 k from (omega arith) holds

  pub none_each : (high low : ℕ) → some_at (λ at k. f k) 0 (span high low) ≡ false → (k : ℕ) → low ≤ k → k ≤ high → f k ≡ false
  none_each high low none k from to = on (f k) refl
    where
      on : (holds : Bool) → f k ≡ holds → f k ≡ false
      on true e = absurd (true≢false (sym (some_in high low k from to e) ∙ none))
      on false e = e

  pub none_in : (high low : ℕ) → ((k : ℕ) → low ≤ k → k ≤ high → f k ≡ false) → some_at (λ at k. f k) 0 (span high low) ≡ false
  none_in high low none = none_from (suc high - low) low 0 (λ k from below. none k from (omega arith))

-- A bit that is not named and is one: then some is.
pub unnamed_one : (high : ℕ) (names : List ℕ) (n k : ℕ) → k ≤ high → is_named k names ≡ false → bit k n ≡ true → some_unnamed high names n ≡ true
unnamed_one high names n k to unnamed one = some_in (λ k. not (is_named k names) && bit k n) high 0 k zero-le to (rw (unnamed, one))

-- Where no such bit is one, each is zero,
pub unnamed_none : (high : ℕ) (names : List ℕ) (n : ℕ) → some_unnamed high names n ≡ false
    → (k : ℕ) → k ≤ high → is_named k names ≡ false → bit k n ≡ false
unnamed_none high names n none k to unnamed =
    rw unnamed at (none_each (λ k. not (is_named k names) && bit k n) high 0 none k zero-le to)

-- and where each is zero, no such bit is one.
pub unnamed_zero : (high : ℕ) (names : List ℕ) (n : ℕ)
    → ((k : ℕ) → k ≤ high → is_named k names ≡ false → bit k n ≡ false) → some_unnamed high names n ≡ false
unnamed_zero high names n zeros = none_in (λ k. not (is_named k names) && bit k n) high 0 (λ k from to. go k (is_named k names) refl to)
  where
    go : (k : ℕ) (named : Bool) → is_named k names ≡ named → k ≤ high → (not named && bit k n) ≡ false
    go k true e to = refl
    go k false e to = zeros k to e
