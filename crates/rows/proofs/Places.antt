-- What a fold says of each place, and the place's word taken together: every fact on the five conditions or the four hosts goes through here.
use mathlib.Core.Path.{◌≡◌, refl, ap, ◌∙◌}
use mathlib.Core.Bool.{Bool, true, false, ◌&&◌}
use mathlib.Core.List.{List, [], ◌∷◌}
use Prim.Native.Nat.{ℕ, zero, suc, ◌+◌, ◌<◌}
use native.Mathlib.Nat.{zero-add, add-zero, suc-add, add-suc, not-suc-le-zero, le_of_suc-le-suc}
use native.Mathlib.Omega.{arith}
use lib.ListN.{length, get_or}
use Rattle.rows.specs.Rows.{every_at, map_at}

-- ---- conjunctions of tests

pub and_left : (a b : Bool) → (a && b) ≡ true → a ≡ true
and_left true b h = refl
and_left false b h = h

pub and_right : (a b : Bool) → (a && b) ≡ true → b ≡ true
and_right true b h = h
and_right false b h = absurd (mathlib.Core.Bool.false≢true h)

pub and_both : (a b : Bool) → a ≡ true → b ≡ true → (a && b) ≡ true
and_both a b p q = rw (p, q)

module _ {A : Type 0} where
  every_from_at : (f : ℕ → A → Bool) (l : List A) (at : ℕ) (z : A)
      → ((i : ℕ) → i < length l → f (at + i) (get_or l i z) ≡ true) → every_at f at l ≡ true
  every_from_at f [] at z h = refl
  every_from_at f (x ∷ xs) at z h =
      and_both _ _ (rw add-zero at (h 0 (omega arith)))
      (every_from_at f xs (suc at) z (λ i k. rw (add-suc, ← suc-add) at (h (suc i) (omega arith))))

  every_at_at : (f : ℕ → A → Bool) (l : List A) (at : ℕ) (z : A) → every_at f at l ≡ true
      → (i : ℕ) → i < length l → f (at + i) (get_or l i z) ≡ true
  every_at_at f [] at z h i k = absurd (not-suc-le-zero k)
  every_at_at f (x ∷ xs) at z h zero k = rw add-zero (and_left _ _ h)
  every_at_at f (x ∷ xs) at z h (suc i) k =
      rw (add-suc, ← suc-add) (every_at_at f xs (suc at) z (and_right (f at x) _ h) i (le_of_suc-le-suc k))

  -- a test that holds at each place holds everywhere
  pub every_from : (f : ℕ → A → Bool) (l : List A) (z : A)
      → ((i : ℕ) → i < length l → f i (get_or l i z) ≡ true) → every_at f 0 l ≡ true
  every_from f l z h = every_from_at f l 0 z (λ i k. rw zero-add (h i k))

  -- and the other way round
  pub every_at_lem : (f : ℕ → A → Bool) (l : List A) (z : A) → every_at f 0 l ≡ true → (i : ℕ) → i < length l → f i (get_or l i z) ≡ true
  every_at_lem f l z h i k = rw zero-add at (every_at_at f l 0 z h i k)

  length-map_at_at : {B : Type 0} (f : ℕ → A → B) (l : List A) (at : ℕ) → length (map_at f at l) ≡ length l
  length-map_at_at f [] at = refl
  length-map_at_at f (x ∷ xs) at = ap suc (length-map_at_at f xs (suc at))

  pub length-map_at : {B : Type 0} (f : ℕ → A → B) (l : List A) → length (map_at f 0 l) ≡ length l
  length-map_at f l = length-map_at_at f l 0

  get_d_map_at_at : {B : Type 0} (f : ℕ → A → B) (l : List A) (at : ℕ) (z : A) (y : B) (i : ℕ) → i < length l
      → get_or (map_at f at l) i y ≡ f (at + i) (get_or l i z)
  get_d_map_at_at f [] at z y i h = absurd (not-suc-le-zero h)
  get_d_map_at_at f (x ∷ xs) at z y zero h = rw add-zero
  get_d_map_at_at f (x ∷ xs) at z y (suc i) h = rw (add-suc, ← suc-add) (get_d_map_at_at f xs (suc at) z y i (le_of_suc-le-suc h))

  pub get_d_map_at : {B : Type 0} (f : ℕ → A → B) (l : List A) (z : A) (y : B) (i : ℕ) → i < length l
      → get_or (map_at f 0 l) i y ≡ f i (get_or l i z)
  get_d_map_at f l z y i h = get_d_map_at_at f l 0 z y i h ∙ ap (λ (k : ℕ). f k (get_or l i z)) (zero-add i)
