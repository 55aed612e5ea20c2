-- What holds at some place, for tests that are joined: the clauses of a paper may be tested apart or together, in one walk of the row.
use mathlib.Core.Path.{◌≡◌, refl, sym, ap, ◌∙◌}
use mathlib.Core.Bool.{Bool, true, false, not, ◌&&◌, ◌||◌, true≢false, false≢true}
use mathlib.Core.List.{List, [], ◌∷◌}
use Prim.Native.Nat.{ℕ, suc, ◌+◌, ◌<◌}
use native.Mathlib.Nat.{add-zero, suc-add, add-suc}
use native.Mathlib.Omega.{arith}
use lib.ListN.{length, get_or}
use borrow.Author.Tests.{not-true}
use Rattle.rows.specs.Rows.{every_at, some_at}
use Rattle.rows.proofs.Places.{every_from, every_at_lem}

-- ---- disjunctions of tests

pub or_left : (a b : Bool) → (a || b) ≡ false → a ≡ false
or_left true b h = h
or_left false b h = refl

pub or_right : (a b : Bool) → (a || b) ≡ false → b ≡ false
or_right true b h = absurd (true≢false h)
or_right false b h = h

swap : (a b c d : Bool) → (a || b || (c || d)) ≡ (a || c || (b || d))
swap true b c d = refl
swap false true true d = refl
swap false true false d = refl
swap false false c d = refl

neither : (a b : Bool) → not (a || b) ≡ (not a && not b)
neither true b = refl
neither false b = refl

module _ {A : Type 0} where
  -- tests that agree at each place agree on the row
  pub some_same : (f g : ℕ → A → Bool) (at : ℕ) (l : List A) → ((i : ℕ) (x : A) → f i x ≡ g i x) → some_at f at l ≡ some_at g at l
  some_same f g at [] e = refl
  some_same f g at (x ∷ xs) e = rw (e at x, some_same f g (suc at) xs e)

  -- one test or the other somewhere: one somewhere, or the other somewhere
  pub some_or : (f g : ℕ → A → Bool) (at : ℕ) (l : List A) → some_at (λ i x. f i x || g i x) at l ≡ (some_at f at l || some_at g at l)
  some_or f g at [] = refl
  some_or f g at (x ∷ xs) = rw (some_or f g (suc at) xs) (swap (f at x) (g at x) (some_at f (suc at) xs) (some_at g (suc at) xs))

  -- a condition that no place changes stands before the walk as well as in it
  pub some_when : (b : Bool) (f : ℕ → A → Bool) (at : ℕ) (l : List A) → some_at (λ i x. b && f i x) at l ≡ (b && some_at f at l)
  some_when true f at l = refl
  some_when false f at [] = refl
  some_when false f at (x ∷ xs) = some_when false f (suc at) xs

  -- somewhere: not everywhere not
  some_every : (f : ℕ → A → Bool) (at : ℕ) (l : List A) → not (some_at f at l) ≡ every_at (λ i x. not (f i x)) at l
  some_every f at [] = refl
  some_every f at (x ∷ xs) = rw (← some_every f (suc at) xs) (neither (f at x) (some_at f (suc at) xs))

  -- a test that holds nowhere fails at each place, and the other way round
  pub none_at : (f : ℕ → A → Bool) (l : List A) (z : A) → some_at f 0 l ≡ false → (i : ℕ) → i < length l → f i (get_or l i z) ≡ false
  none_at f l z h i k = not-true _ (every_at_lem (λ j x. not (f j x)) l z (sym (some_every f 0 l) ∙ ap not h) i k)

  pub none_from : (f : ℕ → A → Bool) (l : List A) (z : A) → ((i : ℕ) → i < length l → f i (get_or l i z) ≡ false) → some_at f 0 l ≡ false
  none_from f l z h = not-true _ (some_every f 0 l ∙ every_from (λ j x. not (f j x)) l z (λ i k. ap not (h i k)))

  -- a test that holds at a place holds somewhere
  pub some_from : (f : ℕ → A → Bool) (l : List A) (z : A) (i : ℕ) → i < length l → f i (get_or l i z) ≡ true → some_at f 0 l ≡ true
  some_from f l z i k h = on (some_at f 0 l) refl
    where
      on : (b : Bool) → some_at f 0 l ≡ b → some_at f 0 l ≡ true
      on true e = e
      on false e = absurd (true≢false (sym h ∙ none_at f l z e i k))

  -- and a test that holds somewhere holds at a place
  pub some_place : (f : ℕ → A → Bool) (at : ℕ) (l : List A) (z : A) → some_at f at l ≡ true
      → (i : ℕ) × (i < length l) × (f (at + i) (get_or l i z) ≡ true)
  some_place f at [] z h = absurd (false≢true h)
  some_place f at (x ∷ xs) z h = on (f at x) refl (λ later. some_place f (suc at) xs z later)
    where
      on : (b : Bool) → f at x ≡ b
          → (some_at f (suc at) xs ≡ true → (i : ℕ) × (i < length xs) × (f (suc at + i) (get_or xs i z) ≡ true))
          → (i : ℕ) × (i < length (x ∷ xs)) × (f (at + i) (get_or (x ∷ xs) i z) ≡ true)
      on true e rest = (0, omega arith, rw add-zero e)
      on false e rest = let r = rest (rw e at h) in (suc r.0, omega (arith, r.1), rw (add-suc, ← suc-add) r.2)
