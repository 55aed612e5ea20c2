-- A list that is written out is a function's values at 0, 1, 2 ..: what it has at a place is the value there.
use mathlib.Core.Path.{◌≡◌, refl, ap, ap₂}
use mathlib.Core.List.{List, [], ◌∷◌, ◌++◌}
use Prim.Native.Nat.{ℕ, zero, suc, ◌-◌, ◌<◌, ◌≤◌}
use native.Mathlib.Nat.{sub-zero, suc-sub-suc}
use native.Mathlib.Omega.{arith}
use lib.ListN.{length, get_or}

module _ {A : Type 0} where
  -- The first n values of f.
  abbrev pub values : (ℕ → A) → ℕ → List A
  values f zero = []
  values f (suc n) = f 0 ∷ values (λ i. f (suc i)) n

  pub value_in : (f : ℕ → A) (n k : ℕ) (rest : List A) (z : A) → k < n → get_or (values f n ++ rest) k z ≡ f k
  value_in f zero k rest z h = absurd (omega arith)
  value_in f (suc n) zero rest z h = refl
  value_in f (suc n) (suc k) rest z h = value_in (λ i. f (suc i)) n k rest z (omega arith)

  pub value_past : (f : ℕ → A) (n k : ℕ) (rest : List A) (z : A) → n ≤ k → get_or (values f n ++ rest) k z ≡ get_or rest (k - n) z
  value_past f zero k rest z h = rw sub-zero
  value_past f (suc n) zero rest z h = absurd (omega arith)
  value_past f (suc n) (suc k) rest z h = rw suc-sub-suc (value_past (λ i. f (suc i)) n k rest z (omega arith))

  -- the last of a list that is read past its end
  pub alone : (x : A) (k : ℕ) → get_or (x ∷ []) k x ≡ x
  alone x zero = refl
  alone x (suc k) = refl

  -- a list's own values
  pub own_values : (l : List A) (z : A) (n : ℕ) → length l ≡ n → values (λ i. get_or l i z) n ≡ l
  own_values [] z zero e = refl
  own_values [] z (suc n) e = absurd (omega arith)
  own_values (x ∷ l) z zero e = absurd (omega arith)
  own_values (x ∷ l) z (suc n) e = ap (◌∷◌ x) (own_values l z n (omega arith))

  -- functions that agree below n have the same first n values
  pub values_same : (f g : ℕ → A) (n : ℕ) → ((i : ℕ) → i < n → f i ≡ g i) → values f n ≡ values g n
  values_same f g zero same = refl
  values_same f g (suc n) same = ap₂ ◌∷◌ (same 0 (omega arith)) (values_same (λ i. f (suc i)) (λ i. g (suc i)) n (λ i h. same (suc i) (omega arith)))
