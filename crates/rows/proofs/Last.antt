-- The last place of a row that passes a test: where each place that passes has its say in turn, the last one's is what is left.
use mathlib.Core.Path.{◌≡◌, refl}
use mathlib.Core.Bool.{Bool, true, false, cond}
use mathlib.Core.List.{List, [], ◌∷◌}
use mathlib.Core.Logic.{◌⊎◌, inl, inr}
use Prim.Native.Nat.{ℕ, zero, suc, ◌<◌, ◌≤◌}
use native.Mathlib.Nat.{not-suc-le-zero, le_of_suc-le-suc}
use native.Mathlib.Omega.{arith}
use lib.Dec.{ltb}
use lib.ListN.{length, get_or}
use borrow.Author.Tests.{ltb-true, ltb-false}
use Rattle.rows.specs.Rows.{fold_at}

module _ {A : Type 0} where
  -- The step of such a fold: a place that passes puts its own word for what was said before.
  abbrev pub say : {B : Type 0} → (ℕ → A → Bool) → (ℕ → B) → ℕ → A → B → B
  say test word at x before = cond (test at x) (word at) before

  -- No place from i on passes: what a search from the last place back knows when it has come to i.
  abbrev pub NoneFrom : (ℕ → A → Bool) → List A → A → ℕ → Type 0
  NoneFrom test l z i = (j : ℕ) → i ≤ j → j < length l → test j (get_or l j z) ≡ false

  -- The place passes, and no place after it does.
  pub record LastAt (test : ℕ → A → Bool) (l : List A) (z : A) (i : ℕ) : Type 0 where
    pub inside : i < length l
    pub passes : test i (get_or l i z) ≡ true
    pub none_after : NoneFrom test l z (suc i)

  -- No place passes.
  abbrev pub NoneAt : (ℕ → A → Bool) → List A → A → Type 0
  NoneAt test l z = (i : ℕ) → i < length l → test i (get_or l i z) ≡ false

  -- A search from the last place back: where this place doesn't pass either, none from here on does.
  pub none_back : (test : ℕ → A → Bool) (l : List A) (z : A) (i : ℕ) → test i (get_or l i z) ≡ false → NoneFrom test l z (suc i) → NoneFrom test l z i
  none_back test l z i e h j k m = by (ltb i j) refl
    where
      by : (b : Bool) → ltb i j ≡ b → test j (get_or l j z) ≡ false
      by true t = h j (ltb-true i j t) m
      by false t = let same : j ≡ i = omega (arith, ltb-false i j t) in rw same e

  -- counting from the next place is counting from this one with the rule of the next
  fold_shift : {B : Type 0} (f : ℕ → A → B → B) (at : ℕ) (b : B) (l : List A) → fold_at f (suc at) b l ≡ fold_at (λ i. f (suc i)) at b l
  fold_shift f at b [] = refl
  fold_shift f at b (x ∷ xs) = fold_shift f (suc at) (f (suc at) x b) xs

  -- where no place passes, what was there first is left
  pub fold_none : {B : Type 0} (test : ℕ → A → Bool) (word : ℕ → B) (b : B) (l : List A) (z : A)
      → NoneAt test l z → fold_at (say test word) 0 b l ≡ b
  fold_none test word b [] z h = refl
  fold_none test word b (x ∷ xs) z h =
      rw (h 0 (omega arith), fold_shift (say test word) 0 b xs)
      (fold_none (λ i. test (suc i)) (λ i. word (suc i)) b xs z (λ i k. h (suc i) (omega arith)))

  -- the last place that passes has the last word
  pub fold_last : {B : Type 0} (test : ℕ → A → Bool) (word : ℕ → B) (b : B) (l : List A) (z : A) (i : ℕ)
      → LastAt test l z i → fold_at (say test word) 0 b l ≡ word i
  fold_last test word b [] z i h = absurd (not-suc-le-zero h.inside)
  fold_last test word b (x ∷ xs) z zero h =
      rw (h.passes, fold_shift (say test word) 0 (word 0) xs)
      (fold_none (λ i. test (suc i)) (λ i. word (suc i)) (word 0) xs z (λ j k. h.none_after (suc j) (omega arith) (omega arith)))
  fold_last test word b (x ∷ xs) z (suc i) h =
      rw (fold_shift (say test word) 0 (say test word 0 x b) xs)
      (fold_last (λ i. test (suc i)) (λ i. word (suc i)) (say test word 0 x b) xs z i
      (record {
        inside = le_of_suc-le-suc h.inside;
        passes = h.passes;
        none_after = λ j k m. h.none_after (suc j) (omega arith) (omega arith);
      }))

  module _ (test : ℕ → A → Bool) (x : A) (xs : List A) (z : A) where
    none_more : test 0 x ≡ false → NoneAt (λ i. test (suc i)) xs z → NoneAt test (x ∷ xs) z
    none_more e h zero k = e
    none_more e h (suc i) k = h i (le_of_suc-le-suc k)

    first_last : test 0 x ≡ true → NoneAt (λ i. test (suc i)) xs z → LastAt test (x ∷ xs) z 0
    first_last e h = record { inside = omega arith; passes = e; none_after = after }
      where
        after : (j : ℕ) → 0 < j → j < length (x ∷ xs) → test j (get_or (x ∷ xs) j z) ≡ false
        after zero k m = absurd (not-suc-le-zero k)
        after (suc j) k m = h j (le_of_suc-le-suc m)

    later_last : (i : ℕ) → LastAt (λ i. test (suc i)) xs z i → LastAt test (x ∷ xs) z (suc i)
    later_last i h = record { inside = omega (arith, h.inside); passes = h.passes; none_after = after }
      where
        after : (j : ℕ) → suc i < j → j < length (x ∷ xs) → test j (get_or (x ∷ xs) j z) ≡ false
        after zero k m = absurd (not-suc-le-zero k)
        after (suc j) k m = h.none_after j (le_of_suc-le-suc k) (le_of_suc-le-suc m)

  -- a row has a last place that passes, or none passes
  pub last_or_none : (test : ℕ → A → Bool) (l : List A) (z : A) → ((i : ℕ) × LastAt test l z i) ⊎ NoneAt test l z
  last_or_none test [] z = inr (λ i k. absurd (not-suc-le-zero k))
  last_or_none test (x ∷ xs) z = rest (last_or_none (λ i. test (suc i)) xs z)
    where
      first : NoneAt (λ i. test (suc i)) xs z → (b : Bool) → test 0 x ≡ b → ((i : ℕ) × LastAt test (x ∷ xs) z i) ⊎ NoneAt test (x ∷ xs) z
      first h true e = inl (0, first_last test x xs z e h)
      first h false e = inr (none_more test x xs z e h)

      rest : ((i : ℕ) × LastAt (λ i. test (suc i)) xs z i) ⊎ NoneAt (λ i. test (suc i)) xs z
          → ((i : ℕ) × LastAt test (x ∷ xs) z i) ⊎ NoneAt test (x ∷ xs) z
      rest (inl h) = inl (suc h.0, later_last test x xs z h.0 h.1)
      rest (inr h) = first h (test 0 x) refl
