-- A row changed place by place: what holds of each element before and after its change holds of the whole row.
use mathlib.Core.Path.{◌≡◌, refl, ap₂}
use mathlib.Core.Bool.{Bool, true, false}
use mathlib.Core.List.{List, [], ◌∷◌, map}
use Prim.Native.Nat.{ℕ, zero, suc, ◌+◌}
use native.Mathlib.Nat.{zero-add, add-zero, suc-add, add-suc}
use lib.ListN.{get_or}
use Rattle.rows.specs.Rows.{every_at, some_at, map_at}
use Rattle.rows.proofs.Places.{and_left, and_right, and_both}
use Rattle.rows.proofs.Some.{or_left, or_right}

module _ {A B C : Type 0} (change : ℕ → A → B) (before : A → C) (after : B → C)
    (same : (i : ℕ) (x : A) → after (change i x) ≡ before x) where
  map-map_at_at : (at : ℕ) (l : List A) → map after (map_at change at l) ≡ map before l
  map-map_at_at at [] = refl
  map-map_at_at at (x ∷ xs) = ap₂ ◌∷◌ (same at x) (map-map_at_at (suc at) xs)

  -- where each element shows the same after its change as before it, so does the row
  pub map-map_at : (l : List A) → map after (map_at change 0 l) ≡ map before l
  map-map_at l = map-map_at_at 0 l

module _ {A B : Type 0} (change : ℕ → A → B) (before : ℕ → A → Bool) (after : ℕ → B → Bool)
    (keeps : (i : ℕ) (x : A) → before i x ≡ true → after i (change i x) ≡ true) where
  every_map_at_at : (at : ℕ) (l : List A) → every_at before at l ≡ true → every_at after at (map_at change at l) ≡ true
  every_map_at_at at [] h = refl
  every_map_at_at at (x ∷ xs) h =
      and_both _ _ (keeps at x (and_left (before at x) _ h)) (every_map_at_at (suc at) xs (and_right (before at x) _ h))

  -- where each element that passed before its change passes after it, so does the row
  pub every_map_at : (l : List A) → every_at before 0 l ≡ true → every_at after 0 (map_at change 0 l) ≡ true
  every_map_at l h = every_map_at_at 0 l h

module _ {A : Type 0} where
  place_kept_at : (f : ℕ → A → A) (at : ℕ) (l : List A) (i : ℕ) (z : A) → f (at + i) (get_or l i z) ≡ get_or l i z
      → get_or (map_at f at l) i z ≡ get_or l i z
  place_kept_at f at [] i z e = refl
  place_kept_at f at (x ∷ xs) zero z e = rw add-zero at e
  place_kept_at f at (x ∷ xs) (suc i) z e = place_kept_at f (suc at) xs i z (rw (add-suc, ← suc-add) at e)

  -- a place whose rule leaves what stands there, and so any place past the end
  pub place_kept : (f : ℕ → A → A) (l : List A) (i : ℕ) (z : A) → f i (get_or l i z) ≡ get_or l i z → get_or (map_at f 0 l) i z ≡ get_or l i z
  place_kept f l i z e = place_kept_at f 0 l i z (rw zero-add e)

  -- a test that held at every place, where each rule keeps it unless it is barred there, and none is barred
  pub test_kept : (p barred : ℕ → A → Bool) (f : ℕ → A → A) (at : ℕ) (l : List A)
      → ((i : ℕ) (x : A) → p i x ≡ true → barred i x ≡ false → p i (f i x) ≡ true)
      → every_at p at l ≡ true → some_at barred at l ≡ false → every_at p at (map_at f at l) ≡ true
  test_kept p barred f at [] keeps h none = refl
  test_kept p barred f at (x ∷ xs) keeps h none =
      and_both _ _ (keeps at x (and_left _ _ h) (or_left _ _ none))
      (test_kept p barred f (suc at) xs keeps (and_right (p at x) _ h) (or_right (barred at x) _ none))
