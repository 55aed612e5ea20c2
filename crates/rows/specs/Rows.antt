-- A row is a list read with its places, counted from 0: the five conditions' records in falling power, the four hosts' slots.
-- Each of these folds starts counting at the place that it is given.
use Rattle.std.specs.Prelude.{Bool, true, false, ◌&&◌, ◌||◌, List, [], ◌∷◌, ℕ, suc}

module _ {A : Type 0} where
  -- The test holds at every place.
  abbrev pub every_at : (ℕ → A → Bool) → ℕ → List A → Bool
  every_at f at [] = true
  every_at f at (x ∷ xs) = f at x && every_at f (suc at) xs

  -- The test holds at some place.
  abbrev pub some_at : (ℕ → A → Bool) → ℕ → List A → Bool
  some_at f at [] = false
  some_at f at (x ∷ xs) = f at x || some_at f (suc at) xs

  -- The value that is left when each place in turn has had its say, the last one last.
  abbrev pub fold_at : {B : Type 0} → (ℕ → A → B → B) → ℕ → B → List A → B
  fold_at f at b [] = b
  fold_at f at b (x ∷ xs) = fold_at f (suc at) (f at x b) xs

  -- Each element changed by the rule of its place.
  abbrev pub map_at : {B : Type 0} → (ℕ → A → B) → ℕ → List A → List B
  map_at f at [] = []
  map_at f at (x ∷ xs) = f at x ∷ map_at f (suc at) xs
