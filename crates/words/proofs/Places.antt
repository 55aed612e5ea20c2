-- The place of a word among names is that of the first name that is the word, and the word of a number is the item that the line's words have there.
use mathlib.Core.Path.{◌≡◌, refl, ap, ◌∙◌}
use mathlib.Core.Bool.{Bool, true, false, cond}
use mathlib.Core.List.{List, [], ◌∷◌}
use Prim.Native.Nat.{ℕ, suc, ◌+◌}
use native.Mathlib.Nat.{add-zero}
use native.Mathlib.Omega.{arith}
use denote.Ref.{Bor}
use lib.ListN.{get_or}
use Rattle.std.proofs.Common.{Option, Some, None}
use Rattle.std.proofs.lemmas.Iterator.Adapters.{position_from-zero}
use Rattle.std.proofs.lemmas.Option.{unwrap_or-slice_get}
use Rattle.std.specs.List.{position, position_from, slice_get}
use Rattle.std.specs.Option.{option_map, unwrap_or}
use Rattle.words.specs.Words.{same, place_in}

further : (i : ℕ) (r : Option ℕ) → option_map (λ k. i + 1 + k) r ≡ option_map (λ k. i + k) (option_map suc r)
further i None = refl
further i (Some k) = let one : i + 1 + k ≡ i + suc k = omega arith in ap Some one

placed_from : (w : List ℕ) (i : ℕ) (names : List (List ℕ)) → position_from (same w) i names ≡ option_map (λ k. i + k) (place_in w names)
unfolding place_in
placed_from w i [] = refl
placed_from w i (n ∷ ns) = on (same w n) (placed_from w (i + 1) ns)
  where
    on : (t : Bool) → position_from (same w) (i + 1) ns ≡ option_map (λ k. i + 1 + k) (place_in w ns)
        → cond t (Some i) (position_from (same w) (i + 1) ns) ≡ option_map (λ k. i + k) (cond t (Some 0) (option_map suc (place_in w ns)))
    on true h = rw add-zero
    on false h = h ∙ further i (place_in w ns)

from_zero : (r : Option ℕ) → option_map (λ k. 0 + k) r ≡ r
from_zero None = refl
from_zero (Some k) = let same : 0 + k ≡ k = omega arith in ap Some same

pub placed : (w : List ℕ) (names : List (List ℕ)) → position (same w) names ≡ place_in w names
placed w names = position_from-zero (same w) names ∙ (placed_from w 0 names ∙ from_zero (place_in w names))

-- what an item shows, or the bytes in its place
seen : (r : Option (Bor (List ℕ))) (d : Bor (List ℕ)) → (unwrap_or r d).now ≡ unwrap_or (option_map (λ x. x.now) r) d.now
seen None d = refl
seen (Some x) d = refl

pub item_at : (r : Option (Bor (List ℕ))) (d : Bor (List ℕ)) (xs : List (List ℕ)) (k : ℕ) → option_map (λ x. x.now) r ≡ slice_get xs k
    → (unwrap_or r d).now ≡ get_or xs k d.now
item_at r d xs k e = seen r d ∙ rw e (unwrap_or-slice_get xs k d.now)
