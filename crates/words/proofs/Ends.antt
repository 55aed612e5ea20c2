-- Whether a line ends with a CR is seen at its last byte: a line of more than one byte ends as the rest of it does.
use mathlib.Core.Path.{◌≡◌, refl, sym, ap, ◌∙◌}
use mathlib.Core.Bool.{Bool, true, false, cond, and-true}
use mathlib.Core.List.{List, [], ◌∷◌}
use Prim.Native.Char.{code}
use Prim.Native.Nat.{ℕ, zero, suc, ◌+◌, ◌-◌, ◌<◌, ◌≤◌}
use native.Mathlib.Nat.{le_refl, not-suc-le-zero}
use native.Mathlib.Omega.{arith}
use lib.Dec.{eqb}
use lib.ListN.{length, get_or, drop, drop_of_length-le, take}
use lib.Seq.{drop-cons}
use denote.Ref.{Bor}
use Rattle.std.proofs.Common.{Option, Some, None, MatchOption}
use Rattle.std.specs.Cmp.Lexicographic.{pointwise}
use Rattle.std.specs.Option.{unwrap_or}
use Rattle.words.specs.Lines.{before_return}

one_more_lem : (t : Bool) (n : ℕ) → suc (cond t n (suc n)) ≡ cond t (suc n) (suc (suc n))
one_more_lem true n = refl
one_more_lem false n = refl

from_first : (b : ℕ) (bs : List ℕ) → before_return (b ∷ bs) ≡ cond (eqb (get_or (b ∷ bs) (length bs) 0) (code "\r")) (length bs) (suc (length bs))
unfolding before_return
from_first b [] = refl
from_first b (c ∷ bs) = ap suc (from_first c bs) ∙ one_more_lem (eqb (get_or (c ∷ bs) (length bs) 0) (code "\r")) (length bs)

pub at_last : (l : List ℕ) → 0 < length l
    → before_return l ≡ cond (eqb (get_or l (length l - 1) 0) (code "\r")) (length l - 1) (length l)
at_last [] h = absurd (not-suc-le-zero h)
at_last (b ∷ bs) h = let n : suc (length bs) - 1 ≡ length bs = omega arith in rw n (from_first b bs)

pub at_empty : (l : List ℕ) → length l ≡ 0 → before_return l ≡ 0
unfolding before_return
at_empty [] e = refl
at_empty (b ∷ bs) e = omega arith

last_of : (l : List ℕ) → 0 < length l → drop (length l - 1) l ≡ get_or l (length l - 1) 0 ∷ []
last_of l h =
    let all : suc (length l - 1) ≡ length l = omega arith in
    drop-cons l (length l - 1) 0 (omega arith) ∙ rw all (rw (drop_of_length-le l (le_refl (length l))))

ends : (l : List ℕ) → 0 < length l
    → before_return l ≡ cond (pointwise eqb (drop (length l - 1) l) (code "\r" ∷ [])) (length l - 1) (length l)
ends l h = rw (last_of l h, and-true) (at_last l h)

-- what is left when a CR at the end is taken off, or the line as it was
pub without : (l : List ℕ) (r : Option (Bor (List ℕ))) (d : Bor (List ℕ)) → d.now ≡ l
    → MatchOption r (pointwise eqb (drop (length l - 1) l) (code "\r" ∷ []) ≡ false)
    (λ x. (pointwise eqb (drop (length l - 1) l) (code "\r" ∷ []) ≡ true) × (x.now ≡ take (length l - 1) l) × (length x.now + 1 ≡ length l))
    → (length (unwrap_or r d).now ≡ before_return l) × (length (unwrap_or r d).now ≤ length l)
without l None d e h = rw e (on (length l) refl, omega arith)
  where
    on : (n : ℕ) → length l ≡ n → length l ≡ before_return l
    on zero z = rw (at_empty l z) z
    on (suc n) z = let last = rw h at (ends l (omega arith)) in sym last
without l (Some x) d e h = let last = rw h.0 at (ends l (omega arith)) in (omega arith, omega arith)
