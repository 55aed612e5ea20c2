-- A scan counts the bytes before the first that stops it, as the library's `position` does.
use mathlib.Core.Path.{◌≡◌, refl, sym, ap, ◌∙◌}
use mathlib.Core.Bool.{Bool, true, false, cond, not}
use mathlib.Core.List.{List, [], ◌∷◌}
use Prim.Native.Char.{code}
use Prim.Native.Nat.{ℕ, suc, ◌+◌, ◌≤◌, max}
use native.Mathlib.Numerals.{one-add}
use native.Mathlib.Omega.{arith}
use borrow.Author.Tests.{ltb-false}
use lib.Dec.{eqb, ltb}
use lib.ListN.{length, drop, length-drop}
use Rattle.std.proofs.Common.{Option, Some, None, MatchOption}
use Rattle.std.specs.List.{position_or_len}
use Rattle.std.specs.Option.{unwrap_or}
use Rattle.std.proofs.lemmas.List.Recursion.{is_position_or_len}
use Rattle.words.specs.Lines.{before_feed}
use Rattle.words.specs.Words.{is_blank, ends_word, blanks, word_length}

pub record Scan (f : List ℕ → ℕ) (stops : ℕ → Bool) : Type 0 where
  pub none : f [] ≡ 0
  pub more : (b : ℕ) (bs : List ℕ) → f (b ∷ bs) ≡ cond (stops b) 0 (suc (f bs))

pub feed : Scan before_feed (λ b. eqb b (code "\n"))
unfolding before_feed
feed = record { none = refl; more = λ b bs. refl }

pub word : Scan word_length ends_word
unfolding word_length
word = record { none = refl; more = λ b bs. refl }

swapped : {A : Type 0} (t : Bool) (x y : A) → cond t x y ≡ cond (not t) y x
swapped true x y = refl
swapped false x y = refl

pub gap : Scan blanks (λ b. not (is_blank b))
unfolding blanks
gap = record { none = refl; more = λ b bs. swapped (is_blank b) (suc (blanks bs)) 0 }

module _ {f : List ℕ → ℕ} {stops : ℕ → Bool} (s : Scan f stops) where
  pub scanned : (l : List ℕ) → f l ≡ position_or_len stops l
  scanned = is_position_or_len f stops s.none (λ b bs. s.more b bs ∙ ap (cond (stops b) 0) (sym (one-add (f bs))))

  scan_length : (l : List ℕ) → f l ≤ length l
  scan_length [] = rw s.none (omega arith)
  scan_length (b ∷ bs) = rw s.more (on (stops b) (scan_length bs))
    where
      on : (t : Bool) → f bs ≤ length bs → cond t 0 (suc (f bs)) ≤ suc (length bs)
      on true h = omega arith
      on false h = omega arith

  -- what the chain finds, or the end
  pub found : (l : List ℕ) (r : Option ℕ) → r ≡ cond (ltb (position_or_len stops l) (length l)) (Some (position_or_len stops l)) None
      → (unwrap_or r (length l) ≡ f l) × (unwrap_or r (length l) ≤ length l)
  found l r e = let n = scanned l in rw (e, ← n) (on (scan_length l) (ltb (f l) (length l)) refl)
    where
      on : f l ≤ length l → (t : Bool) → ltb (f l) (length l) ≡ t
          → (unwrap_or (cond t (Some (f l)) None) (length l) ≡ f l) × (unwrap_or (cond t (Some (f l)) None) (length l) ≤ length l)
      on most true h = (refl, most)
      on most false h = let past = ltb-false _ _ h in (omega arith, omega arith)

  -- a scan that starts within the text ends within it
  pub scan_within : (l : List ℕ) (i : ℕ) → i ≤ length l → i + f (drop i l) ≤ length l
  scan_within l i h = let rest = rw length-drop at (scan_length (drop i l)) in omega arith

-- a place found behind another is moved by it, and the end stands where it is
pub moved : (l : List ℕ) (from : ℕ) (r : Option ℕ) (z : ℕ) → MatchOption r (z ≡ max from (length l)) (λ x. z ≡ from + x)
    → z ≡ from + unwrap_or r (length (drop from l))
moved l from None z h = rw (h, length-drop) (omega arith)
moved l from (Some x) z h = h
