-- A word is read digit by digit: the value so far and the digits that are left make the value, which after i digits is below 16^i.
use mathlib.Core.Path.{◌≡◌, refl, sym, ◌∙◌}
use mathlib.Core.Bool.{Bool, true, false, cond, ◌&&◌, and-false, and-eq-true_iff}
use mathlib.Core.List.{List}
use Prim.Native.Nat.{ℕ, ◌+◌, ◌*◌, ◌^◌, ◌<◌, ◌≤◌}
use native.Mathlib.Numerals.{add-one}
use native.Mathlib.Omega.{arith}
use borrow.Author.Tests.{leb-true, ltb-true, ltb-false, lt-ltb, le-ltb, le-leb, lt-leb}
use lib.Dec.{eqb, leb, ltb}
use lib.ListN.{length, get_or, drop, drop_of_length-le}
use lib.Pow.{pow-add, pow_mono}
use lib.Seq.{drop-cons}
use Rattle.std.proofs.Common.{Option, Some, None, IfSome, MatchOption, is_le, Less, Equal, Greater}
use Rattle.std.specs.Ordering.{nat_cmp}
use Rattle.std.proofs.lemmas.Bool.{eqb-true, eqb-false}
use Rattle.words.specs.Numbers.{is_between, digit_of, is_digit, digit_in, are_digits, value_after, value_of, is_number, word_number}

pub in_range : (first last b : ℕ) → is_between first last b ≡ true → (first ≤ b) × (b ≤ last)
in_range first last b e = let both = (and-eq-true_iff (leb first b) (leb b last)).0 e in (leb-true _ _ both.0, leb-true _ _ both.1)

-- the library's order of two numbers, at most equal, is the test of the definition
at_most_told : (a b : ℕ) → is_le (nat_cmp a b) ≡ leb a b
at_most_told a b = on (ltb a b) refl (eqb a b) refl
  where
    on : (t : Bool) → ltb a b ≡ t → (e : Bool) → eqb a b ≡ e → is_le (cond t Less (cond e Equal Greater)) ≡ leb a b
    on true h e k = let below = ltb-true a b h in sym (le-leb a b (omega arith))
    on false h true k = let same = eqb-true a b k in sym (le-leb a b (omega arith))
    on false h false k = let above = ltb-false a b h in let other = eqb-false a b k in sym (lt-leb a b (omega arith))

-- what `contains` tells of a length
pub within_told : (n : ℕ) {t : Bool} (r : Bool) → r ≡ is_le (nat_cmp 1 n) && is_le (nat_cmp n 8) → r ≡ t → is_between 1 8 n ≡ t
within_told n r e f = sym (rw (at_most_told 1 n, at_most_told n 8) at e) ∙ f

-- ---- one digit

pub read_digit : (b : ℕ) (r : Option ℕ) → r ≡ digit_in b → MatchOption r (16 ≤ digit_of b) (λ d. (digit_of b < 16) × (d ≡ digit_of b))
read_digit b r e = rw e (on (is_digit b) refl)
  where
    on : (t : Bool) → is_digit b ≡ t → MatchOption (cond t (Some (digit_of b)) None) (16 ≤ digit_of b) (λ d. (digit_of b < 16) × (d ≡ digit_of b))
    on true h = (ltb-true (digit_of b) 16 h, refl)
    on false h = ltb-false (digit_of b) 16 h

-- ---- the digits that are left

module _ (w : List ℕ) (i : ℕ) where
  pub bad_digit : i < length w → 16 ≤ digit_of (get_or w i 0) → are_digits (drop i w) ≡ false
  unfolding are_digits
  bad_digit h k = rw (drop-cons w i 0 h, le-ltb _ _ k)

  pub good_digit : i < length w → digit_of (get_or w i 0) < 16 → are_digits (drop i w) ≡ are_digits (drop (i + 1) w)
  unfolding are_digits
  good_digit h k = rw (add-one, drop-cons w i 0 h, lt-ltb _ _ k)

module _ (w : List ℕ) (value i : ℕ) where
  pub one_more_lem : i < length w → value_after value (drop i w) ≡ value_after (value * 16 + digit_of (get_or w i 0)) (drop (i + 1) w)
  unfolding value_after
  one_more_lem h = let turned : 16 * value ≡ value * 16 = omega arith in rw (add-one, drop-cons w i 0 h, ← turned)

  pub no_more : length w ≤ i → (are_digits (drop i w) ≡ true) × (value_after value (drop i w) ≡ value)
  unfolding are_digits value_after
  no_more h = (rw (drop_of_length-le w h), rw (drop_of_length-le w h))

pub below_more : (value digit i : ℕ) → value < 2 ^ (4 * i) → digit < 16 → value * 16 + digit < 2 ^ (4 * (i + 1))
below_more value digit i h k =
    let next : 4 * (i + 1) ≡ 4 * i + 4 = omega arith in
    rw (next, pow-add) (omega arith)

pub below_all : (value i : ℕ) → value < 2 ^ (4 * i) → i ≤ 8 → value < 2 ^ 32
below_all value i h k = let most = pow_mono {i = 4 * i} {j = 32} (omega arith) in omega arith

-- ---- what a word spells

module _ (top : ℕ) (w : List ℕ) where
  pub not_length : is_between 1 8 (length w) ≡ false → word_number top w ≡ None
  unfolding word_number is_number
  not_length e = rw e

  pub not_digits : are_digits w ≡ false → word_number top w ≡ None
  unfolding word_number is_number
  not_digits e = rw (e, and-false)

  pub too_large : top < value_of w → word_number top w ≡ None
  unfolding word_number is_number
  too_large h = rw (lt-leb _ _ h, and-false)

  pub spelled : is_between 1 8 (length w) ≡ true → are_digits w ≡ true → value_of w ≤ top → word_number top w ≡ Some (value_of w)
  unfolding word_number is_number
  spelled e f h = rw (e, f, le-leb _ _ h)

  -- no number that is read is above the top
  pub at_most : IfSome (word_number top w) (λ n. n ≤ top)
  unfolding word_number is_number
  at_most = on (is_number top w) refl
    where
      on : (b : Bool) → is_number top w ≡ b → IfSome (cond b (Some (value_of w)) None) (λ n. n ≤ top)
      on true e =
          let both = (and-eq-true_iff (is_between 1 8 (length w) && are_digits w) (leb (value_of w) top)).0 e in
          leb-true (value_of w) top both.1
      on false e = tt

pub within : (top : ℕ) (w : List ℕ) (n : ℕ) → Some n ≡ word_number top w → n ≤ top
within top w n e = rw (← e) at (at_most top w)
