-- A line is cut at its room. It does not matter whether that is done once, at its end, or after each piece: so pieces may be put one by one.
-- And what a numeral and a byte string have at each place.
use mathlib.Core.Path.{◌≡◌, refl, sym, ap, ◌∙◌}
use mathlib.Core.Bool.{Bool, true, false, cond}
use mathlib.Core.List.{List, [], ◌∷◌, ◌++◌, append-nil, append_assoc}
use Prim.Native.Nat.{ℕ, zero, suc, ◌+◌, ◌-◌, ◌*◌, ◌/◌, ◌%◌, ◌<◌, ◌≤◌, min}
use native.Mathlib.Numerals.{add-one, sub-one}
use native.Mathlib.Omega.{arith}
use borrow.Author.Tests.{lt-ltb, le-ltb, le-leb, lt-leb}
use lib.Dec.{ltb}
use lib.ListN.{length, take, set, length-append, length-take}
use lib.Seq.{paste, take_all, take-append-add, take-append-le, take-suc-set}
use Rattle.std.proofs.lemmas.List.{take_min, take-take}
use Rattle.digits.specs.declared.Text.{Text}
use Rattle.digits.specs.Texts.{said, cut, written_at, after}
use Rattle.digits.specs.Numerals.{glyph, numeral, pairs, bytes_text, spaces}

-- ---- what a text says

-- Its array has its length, in the words in which the checker gives it of a parameter.
abbrev pub Whole : Text → Type 0
Whole t = length t.bytes ≡ 128

pub said_length : (t : Text) → Whole t → length (said t) ≡ min t.len 128
unfolding said
said_length t e = rw (length-take, e)

-- as many bytes as it has, at most, are those that it says
pub said_min : (t : Text) → Whole t → take (min t.len 128) t.bytes ≡ said t
unfolding said
said_min t e = rw (← e) (take_min t.len t.bytes)

-- ---- a line that is cut

take_front : (n : ℕ) (a b : List ℕ) → take n (take n a ++ b) ≡ take n (a ++ b)
take_front zero a b = refl
take_front (suc n) [] b = refl
take_front (suc n) (x ∷ a) b = ap (◌∷◌ x) (take_front n a b)

-- one piece after another
pub cut_more : (a b c : List ℕ) → cut (cut (a ++ b) ++ c) ≡ cut (a ++ (b ++ c))
unfolding cut
cut_more a b c = rw (take_front 128 (a ++ b) c, append_assoc a b c)

-- the same of what two texts say: x says s and a, y says x and b
pub put_after : {x y : List ℕ} (s a b : List ℕ) → x ≡ cut (s ++ a) → y ≡ cut (x ++ b) → y ≡ cut (s ++ (a ++ b))
put_after s a b e f = f ∙ rw (e, cut_more)

pub cut_once : (a b : List ℕ) → cut (cut a ++ b) ≡ cut (a ++ b)
cut_once a b = cut_more [] a b

-- bytes behind the room are cut
take_back : (n m : ℕ) (a b : List ℕ) → n ≤ m → take n (a ++ take m b) ≡ take n (a ++ b)
take_back zero m a b h = refl
take_back n m [] b h = take-take n m b h
take_back (suc n) m (x ∷ a) b h = ap (◌∷◌ x) (take_back n m a b (omega arith))

take_blanks : (n k : ℕ) → take k (spaces n) ≡ spaces (min n k)
take_blanks n zero = let e : min n 0 ≡ 0 = omega arith in rw e
take_blanks zero (suc k) = let e : min 0 (suc k) ≡ 0 = omega arith in rw e
take_blanks (suc n) (suc k) = let e : min (suc n) (suc k) ≡ suc (min n k) = omega arith in rw e (ap (◌∷◌ 32) (take_blanks n k))

pub cut_blanks : (a : List ℕ) (n : ℕ) → cut (a ++ spaces (min n 128)) ≡ cut (a ++ spaces n)
unfolding cut
cut_blanks a n = rw (← take_blanks n 128) (take_back 128 128 a (spaces n) (omega arith))

-- by these a text that is put piece by piece says its pieces one after another
pub ruleset one_by_one = (cut_more, cut_once, append_assoc)

-- what has room is not cut
pub cut_short : (bs : List ℕ) → length bs ≤ 128 → cut bs ≡ bs
unfolding cut
cut_short bs h = take_all 128 bs h

-- what a text says is cut already
pub cut_said : (t : Text) → Whole t → said t ≡ cut (said t ++ [])
unfolding cut
cut_said t e = rw append-nil (sym (take_all 128 (said t) (omega (arith, said_length t e))))

-- a text that is full takes no more
pub put_full : (t : Text) (b : ℕ) → Whole t → 128 ≤ t.len → said t ≡ cut (said t ++ (b ∷ []))
unfolding cut
put_full t b e h =
    let l = said_length t e in
    rw (take-append-le 128 (said t) (b ∷ []) (omega arith)) (sym (take_all 128 (said t) (omega arith)))

-- any other takes a byte after what it says
pub put_one : (t : Text) (b : ℕ) → Whole t → t.len < 128
    → take (t.len + 1) (set t.bytes t.len b) ≡ cut (said t ++ (b ∷ []))
unfolding cut said
put_one t b e h =
    rw (add-one, take-suc-set t.bytes t.len b (omega arith))
    (sym (take_all 128 (take t.len t.bytes ++ (b ∷ [])) (rw (length-append, length-take) (omega arith))))

-- as many bytes as there is room for stand behind what it says
pub put_more : (t : Text) (more : List ℕ) (at n : ℕ) → Whole t → at ≡ min t.len 128 → n ≡ min (length more) (128 - at)
    → take at t.bytes ++ take n more ≡ cut (said t ++ more)
unfolding cut
put_more t more at n e at_is n_is =
    let front : take at t.bytes ≡ said t = rw at_is (said_min t e) in
    let fewer : n ≡ min (128 - at) (length more) = omega arith in
    let few : take n more ≡ take (128 - at) more = rw fewer (take_min (128 - at) more) in
    let full : 128 ≡ length (said t) + (128 - at) = omega (arith, said_length t e) in
    rw (front, few) (sym (ap (λ k. take k (said t ++ more)) full ∙ take-append-add (said t) more (128 - at)))

-- ---- bytes that have room on a sheet, and bytes that have none

pub goes_in : (out : List ℕ) (at : ℕ) (bs : List ℕ) → at + length bs ≤ length out
    → (paste out at bs (length bs) ≡ written_at out at bs) × (at + length bs ≡ after out at bs)
unfolding written_at after
goes_in out at bs h = let e = le-leb (at + length bs) (length out) h in (rw e, rw e)

pub stays_out : (out : List ℕ) (at : ℕ) (bs : List ℕ) → length out < at + length bs
    → (out ≡ written_at out at bs) × (at ≡ after out at bs)
unfolding written_at after
stays_out out at bs h = let e = lt-leb (at + length bs) (length out) h in (rw e, rw e)

-- ---- numerals

pub numeral_one : (base k n : ℕ) → (k ≡ 0 → ⊥) → n < base → numeral base k n ≡ glyph n ∷ []
unfolding numeral
numeral_one base zero n p h = absurd (p refl)
numeral_one base (suc k) n p h = rw (lt-ltb n base h)

pub numeral_more : (base k n : ℕ) → (k ≡ 0 → ⊥) → base ≤ n
    → numeral base k n ≡ numeral base (k - 1) (n / base) ++ (glyph (n % base) ∷ [])
unfolding numeral
numeral_more base zero n p h = absurd (p refl)
numeral_more base (suc k) n p h = rw (le-ltb n base h, sub-one)

pub numeral_length : (base k n : ℕ) → length (numeral base k n) ≤ k
unfolding numeral
numeral_length base zero n = omega arith
numeral_length base (suc k) n = on (ltb n base) (numeral_length base k (n / base))
  where
    on : (b : Bool) → length (numeral base k (n / base)) ≤ k
        → length (cond b (glyph n ∷ []) (numeral base k (n / base) ++ (glyph (n % base) ∷ []))) ≤ suc k
    on true h = omega arith
    on false h = rw length-append (omega arith)

-- ---- byte strings

pub pairs_length : (bs : List ℕ) → length (pairs bs) ≡ 2 * length bs
unfolding pairs
pairs_length [] = refl
pairs_length (b ∷ bs) = omega (arith, pairs_length bs)

pub pairs-append : (a b : List ℕ) → pairs (a ++ b) ≡ pairs a ++ pairs b
unfolding pairs
pairs-append [] b = refl
pairs-append (x ∷ a) b = ap (λ l. glyph (x / 16) ∷ glyph (x % 16) ∷ l) (pairs-append a b)

pub bytes_some : (bs : List ℕ) → (length bs ≡ 0 → ⊥) → bytes_text bs ≡ pairs bs
bytes_some [] p = absurd (p refl)
bytes_some (b ∷ bs) p = refl
