-- A line is not cut if the bounds of its pieces add up to less than a text's room: each piece has a bound, whatever its number.
use mathlib.Core.Path.{◌≡◌, refl}
use mathlib.Core.Bool.{Bool, true, false, cond}
use mathlib.Core.List.{List, [], ◌∷◌, ◌++◌, map}
use Prim.Native.Char.{code}
use Prim.Native.Nat.{ℕ, zero, suc, ◌+◌, ◌*◌, ◌≤◌}
use native.Mathlib.Omega.{arith}
use lib.ListN.{length, length-append, length-replicate, length-take}
use Rattle.rows.proofs.Values.{values}
use Rattle.digits.specs.Numerals.{hex_text, decimal_text, tenths_text, right_in, padded}
use Rattle.digits.specs.Sheets.{joined, line_text}
use Rattle.digits.specs.Texts.{cut}
use Rattle.digits.proofs.Digits.{cut_short, numeral_length}

-- Bytes of which there are at most n.
pub record Within (bs : List ℕ) (n : ℕ) : Type 0 where
  pub bound : length bs ≤ n

pub whole : (bs : List ℕ) → Within bs (length bs)
whole bs = record { bound = omega arith }

pub looser : {bs : List ℕ} {m n : ℕ} → m ≤ n → Within bs m → Within bs n
looser h w = record { bound = omega arith }

infixl 5 ◌then◌
pub ◌then◌ : {a b : List ℕ} {m n : ℕ} → Within a m → Within b n → Within (a ++ b) (m + n)
v then w = record { bound = rw length-append (omega arith) }

pub either : {a b : List ℕ} {n : ℕ} (c : Bool) → Within a n → Within b n → Within (cond c a b) n
either true v w = v
either false v w = w

-- ---- the pieces

pub hex : (n : ℕ) → Within (hex_text n) 8
hex n = record { bound = numeral_length 16 8 n }

pub decimal : (n : ℕ) → Within (decimal_text n) 10
decimal n = record { bound = numeral_length 10 10 n }

pub tenths : (n : ℕ) → Within (tenths_text n) 12
tenths n = decimal _ then whole _

pub decimal_whole : (n : ℕ) → cut (decimal_text n) ≡ decimal_text n
decimal_whole n = cut_short (decimal_text n) (omega (arith, (decimal n).bound))

pub tenths_whole : (n : ℕ) → cut (tenths_text n) ≡ tenths_text n
tenths_whole n = cut_short (tenths_text n) (omega (arith, (tenths n).bound))

-- a text that has room in its column fills it
pub at_right : {bs : List ℕ} {width : ℕ} → Within bs width → Within (right_in width bs) width
at_right w = record { bound = rw (length-append, length-replicate) (omega arith) }

pub at_left : {bs : List ℕ} {width : ℕ} → Within bs width → Within (padded width bs) width
at_left w = record { bound = rw (length-append, length-replicate) (omega arith) }

-- ---- lines

abbrev pub ended : List ℕ → List ℕ
ended bs = bs ++ (code "\n" ∷ [])

pub line_uncut : {bs : List ℕ} → Within bs 127 → line_text bs ≡ ended bs
line_uncut {bs} w = cut_short (ended bs) (w then whole (code "\n" ∷ [])).bound

-- Lines that stand whole, each with its LF.
pub record Uncut (ls : List (List ℕ)) : Type 0 where
  pub lines : map line_text ls ≡ map ended ls

pub none : Uncut []
none = record { lines = refl }

infixr 4 ◌and◌
pub ◌and◌ : {bs : List ℕ} {ls : List (List ℕ)} → Within bs 127 → Uncut ls → Uncut (bs ∷ ls)
w and ls = record { lines = rw (line_uncut w, ls.lines) }

-- The lines that a function has at 0, 1, 2 ..
pub each : {f : ℕ → List ℕ} {ls : List (List ℕ)} (n : ℕ) → ((k : ℕ) → Within (f k) 127) → Uncut ls → Uncut (values f n ++ ls)
each zero w ls = ls
each (suc n) w ls = w 0 and each n (λ k. w (suc k)) ls

-- ---- how many bytes lines have

pub cut_small : (bs : List ℕ) → length (cut bs) ≤ 128
unfolding cut
cut_small bs = rw length-take (omega arith)

-- Lines of at most 128 bytes each, one behind the other.
abbrev pub Small : List (List ℕ) → Type 0
Small ls = length (joined ls) ≤ 128 * length ls

pub line_more : (t : List ℕ) (ls : List (List ℕ)) → Small ls → Small (line_text t ∷ ls)
line_more t ls h = rw length-append (omega (arith, cut_small (ended t)))

pub lines_small : (ts : List (List ℕ)) → Small (map line_text ts)
lines_small [] = omega arith
lines_small (t ∷ ts) = line_more t (map line_text ts) (lines_small ts)
