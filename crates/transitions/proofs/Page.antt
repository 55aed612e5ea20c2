-- The page's bytes: how the six rows make it, and how each row's sum is read off it again.
use mathlib.Core.Path.{◌≡◌, refl, ap, ap₂}
use mathlib.Core.Bool.{Bool, true, false, cond}
use mathlib.Core.List.{List, [], ◌∷◌, ◌++◌, map}
use Prim.Native.Nat.{ℕ, zero, suc, ◌+◌, ◌*◌, ◌<◌, ◌≤◌}
use native.Mathlib.Omega.{arith}
use lib.Dec.{eqb, ltb}
use lib.ListN.{length, get_or, drop, replicate, set}
use lib.Seq.{paste}
use borrow.Author.Tests.{ltb-true}
use Rattle.rows.specs.Rows.{every_at}
use Rattle.rows.proofs.Places.{and_left, and_right}
use Rattle.rows.proofs.Values.{values, values_same}
use Rattle.transitions.specs.Counts.{full, cell}
use Rattle.transitions.specs.Page.{high_first, parameter_bytes, row_sum, Parameter, parameters, shown_by, page_header, transition_bytes}

-- A row's eight bytes pasted over the page.
abbrev put : List ℕ → ℕ → ℕ → ℕ → List ℕ
put page at code n = paste page at (parameter_bytes code n) 8

-- The header on zeros, then the six rows, each behind the one before it.
pub six_rows : (t : List (List ℕ))
    → put (put (put (put (put (put (set (set (replicate 52 0) 0 0x1A) 3 0x30) 4 1 (row_sum 0 t)) 12 2 (row_sum 1 t)) 20 3 (row_sum 2 t))
    28 4 (row_sum 3 t)) 36 8 (row_sum 5 t)) 44 9 (row_sum 4 t)
    ≡ transition_bytes t
unfolding parameter_bytes transition_bytes
six_rows t = refl

-- ---- what the page tells

-- The page is made of the sums alone: two tables with the same sums have the same page.
shown_same : (ps : List Parameter) (at : ℕ) (s t : List (List ℕ)) → every_at (λ i p. ltb p.row 6) at ps ≡ true
    → ((row : ℕ) → row < 6 → row_sum row s ≡ row_sum row t) → shown_by ps s ≡ shown_by ps t
shown_same [] at s t rows same = refl
shown_same (p ∷ ps) at s t rows same =
    ap₂ ◌++◌ (ap (parameter_bytes p.code) (same p.row (ltb-true _ _ (and_left (ltb p.row 6) _ rows))))
    (shown_same ps (suc at) s t (and_right (ltb p.row 6) _ rows) same)

pub sums_decide : (s t : List (List ℕ)) → ((row : ℕ) → row < 6 → row_sum row s ≡ row_sum row t) → transition_bytes s ≡ transition_bytes t
unfolding transition_bytes
sums_decide s t same = ap (λ (l : List ℕ). page_header ++ l) (shown_same parameters 0 s t refl same)

-- The number whose four bytes stand from a place on, high byte first.
abbrev pub number_at : ℕ → List ℕ → ℕ
number_at at bytes = 256 * (256 * (256 * get_or bytes at 0 + get_or bytes (at + 1) 0) + get_or bytes (at + 2) 0) + get_or bytes (at + 3) 0

sum_fits : (row : ℕ) (t : List (List ℕ)) → row_sum row t ≤ full
sum_fits row t = on (ltb n full) refl
  where
    n : ℕ
    n = cell row 0 t + cell row 1 t

    on : (b : Bool) → ltb n full ≡ b → cond b n full ≤ full
    on true e = omega (arith, ltb-true n full e)
    on false e = omega arith

four_back : (n : ℕ) → n ≤ full → number_at 0 (high_first n) ≡ n
four_back n h = omega arith

-- A count looked up by its parameter's code, as a SCSI tool does: of at most n parameters, each as long as its length byte says.
abbrev pub count_of : ℕ → ℕ → List ℕ → ℕ
count_of zero code bytes = 0
count_of (suc n) code bytes =
    cond (eqb (256 * get_or bytes 0 0 + get_or bytes 1 0) code) (number_at 4 bytes) (count_of n code (drop (4 + get_or bytes 3 0) bytes))

-- The page gives every row's sum back, by the codes of Active, Idle_A, Idle_B, Idle_C, Standby_y and Standby_z.
pub page_back : (t : List (List ℕ))
    → map (λ code. count_of 6 code (drop 4 (transition_bytes t))) (0x0001 ∷ 0x0002 ∷ 0x0003 ∷ 0x0004 ∷ 0x0009 ∷ 0x0008 ∷ [])
    ≡ values (λ row. row_sum row t) 6
unfolding transition_bytes parameter_bytes
page_back t = values_same (λ row. number_at 0 (high_first (row_sum row t))) (λ row. row_sum row t) 6 (λ row h. four_back (row_sum row t) (sum_fits row t))

-- "the page header is 1A 00 00 30": its last two bytes say how many bytes follow the header.
pub length_told : (t : List (List ℕ))
    → 256 * get_or (transition_bytes t) 2 0 + get_or (transition_bytes t) 3 0 ≡ length (drop 4 (transition_bytes t))
unfolding transition_bytes parameter_bytes
length_told t = refl

pub page_52 : (t : List (List ℕ)) → length (transition_bytes t) ≡ 52
unfolding transition_bytes parameter_bytes
page_52 t = refl
