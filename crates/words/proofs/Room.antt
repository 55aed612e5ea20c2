-- Bytes added to the first of a buffer, as far as it has room: the first that both have, cut at the buffer's length.
use mathlib.Core.Path.{◌≡◌, sym, ap, ◌∙◌}
use mathlib.Core.List.{List, [], ◌∷◌, ◌++◌}
use Prim.Native.Nat.{ℕ, zero, suc, ◌+◌, ◌-◌, min}
use native.Mathlib.Nat.{zero-min, min-zero, suc-min-suc}
use native.Mathlib.Omega.{arith}
use lib.ListN.{length, take}
use lib.Seq.{length-take-le, take-append-add}

pub take_min : (n : ℕ) (l : List ℕ) → take n l ≡ take (min n (length l)) l
take_min zero l = rw zero-min
take_min (suc n) [] = rw min-zero
take_min (suc n) (x ∷ l) = rw suc-min-suc (ap (◌∷◌ x) (take_min n l))

pub filled : (d more : List ℕ) (len start count : ℕ) → start ≡ min len (length d) → count ≡ min (length d - start) (length more)
    → take start d ++ take count more ≡ take (length d) (take len d ++ more)
filled d more len start count s e =
    let first : length (take start d) ≡ start = length-take-le start d (omega arith) in
    let whole : length d ≡ length (take start d) + (length d - start) = omega arith in
    rw (e, ← take_min)
    (sym (take-append-add (take start d) more (length d - start))
    ∙ rw (← whole, s, ← take_min))
