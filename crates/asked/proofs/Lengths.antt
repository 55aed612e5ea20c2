-- The first bytes of a buffer whose bytes are all the same are such a buffer.
use mathlib.Core.Path.{◌≡◌, refl, ap}
use mathlib.Core.List.{◌∷◌}
use Prim.Native.Nat.{ℕ, zero, suc, ◌≤◌}
use native.Mathlib.Nat.{not-suc-le-zero}
use native.Mathlib.Omega.{arith}
use lib.ListN.{take, replicate}

pub take-replicate : (n m b : ℕ) → n ≤ m → take n (replicate m b) ≡ replicate n b
take-replicate zero m b h = refl
take-replicate (suc n) zero b h = absurd (not-suc-le-zero h)
take-replicate (suc n) (suc m) b h = ap (◌∷◌ b) (take-replicate n m b (omega arith))
