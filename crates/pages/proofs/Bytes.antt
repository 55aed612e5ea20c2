-- The bytes of a row of words: two a word, in the words' order. And what a copy into a row of zeros leaves.
use mathlib.Core.Path.{◌≡◌, refl}
use mathlib.Core.List.{List, [], ◌∷◌, ◌++◌}
use Prim.Native.Nat.{ℕ, zero, suc, ◌-◌, ◌*◌, ◌<◌}
use native.Mathlib.Nat.{sub-zero, zero-sub, suc-sub-suc}
use native.Mathlib.Omega.{arith}
use lib.ListN.{length, get_or, drop, replicate}
use lib.Seq.{paste, take-append_seam, drop-append-add, take-length}
use Rattle.pages.specs.Logs.{bytes_of}

pub bytes_append : (vs ws : List ℕ) → bytes_of (vs ++ ws) ≡ bytes_of vs ++ bytes_of ws
bytes_append [] ws = refl
bytes_append (v ∷ vs) ws = rw (bytes_append vs ws)

pub bytes_length : (ws : List ℕ) → length (bytes_of ws) ≡ 2 * length ws
bytes_length [] = refl
bytes_length (w ∷ ws) = let rest = bytes_length ws in omega arith

pub bytes_zeros : (n : ℕ) → bytes_of (replicate n 0) ≡ replicate (2 * n) 0
bytes_zeros zero = refl
bytes_zeros (suc n) = let two : 2 * suc n ≡ suc (suc (2 * n)) = omega arith in rw (two, bytes_zeros n)

-- Each of them is a byte.
pub bytes_small : (ws : List ℕ) (i : ℕ) → get_or (bytes_of ws) i 0 < 256
bytes_small [] i = omega arith
bytes_small (w ∷ ws) zero = omega arith
bytes_small (w ∷ ws) (suc zero) = omega arith
bytes_small (w ∷ ws) (suc (suc i)) = bytes_small ws i

module _ {A : Type 0} where
  pub drop-replicate : (n m : ℕ) (a : A) → drop n (replicate m a) ≡ replicate (m - n) a
  drop-replicate zero m a = rw sub-zero
  drop-replicate (suc n) zero a = rw zero-sub
  drop-replicate (suc n) (suc m) a = rw suc-sub-suc (drop-replicate n m a)

  -- A copy that begins where the first part ends
  pub paste_after : (p q s : List A) (n : ℕ) → length p ≡ n → paste (p ++ q) n s (length s) ≡ p ++ s ++ drop (length s) q
  paste_after p q s n e = rw (← e, take-append_seam, take-length, drop-append-add)
