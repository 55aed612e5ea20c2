-- The buffer that `sense`, `log`, `trans` and `page` lend: the first bytes of a longer one, all of them A5.
use mathlib.Core.Path.{◌≡◌, ◌∙◌}
use mathlib.Core.List.{List, ◌++◌}
use Prim.Native.Nat.{ℕ, ◌≤◌}
use native.Mathlib.Omega.{arith}
use lib.ListN.{length, take, drop, length-replicate}
use lib.Seq.{length_front, length-take-le, take_at}
use Rattle.asked.proofs.Lengths.{take-replicate}
use Rattle.asked.specs.Lengths.{buffer_length}
use Rattle.answers.specs.Answers.{unfilled}

pub has_room_lem : (buffer : List ℕ) (n : ℕ) → buffer ≡ unfilled 0x400 → n ≤ 0x400 → n ≤ length buffer
has_room_lem buffer n e h = rw (e, length-replicate {A = ℕ} 0x400 0xA5) h

pub lent_front : (buffer : List ℕ) (n len : ℕ) → buffer ≡ unfilled 0x400 → n ≡ buffer_length len → n ≤ 0x400 → take n buffer ≡ unfilled len
lent_front buffer n len e f h = rw (e, take-replicate n 0x400 0xA5 h, f)

-- What is lent comes back as long as it was: the whole has room for it, and its first bytes are what came back.
pub record ComesBack (buffer back : List ℕ) (n : ℕ) : Type 0 where
  pub within : n ≤ length (back ++ drop n buffer)
  pub front : take n (back ++ drop n buffer) ≡ back

pub comes_back : (buffer back : List ℕ) (n : ℕ) → n ≤ length buffer → length back ≡ length (take n buffer) → ComesBack buffer back n
comes_back buffer back n h kept = record {
  within = omega (arith, length_front buffer back n kept);
  front = take_at back (drop n buffer) n (kept ∙ length-take-le n buffer h);
}
