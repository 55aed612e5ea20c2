-- Bits of a number, as the papers write them: "bits 23:8" is `bits 23 8`.
use Rattle.std.specs.Prelude.{Bool, not, ℕ, suc, ◌-◌, ◌/◌, ◌%◌, ◌^◌, eqb}

-- The number that stands in bits high:low.
abbrev pub bits : ℕ → ℕ → ℕ → ℕ
bits high low n = n / 2 ^ low % 2 ^ (suc high - low)

-- Some bit of high:low is one.
abbrev pub some_one : ℕ → ℕ → ℕ → Bool
some_one high low n = not (eqb (bits high low n) 0)

-- The bit is one.
abbrev pub bit : ℕ → ℕ → Bool
bit k n = some_one k k n
