-- "Bits not named are reserved": the bits that a table names as a list, and whether one that it does not name is one.
use Rattle.std.specs.Prelude.{Bool, not, ◌&&◌, List, [], ◌∷◌, ℕ, zero, suc, ◌-◌, eqb}
use Rattle.rows.specs.Rows.{some_at}
use Rattle.bits.specs.Bits.{bit}

-- That many bits from the first on.
abbrev pub bits_from : ℕ → ℕ → List ℕ
bits_from first zero = []
bits_from first (suc count) = first ∷ bits_from (suc first) count

-- The bits high:low, the lowest first.
abbrev pub span : ℕ → ℕ → List ℕ
span high low = bits_from low (suc high - low)

-- The bit is named.
abbrev pub is_named : ℕ → List ℕ → Bool
is_named k names = some_at (λ at name. eqb name k) 0 names

-- Of the bits high:0, some bit that is not named is one.
abbrev pub some_unnamed : ℕ → List ℕ → ℕ → Bool
some_unnamed high names n = some_at (λ at k. not (is_named k names) && bit k n) 0 (span high 0)
