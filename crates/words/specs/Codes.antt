-- A quoted text as its bytes, so that what is read and written can be said in letters.
use Rattle.std.specs.Prelude.{List, [], ◌∷◌, ℕ, zero, suc}
use Prim.Native.Char.{code}
use Prim.Native.String.{String, len, char_at}

abbrev pub codes_from : String → ℕ → ℕ → List ℕ
codes_from s at zero = []
codes_from s at (suc n) = code (char_at s at) ∷ codes_from s (suc at) n

abbrev pub codes : String → List ℕ
codes s = codes_from s 0 (len s)
