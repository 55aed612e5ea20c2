-- The format page, "Lines and words": numbers, flags and senses as words of a line, each with what stands before it. Assumes nothing.
use Rattle.std.specs.Prelude.{Bool, cond, List, [], ◌∷◌, ◌++◌, ℕ}
use Prim.Native.Char.{code}
use Rattle.digits.specs.Numerals.{hex_text, pairs}

-- "A flag is exactly `0` or `1`."
abbrev pub flag_word : Bool → List ℕ
flag_word b = cond b (code " " ∷ code "1" ∷ []) (code " " ∷ code "0" ∷ [])

abbrev pub number_word : ℕ → List ℕ
number_word n = code " " ∷ hex_text n

-- "KK, AA and QQ (key, ASC, ASCQ) always have two digits in output".
abbrev pub sense_text : ℕ → ℕ → ℕ → ℕ → ℕ → List ℕ
sense_text before between key asc ascq =
    (before ∷ pairs (key ∷ [])) ++ (between ∷ pairs (asc ∷ [])) ++ (between ∷ pairs (ascq ∷ []))
