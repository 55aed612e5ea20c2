-- The format page, "Lines and words": numbers and bytes as they are written. Assumes nothing.
use Rattle.std.specs.Prelude.{cond, List, [], ◌∷◌, ◌++◌, ℕ, zero, suc, ◌+◌, ◌-◌, ◌/◌, ◌%◌, ltb, length, replicate}
use Prim.Native.Char.{code}

-- "upper case": the digit that stands for a number below 16.
abbrev pub glyph : ℕ → ℕ
glyph d = cond (ltb d 10) (code "0" + d) (code "A" + (d - 10))

-- "without leading zeros (`0` for zero)": a number in a base, of at most k digits.
unfoldable pub numeral : ℕ → ℕ → ℕ → List ℕ
numeral base zero n = []
numeral base (suc k) n =
    cond (ltb n base) (glyph n ∷ []) (numeral base k (n / base) ++ (glyph (n % base) ∷ []))

-- A number of 32 bits has at most 8 hex digits and at most 10 decimal ones.
abbrev pub hex_text : ℕ → List ℕ
hex_text n = numeral 16 8 n

abbrev pub decimal_text : ℕ → List ℕ
decimal_text n = numeral 10 10 n

-- Tenths as a decimal number with one place after the point.
abbrev pub tenths_text : ℕ → List ℕ
tenths_text n = decimal_text (n / 10) ++ (code "." ∷ glyph (n % 10) ∷ [])

-- "A byte in a byte string has two digits, a byte string no separators".
unfoldable pub pairs : List ℕ → List ℕ
pairs [] = []
pairs (b ∷ bs) = glyph (b / 16) ∷ glyph (b % 16) ∷ pairs bs

-- "an empty one is `-`".
abbrev pub bytes_text : List ℕ → List ℕ
bytes_text [] = code "-" ∷ []
bytes_text (b ∷ bs) = pairs (b ∷ bs)

abbrev pub spaces : ℕ → List ℕ
spaces n = replicate n (code " ")

-- A text at the right end of a column.
abbrev pub right_in : ℕ → List ℕ → List ℕ
right_in width bs = spaces (width - length bs) ++ bs

-- A text with blanks behind it up to a column.
abbrev pub padded : ℕ → List ℕ → List ℕ
padded width bs = bs ++ spaces (width - length bs)
