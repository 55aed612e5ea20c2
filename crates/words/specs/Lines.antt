-- The format page, "Lines and words": where a line ends. Assumes nothing.
use Rattle.std.specs.Prelude.{cond, List, [], ◌∷◌, ℕ, suc, eqb, take}
use Prim.Native.Char.{code}

-- "A line ends with LF": the number of bytes before it, or of all where there is none.
unfoldable pub before_feed : List ℕ → ℕ
before_feed [] = 0
before_feed (b ∷ bs) = cond (eqb b (code "\n")) 0 (suc (before_feed bs))

-- "one CR just before the LF, or before the end of input, is dropped": the number of bytes without it.
unfoldable pub before_return : List ℕ → ℕ
before_return [] = 0
before_return (b ∷ []) = cond (eqb b (code "\r")) 0 1
before_return (b ∷ c ∷ bs) = suc (before_return (c ∷ bs))

-- A line's bytes without it.
abbrev pub line_in : List ℕ → List ℕ
line_in text = take (before_return text) text
