-- The format page, "Lines and words": the words of a line. Assumes nothing.
use Rattle.std.specs.Prelude.{Bool, true, false, cond, ◌||◌, Option, Some, None, List, [], ◌∷◌, ℕ, suc, eqb, drop, get_or, take}
use Prim.Native.Char.{code}
use Rattle.std.specs.Option.{option_map}
use Rattle.std.specs.Str.{bytes_eq}

-- "Words are separated by spaces and tabs".
abbrev pub is_blank : ℕ → Bool
is_blank b = eqb b (code " ") || eqb b (code "\t")

-- "`#` starts a comment, also inside a word".
abbrev pub is_comment : ℕ → Bool
is_comment b = eqb b (code "#")

abbrev pub is_empty : {A : Type 0} → List A → Bool
is_empty [] = true
is_empty (x ∷ xs) = false

-- A byte put before the first piece.
abbrev pub onto : ℕ → List (List ℕ) → List (List ℕ)
onto b [] = (b ∷ []) ∷ []
onto b (p ∷ ps) = (b ∷ p) ∷ ps

-- The line cut at every blank, up to the comment: "it and what follows are ignored, whatever bytes they are".
unfoldable pub pieces : List ℕ → List (List ℕ)
pieces [] = [] ∷ []
pieces (b ∷ bs) = cond (is_comment b) ([] ∷ []) (cond (is_blank b) ([] ∷ pieces bs) (onto b (pieces bs)))

unfoldable pub nonempty : List (List ℕ) → List (List ℕ)
nonempty [] = []
nonempty (p ∷ ps) = cond (is_empty p) (nonempty ps) (p ∷ nonempty ps)

-- "any other byte belongs to a word": the pieces that are not empty.
unfoldable pub words : List ℕ → List (List ℕ)
words line = nonempty (pieces line)

-- The word of that number, from 0; empty where the line has no such word.
unfoldable pub word_at : ℕ → List ℕ → List ℕ
word_at k line = get_or (words line) k []

-- A byte that belongs to no word.
abbrev pub ends_word : ℕ → Bool
ends_word b = is_blank b || is_comment b

-- How many blanks a text starts with, and how many bytes of a word.
unfoldable pub blanks : List ℕ → ℕ
blanks [] = 0
blanks (b ∷ bs) = cond (is_blank b) (suc (blanks bs)) 0

unfoldable pub word_length : List ℕ → ℕ
word_length [] = 0
word_length (b ∷ bs) = cond (ends_word b) 0 (suc (word_length bs))

abbrev pub behind_blanks : List ℕ → List ℕ
behind_blanks line = drop (blanks line) line

-- The first word, empty where there is none, and what follows it.
abbrev pub first_word : List ℕ → List ℕ
first_word line = take (word_length (behind_blanks line)) (behind_blanks line)

abbrev pub behind_word : List ℕ → List ℕ
behind_word line = drop (word_length (behind_blanks line)) (behind_blanks line)

-- ---- names

abbrev pub same : List ℕ → List ℕ → Bool
same a b = bytes_eq a b

-- The place of a word among names, from 0, if it is one of them.
unfoldable pub place_in : List ℕ → List (List ℕ) → Option ℕ
place_in w [] = None
place_in w (n ∷ ns) = cond (same w n) (Some 0) (option_map suc (place_in w ns))
