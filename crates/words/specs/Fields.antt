-- The format page, "Lines and words": what the words of a line spell, by their numbers from 0. Assumes nothing.
use Rattle.std.specs.Prelude.{Bool, Option, List, [], ◌∷◌, ℕ, eqb, length}
use Rattle.words.specs.Codes.{codes}
use Rattle.words.specs.Numbers.{word_number, word_flag}
use Rattle.words.specs.Words.{place_in, word_at, words}

abbrev pub has_words : ℕ → List ℕ → Bool
has_words n line = eqb (length (words line)) n

-- The number that word k spells, if it is at most `top`.
abbrev pub number_in : ℕ → ℕ → List ℕ → Option ℕ
number_in top k line = word_number top (word_at k line)

-- The place of word k among names, if it is one of them.
abbrev pub name_in : List (List ℕ) → ℕ → List ℕ → Option ℕ
name_in names k line = place_in (word_at k line) names

-- "`H` is a host, 0 to FF, so it may be above 3; `LEN` a buffer length, 0 to 400; CMD, FEAT, COUNT and CDB bytes are up to FF."
abbrev pub host_in : ℕ → List ℕ → Option ℕ
host_in k line = number_in 0xFF k line

abbrev pub length_in : ℕ → List ℕ → Option ℕ
length_in k line = number_in 0x400 k line

abbrev pub byte_in : ℕ → List ℕ → Option ℕ
byte_in k line = number_in 0xFF k line

-- "LBA up to 32 bits"; so are times and the idle count.
abbrev pub wide_in : ℕ → List ℕ → Option ℕ
wide_in k line = number_in 0xFFFFFFFF k line

abbrev pub flag_in : ℕ → List ℕ → Option Bool
flag_in k line = word_flag (word_at k line)

-- "the letters A B C Y Z that name conditions".
abbrev pub condition_letters : List (List ℕ)
condition_letters = codes "A" ∷ codes "B" ∷ codes "C" ∷ codes "Y" ∷ codes "Z" ∷ []
