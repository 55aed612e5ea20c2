-- The format page: "All numbers, in and out, are hex without prefix unless this page says decimal". Assumes nothing.
use Rattle.std.specs.Prelude.{Bool, true, cond, Option, Some, None, ◌&&◌, List, [], ◌∷◌, ℕ, ◌+◌, ◌-◌, ◌*◌, eqb, leb, ltb, length}
use Prim.Native.Char.{code}
use Rattle.std.specs.Option.{option_map}
use Rattle.words.specs.Codes.{codes}
use Rattle.words.specs.Words.{place_in}

-- A byte from the first letter to the last.
abbrev pub is_between : ℕ → ℕ → ℕ → Bool
is_between first last b = leb first b && leb b last

-- "only hex digits take either case": what a digit stands for; 16 for a byte that is no digit.
abbrev pub digit_of : ℕ → ℕ
digit_of b =
    cond (is_between (code "0") (code "9") b) (b - code "0")
    (cond (is_between (code "A") (code "F") b) (b - code "A" + 10)
    (cond (is_between (code "a") (code "f") b) (b - code "a" + 10) 16))

abbrev pub is_digit : ℕ → Bool
is_digit b = ltb (digit_of b) 16

-- The digit that a byte is, if it is one.
abbrev pub digit_in : ℕ → Option ℕ
digit_in b = cond (is_digit b) (Some (digit_of b)) None

unfoldable pub are_digits : List ℕ → Bool
are_digits [] = true
are_digits (b ∷ bs) = is_digit b && are_digits bs

-- The value of digits that follow those of n.
unfoldable pub value_after : ℕ → List ℕ → ℕ
value_after n [] = n
value_after n (b ∷ bs) = value_after (16 * n + digit_of b) bs

abbrev pub value_of : List ℕ → ℕ
value_of w = value_after 0 w

-- "input has 1 to 8 digits"; "a number out of its range" is none.
unfoldable pub is_number : ℕ → List ℕ → Bool
is_number top w = is_between 1 8 (length w) && are_digits w && leb (value_of w) top

unfoldable pub word_number : ℕ → List ℕ → Option ℕ
word_number top w = cond (is_number top w) (Some (value_of w)) None

-- "A flag is exactly `0` or `1`."
unfoldable pub word_flag : List ℕ → Option Bool
word_flag w = option_map (λ place. eqb place 1) (place_in w (codes "0" ∷ codes "1" ∷ []))
