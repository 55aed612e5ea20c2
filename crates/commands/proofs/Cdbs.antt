-- The bytes read so far and the words that are left make the CDB: one word more is one byte more, or the end of it where the word is no byte.
use mathlib.Core.Path.{◌≡◌, refl}
use mathlib.Core.Bool.{Bool, true, false, cond}
use mathlib.Core.List.{List, [], ◌++◌, append_assoc, append-nil}
use Prim.Native.Nat.{ℕ, ◌+◌, ◌<◌, ◌≤◌}
use native.Mathlib.Nat.{add_comm}
use native.Mathlib.Numerals.{add-one}
use lib.ListN.{length, get_or, take, drop, set, drop_of_length-le}
use lib.Seq.{drop-cons, get_or-drop, take-suc-set}
use Rattle.std.specs.Prelude.{MatchOption, Some, None}
use Rattle.words.specs.Numbers.{is_number, word_number, value_of}
use Rattle.words.specs.Words.{word_at}
use Rattle.commands.specs.Commands.{are_bytes, byte_words, values}

pub byte_word : (line : List ℕ) (i : ℕ) → word_at (i + 2) line ≡ get_or (byte_words line) i []
unfolding word_at
byte_word line i = rw (get_or-drop, add_comm i 2)

pub no_more : (bytes : List ℕ) (ws : List (List ℕ)) (i : ℕ) → length ws ≤ i
    → (are_bytes (drop i ws) ≡ true) × (bytes ++ values (drop i ws) ≡ bytes)
no_more bytes ws i h = let none = drop_of_length-le ws h in (rw none, rw (none, append-nil))

-- What the next word says, by whether it is a byte.
module _ (bytes : List ℕ) (ws : List (List ℕ)) (i : ℕ) (h : i < length ws) (k : i < length bytes) where
  pub next_word : MatchOption (word_number 0xFF (get_or ws i []))
      (are_bytes (drop i ws) ≡ false)
      (λ n. (are_bytes (drop i ws) ≡ are_bytes (drop (i + 1) ws))
      × (take i bytes ++ values (drop i ws) ≡ take (i + 1) (set bytes i n) ++ values (drop (i + 1) ws)))
  unfolding word_number
  next_word = on (is_number 0xFF (get_or ws i [])) refl
    where
      on : (b : Bool) → is_number 0xFF (get_or ws i []) ≡ b → MatchOption (cond b (Some (value_of (get_or ws i []))) None)
          (are_bytes (drop i ws) ≡ false)
          (λ n. (are_bytes (drop i ws) ≡ are_bytes (drop (i + 1) ws))
          × (take i bytes ++ values (drop i ws) ≡ take (i + 1) (set bytes i n) ++ values (drop (i + 1) ws)))
      on true e = (rw (drop-cons ws i [] h, add-one, e) refl, rw (drop-cons ws i [] h, add-one, take-suc-set bytes i _ k, append_assoc) refl)
      on false e = rw (drop-cons ws i [] h, e) refl
