-- A line's reader is found by the place of its first word among a table's names: at that place if it is one of them, and else in what follows
-- the table. A place past a table's end has no reader.
use mathlib.Core.Path.{◌≡◌, refl, sym}
use mathlib.Core.Bool.{Bool, true, false, cond}
use mathlib.Core.List.{List, [], ◌∷◌, ◌++◌}
use Prim.Native.Nat.{ℕ, zero, suc, ◌≤◌}
use native.Mathlib.Omega.{arith}
use borrow.Author.Tests.{ne_eqb}
use lib.ListN.{length}
use Rattle.std.specs.Prelude.{Option, Some, None, MatchOption, option_map, slice_get}
use Rattle.asked.specs.declared.Line.{Line}
use Rattle.asked.specs.declared.Line.TheVariants.{Opens, Closes, Shows, Tables}
use Rattle.asked.specs.Offers.{◌then◌}
use Prim.Native.String.{String}
use Rattle.words.specs.Codes.{codes}
use Rattle.words.specs.Fields.{has_words}
use Rattle.words.specs.Words.{place_in, same, word_at, words}
use Rattle.script.specs.Lines.{Entry, line_of_words, call_entries, lone_entries, names, part_entries, read_by, reader_at}

-- None of the first n places, in the words in which a match says so of its last arm.
abbrev pub Missed : ℕ → ℕ → Type 0
Missed zero k = Unit
Missed (suc n) k = Missed n k × (k ≡ n → ⊥)

above : (n k : ℕ) → Missed n k → n ≤ k
above zero k m = omega arith
above (suc n) k m = let h = above n k m.0 in omega arith

no_reader : (es : List Entry) (k : ℕ) (line : List ℕ) → length es ≤ k → reader_at es k line ≡ None
no_reader [] k line h = refl
no_reader (e ∷ es) zero line h = absurd (omega arith)
no_reader (e ∷ es) (suc k) line h = no_reader es k line (omega arith)

pub past_end : (es : List Entry) (k : ℕ) (line : List ℕ) → Missed (length es) k → None ≡ reader_at es k line
past_end es k line m = sym (no_reader es k line (above (length es) k m))

pub some_words : (line : List ℕ) → (length (words line) ≡ 0 → ⊥) → line_of_words line ≡ read_by (call_entries ++ (part_entries ++ lone_entries)) line
unfolding line_of_words
some_words line h = rw (ne_eqb (length (words line)) 0 h)

module _ (line : List ℕ) where
  abbrev pub place : List Entry → Option ℕ
  place es = place_in (word_at 0 line) (names es)

  looked_up : (es fs : List Entry) → MatchOption (place es)
      (read_by fs line ≡ read_by (es ++ fs) line)
      (λ k. reader_at es k line ≡ read_by (es ++ fs) line)
  unfolding place_in
  looked_up [] fs = refl
  looked_up (e ∷ es) fs = on (same (word_at 0 line) e.name) (place es) (looked_up es fs)
    where
      on : (b : Bool) (o : Option ℕ)
          → MatchOption o (read_by fs line ≡ read_by (es ++ fs) line) (λ k. reader_at es k line ≡ read_by (es ++ fs) line)
          → MatchOption (cond b (Some 0) (option_map suc o))
          (read_by fs line ≡ cond b (e.reader line) (read_by (es ++ fs) line))
          (λ k. reader_at (e ∷ es) k line ≡ cond b (e.reader line) (read_by (es ++ fs) line))
      on true o rest = refl
      on false (Some k) rest = rest
      on false None rest = rest

  pub in_table : (es fs : List Entry) (k : ℕ) → place es ≡ Some k → reader_at es k line ≡ read_by (es ++ fs) line
  in_table es fs k e = let both = looked_up es fs in rw e at both

  pub behind_table : (es fs : List Entry) → place es ≡ None → read_by fs line ≡ read_by (es ++ fs) line
  behind_table es fs e = let both = looked_up es fs in rw e at both

  -- ---- the words that stand alone

  abbrev pub lone : List Line
  lone = Opens ∷ Closes ∷ Shows ∷ Tables ∷ []

  abbrev is : String → Bool
  is name = same (word_at 0 line) (codes name)

  pub stands_alone : has_words 1 line ≡ true → (place lone_entries then slice_get lone) ≡ read_by lone_entries line
  unfolding place_in
  stands_alone h = rw h (on (is "unit") (is "end") (is "show") (is "table"))
    where
      on : (a b c d : Bool)
          → (cond a (Some 0) (option_map suc (cond b (Some 0) (option_map suc (cond c (Some 0) (option_map suc (cond d (Some 0) None))))))
          then slice_get lone)
          ≡ cond a (Some Opens) (cond b (Some Closes) (cond c (Some Shows) (cond d (Some Tables) None)))
      on true b c d = refl
      on false true c d = refl
      on false false true d = refl
      on false false false true = refl
      on false false false false = refl
