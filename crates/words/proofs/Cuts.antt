-- The first word of a text is the letters behind its blanks, and its other words are those of what follows them:
-- so it is with the first piece and the letters that a text starts with, and pieces that blanks leave empty are no words.
use mathlib.Core.Path.{◌≡◌, refl, sym, ap, ◌∙◌}
use mathlib.Core.Bool.{Bool, true, false}
use mathlib.Core.List.{List, [], ◌∷◌}
use Prim.Native.Nat.{ℕ, suc, ◌+◌, ◌-◌, ◌≤◌}
use native.Mathlib.Omega.{arith}
use borrow.Author.Tests.{eqb-true}
use lib.ListN.{length, take, drop, length-drop, drop_of_length-le}
use lib.Seq.{drop-drop}
use Rattle.words.specs.Words.{is_blank, is_comment, onto, pieces, nonempty, words, blanks, word_length, behind_blanks, first_word, behind_word}

-- ---- the three kinds of bytes

data Kind (b : ℕ) : Type 0 where
  comment : is_comment b ≡ true → is_blank b ≡ false → Kind b
  blank : is_comment b ≡ false → is_blank b ≡ true → Kind b
  letter : is_comment b ≡ false → is_blank b ≡ false → Kind b

kind : (b : ℕ) → Kind b
kind b = on (is_comment b) (is_blank b) refl refl
  where
    on : (t u : Bool) → is_comment b ≡ t → is_blank b ≡ u → Kind b
    on true u e f = comment e (rw (eqb-true b 35 e))
    on false true e f = blank e f
    on false false e f = letter e f

-- ---- what a text starts with

no_more_blanks : (l : List ℕ) → blanks (drop (blanks l) l) ≡ 0
unfolding blanks
no_more_blanks [] = refl
no_more_blanks (b ∷ l) = step (kind b) (no_more_blanks l)
  where
    step : Kind b → blanks (drop (blanks l) l) ≡ 0 → blanks (drop (blanks (b ∷ l)) (b ∷ l)) ≡ 0
    step (comment e f) rest = rw (f, blanks, f)
    step (blank e f) rest = rw f rest
    step (letter e f) rest = rw (f, blanks, f)

skip : (l : List ℕ) → words (drop (blanks l) l) ≡ words l
unfolding words pieces nonempty blanks
skip [] = refl
skip (b ∷ l) = step (kind b) (skip l)
  where
    step : Kind b → words (drop (blanks l) l) ≡ words l → words (drop (blanks (b ∷ l)) (b ∷ l)) ≡ words (b ∷ l)
    step (comment e f) rest = rw (f, pieces, e)
    step (blank e f) rest = rw (e, f) rest
    step (letter e f) rest = rw (f, pieces, e, f)

-- the first piece and those behind it
abbrev FirstPiece : List ℕ → Type 0
FirstPiece l = (ps : List (List ℕ)) × (pieces l ≡ take (word_length l) l ∷ ps) × (nonempty ps ≡ words (drop (word_length l) l))

first_piece : (l : List ℕ) → FirstPiece l
unfolding words pieces nonempty word_length
first_piece [] = ([], refl, refl)
first_piece (b ∷ l) = step (kind b) (first_piece l)
  where
    step : Kind b → FirstPiece l → FirstPiece (b ∷ l)
    step (comment e f) rest = ([], rw (e, f), rw (e, f, pieces, e))
    step (blank e f) rest = (pieces l, rw (e, f), rw (e, f, pieces, e, f))
    step (letter e f) rest = (rest.0, rw (e, f, rest.1), rw (e, f) rest.2)

no_word : (l : List ℕ) → blanks l ≡ 0 → word_length l ≡ 0 → words l ≡ []
unfolding words pieces nonempty blanks word_length
no_word [] h k = refl
no_word (b ∷ l) h k = step (kind b)
  where
    step : Kind b → words (b ∷ l) ≡ []
    step (comment e f) = rw e
    step (blank e f) = let z : suc (blanks l) ≡ 0 = rw f at h in absurd (omega arith)
    step (letter e f) = let z : suc (word_length l) ≡ 0 = rw (e, f) at k in absurd (omega arith)

a_word : (l : List ℕ) (n : ℕ) → word_length l ≡ suc n → words l ≡ take (word_length l) l ∷ words (drop (word_length l) l)
unfolding words nonempty word_length
a_word [] n e = absurd (omega arith)
a_word (b ∷ l) n e = let p = first_piece (b ∷ l) in rw (p.1, ← p.2, e)

-- ---- the first word

module _ (l : List ℕ) where
  pub no_first : word_length (behind_blanks l) ≡ 0 → words l ≡ []
  no_first k = sym (skip l) ∙ no_word (behind_blanks l) (no_more_blanks l) k

  pub a_first : (word_length (behind_blanks l) ≡ 0 → ⊥) → words l ≡ first_word l ∷ words (behind_word l)
  a_first h =
      let n = word_length (behind_blanks l) in
      let some : n ≡ suc (n - 1) = omega arith in
      sym (skip l) ∙ a_word (behind_blanks l) (n - 1) some

-- ---- word by word

pub none_after : (ws : List (List ℕ)) (i k : ℕ) → i ≤ k → drop i ws ≡ [] → drop k ws ≡ []
none_after ws i k h e = let none = rw length-drop at (ap length e) in drop_of_length-le ws (omega arith)

pub others_after : (ws others : List (List ℕ)) (w : List ℕ) (i : ℕ) → drop i ws ≡ w ∷ others → others ≡ drop (i + 1) ws
others_after ws others w i e = rw (← drop-drop, e)

-- what follows the first word of a tail of a line is a tail of that line
pub tail_of : (l rest : List ℕ) (n : ℕ) → rest ≡ drop n l → behind_word rest ≡ drop (n + (blanks rest + word_length (behind_blanks rest))) l
tail_of l rest n e =
    let skipped = blanks rest in
    let long = word_length (behind_blanks rest) in
    ap (λ t. drop long (drop skipped t)) e ∙ rw (drop-drop, drop-drop) refl

-- ---- how many

one_at_most : (b : ℕ) (ps : List (List ℕ)) → length (nonempty (onto b ps)) ≤ suc (length (nonempty ps))
unfolding nonempty
one_at_most b [] = omega arith
one_at_most b ([] ∷ ps) = omega arith
one_at_most b ((c ∷ p) ∷ ps) = omega arith

pub words_within : (l : List ℕ) → length (words l) ≤ length l
unfolding words pieces nonempty
words_within [] = omega arith
words_within (b ∷ l) = step (kind b) (words_within l)
  where
    step : Kind b → length (words l) ≤ length l → length (words (b ∷ l)) ≤ suc (length l)
    step (comment e f) h = rw e (omega arith)
    step (blank e f) h = rw (e, f) (omega arith)
    step (letter e f) h = rw (e, f) (omega (arith, one_at_most b (pieces l)))
