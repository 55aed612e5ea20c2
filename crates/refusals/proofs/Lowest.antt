-- What rows give: of two runs of rows the first speaks first; where all is clear no row applies, and only what some row gives is given.
use Rattle.std.proofs.Common.{Ok, Err}
use mathlib.Core.Path.{◌≡◌, refl, sym, ap, ◌∙◌}
use mathlib.Core.Bool.{Bool, true, false, cond, not, ◌||◌, false≢true}
use mathlib.Core.List.{List, [], ◌∷◌, ◌++◌}
use Prim.Native.Nat.{ℕ, suc}
use native.Mathlib.Omega.{arith}
use lib.Dec.{eqb}
use borrow.Author.Tests.{eq-eqb, eqb-true, not-true, not-false}
use Rattle.rows.specs.Rows.{every_at}
use Rattle.rows.proofs.Choices.{either}
use Rattle.rows.proofs.Places.{and_left, and_right}
use Rattle.rows.proofs.Some.{or_left, or_right}
use Rattle.std.specs.Result.{result_and}
use Rattle.refusals.specs.Refusals.{Row, is_same, applies_in, lowest, number_of}
use Rattle.refusals.specs.Verdicts.{bad_length_row}
use Rattle.refusals.specs.declared.Refusal.{Refusal}
use Rattle.refusals.specs.declared.Refusal.TheVariants.{BadLength}
use Rattle.refusals.specs.Refusals.{Verdict}

-- ---- two runs of rows

cond_and : (b : Bool) (r : Refusal) (v w : Verdict) → result_and (cond b (Err r) v) w ≡ cond b (Err r) (result_and v w)
cond_and true r v w = refl
cond_and false r v w = refl

pub lowest_append : (rows more : List Row) → result_and (lowest rows) (lowest more) ≡ lowest (rows ++ more)
unfolding lowest
lowest_append [] more = refl
lowest_append (row ∷ rows) more =
    rw (cond_and row.applies row.gives (lowest rows) (lowest more), lowest_append rows more)

-- ---- one row

-- A row that does not apply passes on to the rest; one that applies gives its number.
pub row_passes : (row : Row) (rows : List Row) → row.applies ≡ false → lowest (row ∷ rows) ≡ lowest rows
unfolding lowest
row_passes row rows e = rw e

pub row_gives : (row : Row) (rows : List Row) → row.applies ≡ true → lowest (row ∷ rows) ≡ Err row.gives
unfolding lowest
row_gives row rows e = rw e

-- Where every row's test is false no number is given.
pub clear_when : (rows : List Row) → every_at (λ at row. not row.applies) 0 rows ≡ true → lowest rows ≡ Ok tt
unfolding lowest
clear_when rows = from 0 rows
  where
    from : (at : ℕ) (rows : List Row) → every_at (λ i row. not row.applies) at rows ≡ true → lowest rows ≡ Ok tt
    from at [] h = refl
    from at (row ∷ rows) h =
        row_passes row rows (not-true row.applies (and_left (not row.applies) _ h))
        ∙ from (suc at) rows (and_right (not row.applies) _ h)

-- ---- a row cited by its refusal

pub clear_not_given : (r : Refusal) → ◌≡◌ {A = Verdict} (Ok tt) (Err r) → ⊥
clear_not_given r h = let no : ◌≡◌ {A = ℕ} 0 1 = cc in omega arith

cond_clear : (b : Bool) (r : Refusal) (v : Verdict) → cond b (Err r) v ≡ Ok tt → (b ≡ false) × (v ≡ Ok tt)
cond_clear true r v h = absurd (clear_not_given r (sym h))
cond_clear false r v h = (refl, h)

-- Where the verdict is clear, the row of no refusal applies.
pub not_applies : (rows : List Row) (r : Refusal) → lowest rows ≡ Ok tt → applies_in r rows ≡ false
unfolding lowest
not_applies [] r h = refl
not_applies (row ∷ rows) r h =
    let clear = cond_clear row.applies row.gives (lowest rows) h in
    either (λ (b : Bool). b ≡ false) (is_same row.gives r) row.applies (applies_in r rows) clear.0 (not_applies rows r clear.1)

-- A length's row in particular: the length is the one due.
pub clear_length : (size due : ℕ) (rows : List Row) → lowest (bad_length_row size due ∷ rows) ≡ Ok tt → size ≡ due
clear_length size due rows h = eqb-true size due (not-false (eqb size due) (not_applies (bad_length_row size due ∷ rows) BadLength h))

-- Some row gives the refusal.
abbrev pub gives_in : Refusal → List Row → Bool
gives_in r [] = false
gives_in r (row ∷ rows) = is_same row.gives r || gives_in r rows

given_later : (b : Bool) (q r : Refusal) (v : Verdict) → is_same q r ≡ false → cond b (Err q) v ≡ Err r → v ≡ Err r
given_later true q r v differ h =
    let e : q ≡ r = cc in
    absurd (false≢true (sym differ ∙ eq-eqb (number_of q) (number_of r) (ap number_of e)))
given_later false q r v differ h = h

-- A refusal that no row gives is not given.
pub not_given : (rows : List Row) (r : Refusal) → gives_in r rows ≡ false → lowest rows ≡ Err r → ⊥
unfolding lowest
not_given [] r none h = clear_not_given r h
not_given (row ∷ rows) r none h =
    not_given rows r (or_right (is_same row.gives r) _ none)
    (given_later row.applies row.gives r (lowest rows) (or_left (is_same row.gives r) _ none) h)
