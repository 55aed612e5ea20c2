-- "The lowest number that applies is given": of a table that says of each refusal when it applies, the one of lowest rank. By induction over the order,
-- which has each refusal once.
use Rattle.std.proofs.Common.{Ok, Err}
use mathlib.Core.Path.{◌≡◌, refl, sym, ap, ◌∙◌}
use mathlib.Core.Bool.{Bool, true, false, cond, true≢false}
use mathlib.Core.List.{List, [], ◌∷◌, map}
use mathlib.Core.Logic.{◌↔◌}
use Prim.Native.Nat.{ℕ, suc, ◌<◌}
use native.Mathlib.Omega.{arith}
use lib.ListN.{length, get_or}
use borrow.Author.Tests.{eq-eqb, eqb-true}
use Rattle.refusals.specs.Refusals.{Row, ◌gives◌, number_of, order, is_same, place_among, rank_of, applies_in, lowest, rows_by, IsLowest}
use Rattle.refusals.specs.declared.Refusal.{Refusal}
use Rattle.refusals.specs.declared.Refusal.TheVariants.{BadLength, BadHost, BadRecord, CommandOut, NoSuchPage, HasNone, OwnWaiting, BadOpcode, BadField, IsStopped, Aborted}
use Rattle.refusals.proofs.Lowest.{row_passes, row_gives, not_applies, clear_not_given}

-- ---- the order

-- Each refusal stands in the order, at its rank.
stands : (r : Refusal) → (get_or order (rank_of r) BadLength ≡ r) × (rank_of r < length order)
stands BadLength = (refl, omega arith)
stands BadHost = (refl, omega arith)
stands BadRecord = (refl, omega arith)
stands CommandOut = (refl, omega arith)
stands NoSuchPage = (refl, omega arith)
stands HasNone = (refl, omega arith)
stands OwnWaiting = (refl, omega arith)
stands BadOpcode = (refl, omega arith)
stands BadField = (refl, omega arith)
stands IsStopped = (refl, omega arith)
stands Aborted = (refl, omega arith)

-- Document 01's numbers in their own order, and of document 02 "11, between 4 and 5".
pub numbers : map number_of order ≡ 1 ∷ 2 ∷ 3 ∷ 4 ∷ 11 ∷ 5 ∷ 6 ∷ 7 ∷ 8 ∷ 9 ∷ 10 ∷ []
numbers = refl

-- Two refusals with one number are one.
same_number : (q r : Refusal) → number_of q ≡ number_of r → rank_of q ≡ rank_of r
same_number q r e = rw e

pub is_same_lem : (q r : Refusal) → is_same q r ≡ true → q ≡ r
is_same_lem q r h =
    let e = same_number q r (eqb-true (number_of q) (number_of r) h) in
    sym (stands q).0 ∙ ap (λ (k : ℕ). get_or order k BadLength) e ∙ (stands r).0

-- ---- the lowest of a table

module _ (f : Refusal → Bool) where
  abbrev rows_over : List Refusal → List Row
  rows_over rs = map (λ r. f r gives r) rs

  none_clear : (rs : List Refusal) → ((q : Refusal) → f q ≡ false) → lowest (rows_over rs) ≡ Ok tt
  unfolding lowest
  none_clear [] h = refl
  none_clear (r ∷ rs) h = rw (h r) (none_clear rs h)

  applies_by : (r : Refusal) → applies_in r (rows_by f) ≡ f r
  applies_by BadLength = refl
  applies_by BadHost = refl
  applies_by BadRecord = refl
  applies_by CommandOut = refl
  applies_by NoSuchPage = refl
  applies_by HasNone = refl
  applies_by OwnWaiting = refl
  applies_by BadOpcode = refl
  applies_by BadField = refl
  applies_by IsStopped = refl
  applies_by Aborted = refl

  -- No number is given exactly when none applies.
  pub clear_exactly : lowest (rows_by f) ≡ Ok tt ↔ ((q : Refusal) → f q ≡ false)
  clear_exactly = (λ h q. sym (applies_by q) ∙ not_applies (rows_by f) q h, none_clear order)

  place_first : (q p : Refusal) (ps : List Refusal) → is_same q p ≡ true → place_among q (p ∷ ps) ≡ 0
  place_first q p ps e = rw e

  place_later : (q p : Refusal) (ps : List Refusal) → is_same q p ≡ false → place_among q (p ∷ ps) ≡ suc (place_among q ps)
  place_later q p ps e = rw e

  place_own : (p : Refusal) (ps : List Refusal) → place_among p (p ∷ ps) ≡ 0
  place_own p ps = place_first p p ps (eq-eqb (number_of p) (number_of p) refl)

  -- The row of r applies, and none that stands before it among rs.
  abbrev Among : List Refusal → Refusal → Type 0
  Among rs r = (f r ≡ true) × ((q : Refusal) → place_among q rs < place_among r rs → f q ≡ false)

  different : (p r : Refusal) → f p ≡ false → f r ≡ true → (b : Bool) → is_same r p ≡ b → b ≡ false
  different p r off on true e = absurd (true≢false (sym on ∙ ap f (is_same_lem r p e) ∙ off))
  different p r off on false e = refl

  module _ (p r : Refusal) (ps : List Refusal) where
    here : f p ≡ true → p ≡ r → Among (p ∷ ps) r
    here on e =
        let first = place_first r p ps (eq-eqb (number_of r) (number_of p) (ap number_of (sym e))) in
        (ap f (sym e) ∙ on, λ q k. absurd (omega (arith, first, k)))

    later : f p ≡ false → Among ps r → Among (p ∷ ps) r
    later off a = (a.0, λ q k. lower q k (is_same q p) refl)
      where
        after : place_among r (p ∷ ps) ≡ suc (place_among r ps)
        after = place_later r p ps (different p r off a.0 (is_same r p) refl)

        lower : (q : Refusal) → place_among q (p ∷ ps) < place_among r (p ∷ ps) → (b : Bool) → is_same q p ≡ b → f q ≡ false
        lower q k true e = ap f (is_same_lem q p e) ∙ off
        lower q k false e = a.1 q (omega (arith, after, place_later q p ps e, k))

    step : (b : Bool) → f p ≡ b → cond b (Err p) (lowest (rows_over ps)) ≡ Err r → (lowest (rows_over ps) ≡ Err r → Among ps r)
        → Among (p ∷ ps) r
    step true e h more = here e (cc)
    step false e h more = later e (more h)

    found : (b : Bool) → is_same r p ≡ b → Among (p ∷ ps) r → place_among r (p ∷ ps) < suc (length ps)
        → (Among ps r → place_among r ps < length ps → lowest (rows_over ps) ≡ Err r) → lowest (rows_over (p ∷ ps)) ≡ Err r
    found true e a inside more = row_gives (f p gives p) (rows_over ps) (ap f (sym (is_same_lem r p e)) ∙ a.0) ∙ ap Err (sym (is_same_lem r p e))
    found false e a inside more =
        row_passes (f p gives p) (rows_over ps) (a.1 p (omega (arith, place_own p ps, after)))
        ∙ more (a.0, λ q k. lower q k (is_same q p) refl) (omega (arith, after, inside))
      where
        after : place_among r (p ∷ ps) ≡ suc (place_among r ps)
        after = place_later r p ps e

        lower : (q : Refusal) → place_among q ps < place_among r ps → (b : Bool) → is_same q p ≡ b → f q ≡ false
        lower q k true g = a.1 q (omega (arith, place_first q p ps g, after))
        lower q k false g = a.1 q (omega (arith, place_later q p ps g, after, k))

  given_lowest : (rs : List Refusal) (r : Refusal) → lowest (rows_over rs) ≡ Err r → Among rs r
  unfolding lowest
  given_lowest [] r h = absurd (clear_not_given r h)
  given_lowest (p ∷ ps) r h = step p r ps (f p) refl h (given_lowest ps r)

  lowest_given : (rs : List Refusal) (r : Refusal) → Among rs r → place_among r rs < length rs → lowest (rows_over rs) ≡ Err r
  lowest_given [] r a inside = absurd (omega (arith, inside))
  lowest_given (p ∷ ps) r a inside = found p r ps (is_same r p) refl a inside (lowest_given ps r)

  -- A number is given exactly when its row applies and the row of none of lower rank does.
  pub given_exactly : (r : Refusal) → lowest (rows_by f) ≡ Err r ↔ IsLowest f r
  given_exactly r = (
    λ h. let a = given_lowest order r h in record { itself = a.0; none_lower = a.1 },
    λ l. lowest_given order r (l.itself, l.none_lower) (stands r).1,
  )
