-- Document 01, "Numbers given back": the numbers, their sense, the order in which they are looked at, and the first of it that applies; document 02's
-- numbers too.
use Rattle.std.specs.Prelude.{Bool, true, false, cond, List, [], ◌∷◌, map, ◌≡◌, ℕ, suc, ◌<◌, eqb, Ok, Err, Result, Some, None, Option}
use Rattle.refusals.specs.declared.Refusal.{Refusal}
use Rattle.senses.specs.declared.Sense.{Sense}
use Rattle.refusals.specs.declared.Refusal.TheVariants.{BadLength, BadHost, BadRecord, CommandOut, NoSuchPage, HasNone, OwnWaiting, BadOpcode, BadField, IsStopped, Aborted}

-- "No."
abbrev pub number_of : Refusal → ℕ
number_of BadLength = 1
number_of BadHost = 2
number_of BadRecord = 3
number_of CommandOut = 4
number_of NoSuchPage = 11
number_of HasNone = 5
number_of OwnWaiting = 6
number_of BadOpcode = 7
number_of BadField = 8
number_of IsStopped = 9
number_of Aborted = 10

-- "Sense": "none", or sense key, additional sense code and qualifier. Of document 02's: "11 to 16, 18 and 19 carry no sense".
abbrev pub sense_of : Refusal → Option Sense
sense_of BadLength = None
sense_of BadHost = None
sense_of BadRecord = None
sense_of CommandOut = None
sense_of NoSuchPage = None
sense_of HasNone = None
sense_of OwnWaiting = Some (record { key = 0x02; asc = 0x04; ascq = 0x07 })
sense_of BadOpcode = Some (record { key = 0x05; asc = 0x20; ascq = 0x00 })
sense_of BadField = Some (record { key = 0x05; asc = 0x24; ascq = 0x00 })
sense_of IsStopped = Some (record { key = 0x02; asc = 0x04; ascq = 0x02 })
sense_of Aborted = None

-- ---- the order

-- "The lowest number that applies is given": the first in this order. It is a list of its own, since a later number may stand between two others, as
-- request (vi)'s does: "11, between 4 and 5". That it is the papers' order is Ranks · numbers.
abbrev pub order : List Refusal
order =
    BadLength ∷ BadHost ∷ BadRecord ∷ CommandOut ∷ NoSuchPage ∷ HasNone
    ∷ OwnWaiting ∷ BadOpcode ∷ BadField ∷ IsStopped ∷ Aborted ∷ []

abbrev pub is_same : Refusal → Refusal → Bool
is_same r q = eqb (number_of r) (number_of q)

-- A refusal's place in a row of refusals, the first at 0.
abbrev pub place_among : Refusal → List Refusal → ℕ
place_among r [] = 0
place_among r (q ∷ qs) = cond (is_same r q) 0 (suc (place_among r qs))

-- Its place in the order: of two that apply, the one of lower rank is given.
abbrev pub rank_of : Refusal → ℕ
rank_of r = place_among r order

-- ---- rows

-- A row of the table, for one call on one record: when it applies, and what it then gives.
pub record Row : Type 0 where
  pub applies : Bool
  pub gives : Refusal

infix 5 ◌gives◌
abbrev pub ◌gives◌ : Bool → Refusal → Row
test gives r = record { applies = test; gives = r }

-- Whether the row of a refusal applies. Where no row gives it, it does not.
abbrev pub applies_in : Refusal → List Row → Bool
applies_in r [] = false
applies_in r (row ∷ rows) = cond (is_same row.gives r) row.applies (applies_in r rows)

-- A call is not refused, or it is, and why. It is also the answer of a call that tells no more than whether it was done.
abbrev pub Verdict : Type 0
Verdict = Result (Unit {0}) Refusal

-- What the rows give, which stand in their order: the refusal of the first that applies.
unfoldable pub lowest : List Row → Verdict
lowest [] = Ok tt
lowest (row ∷ rows) = cond row.applies (Err row.gives) (lowest rows)

-- ---- "The lowest number that applies"

-- The rows of a table that says of each refusal when it applies.
abbrev pub rows_by : (Refusal → Bool) → List Row
rows_by applies = map (λ r. applies r gives r) order

-- Its row applies, and the row of none of lower rank does.
pub record IsLowest (applies : Refusal → Bool) (r : Refusal) : Type 0 where
  pub itself : applies r ≡ true
  pub none_lower : (q : Refusal) → rank_of q < rank_of r → applies q ≡ false
