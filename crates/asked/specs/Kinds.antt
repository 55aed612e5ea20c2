-- The format page: the words that name a kind, as a condition's letter. Assumes nothing.
use Rattle.std.specs.Prelude.{Option, List, ℕ, slice_get}
use Rattle.conditions.specs.Conditions.{falling}
use Rattle.conditions.specs.declared.Condition.{Condition}
use Rattle.words.specs.Fields.{name_in, condition_letters}
use Rattle.asked.specs.Offers.{◌then◌}

-- What word k names: the kind at its name's place, nothing where it is none of the names.
abbrev pub kind_in : {A : Type 0} → List (List ℕ) → List A → ℕ → List ℕ → Option A
kind_in names kinds k line = name_in names k line then slice_get kinds

-- "the letters A B C Y Z that name conditions".
abbrev pub condition_in : ℕ → List ℕ → Option Condition
condition_in k line = kind_in condition_letters falling k line
