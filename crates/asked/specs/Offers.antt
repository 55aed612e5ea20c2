-- The format page: a line that is not as it says is `error`; one that is asks for something. Assumes nothing.
use Rattle.std.specs.Prelude.{Bool, cond, Option, Some, None}

-- "A line that is none of these, a number out of its range, a word too few or too many: `error`": what asks for nothing.
abbrev pub offered : {A : Type 0} → Bool → Option A → Option A
offered good asked = cond good asked None

-- What is asked for with the value that a word spells: nothing where it spells none.
infixr 20 ◌then◌
abbrev pub ◌then◌ : {A B : Type 0} → Option A → (A → Option B) → Option B
None then asked = None
(Some x) then asked = asked x
