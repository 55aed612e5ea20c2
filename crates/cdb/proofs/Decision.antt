-- "The decision runs over the power condition number": it gives a target exactly if the fields are those that the table has for it. Each line of
-- the decision is a choice, and what holds of either value where it is chosen holds of the value.
use Rattle.std.proofs.Common.{Some, None, Option}
use mathlib.Core.Path.{◌≡◌, refl, subst, ◌∙◌}
use mathlib.Core.Bool.{Bool, true, false}
use mathlib.Core.Logic.{◌⊎◌, inl, inr, ◌↔◌}
use Prim.Native.Nat.{ℕ, ◌<◌}
use native.Mathlib.Omega.{arith}
use lib.Dec.{eqb}
use borrow.Author.Tests.{eqb-true, eqb-false, ne_eqb}
use Rattle.rows.proofs.Choices.{chosen}
use Rattle.conditions.specs.declared.Condition.TheVariants.{IdleA, IdleB, IdleC, StandbyY, StandbyZ}
use Rattle.requests.specs.declared.Target.{Target}
use Rattle.requests.specs.declared.Target.TheVariants.{Stop, Start, GoTo}
use Rattle.cdb.specs.Cdb.{stop_or_start, decided}

-- ---- the table of document 01, from what is wanted to the fields that ask for it: power condition, modifier, START

abbrev pub number_for : Target → ℕ
number_for Stop = 0
number_for Start = 0
number_for (GoTo IdleA) = 2
number_for (GoTo IdleB) = 2
number_for (GoTo IdleC) = 2
number_for (GoTo StandbyY) = 3
number_for (GoTo StandbyZ) = 3

abbrev pub modifier_for : Target → ℕ
modifier_for Stop = 0
modifier_for Start = 0
modifier_for (GoTo IdleA) = 0
modifier_for (GoTo IdleB) = 1
modifier_for (GoTo IdleC) = 2
modifier_for (GoTo StandbyY) = 1
modifier_for (GoTo StandbyZ) = 0

abbrev pub start_for : Target → Bool
start_for Stop = false
start_for Start = true
start_for (GoTo c) = false

-- The fields ask for the target.
pub record AskFor (number m : ℕ) (ejects starts : Bool) (t : Target) : Type 0 where
  pub modifier : m ≡ modifier_for t
  -- "1h, modifier 0: as start (H)."
  pub condition : (number ≡ number_for t) ⊎ ((number ≡ 1) × (t ≡ Start))
  -- "LOEJ 0", and START by the target. "For 1h to 3h LOEJ and START are ignored."
  pub flags : number ≡ 0 → (ejects ≡ false) × (starts ≡ start_for t)

-- No number above 3h is in the list.
pub above_three : (number m : ℕ) (ejects starts : Bool) → 3 < number → decided number m ejects starts ≡ None
above_three number m ejects starts h =
    rw (ne_eqb number 0 (omega arith), ne_eqb number 1 (omega arith), ne_eqb number 2 (omega arith), ne_eqb number 3 (omega arith))

-- ---- what is decided was asked for

module _ (number m : ℕ) (ejects starts : Bool) where
  abbrev Asked : Option Target → Type 0
  Asked None = Unit {0}
  Asked (Some t) = AskFor number m ejects starts t

  at_zero : (t : Target) → number ≡ number_for t → m ≡ modifier_for t → ejects ≡ false → starts ≡ start_for t → Asked (Some t)
  at_zero t n e f s = record { modifier = e; condition = inl n; flags = λ z. (f, s) }

  above : (t : Target) → eqb number 0 ≡ false → (number ≡ number_for t) ⊎ ((number ≡ 1) × (t ≡ Start)) → eqb m (modifier_for t) ≡ true → Asked (Some t)
  above t n by e = record { modifier = eqb-true m (modifier_for t) e; condition = by; flags = λ z. absurd (eqb-false number 0 n z) }

  asked_zero : eqb number 0 ≡ true → Asked (stop_or_start m ejects starts)
  asked_zero n =
      chosen Asked (eqb m 0) _ _
      (λ e. chosen Asked ejects _ _ (λ f. tt)
      (λ f. chosen (λ (t : Target). Asked (Some t)) starts Start Stop
      (at_zero Start (eqb-true number 0 n) (eqb-true m 0 e) f)
      (at_zero Stop (eqb-true number 0 n) (eqb-true m 0 e) f)))
      (λ e. tt)

  asked : Asked (decided number m ejects starts)
  asked =
      chosen Asked (eqb number 0) _ _ asked_zero
      (λ n. chosen Asked (eqb number 1) _ _
      (λ k. chosen Asked (eqb m 0) _ _ (above Start n (inr (eqb-true number 1 k, refl))) (λ e. tt))
      (λ l. chosen Asked (eqb number 2) _ _
      (λ k. let two = eqb-true number 2 k in
      chosen Asked (eqb m 0) _ _ (above (GoTo IdleA) n (inl two))
      (λ a. chosen Asked (eqb m 1) _ _ (above (GoTo IdleB) n (inl two))
      (λ b. chosen Asked (eqb m 2) _ _ (above (GoTo IdleC) n (inl two)) (λ c. tt))))
      (λ l. chosen Asked (eqb number 3) _ _
      (λ k. let three = eqb-true number 3 k in
      chosen Asked (eqb m 0) _ _ (above (GoTo StandbyZ) n (inl three))
      (λ a. chosen Asked (eqb m 1) _ _ (above (GoTo StandbyY) n (inl three)) (λ b. tt)))
      (λ l. tt))))

-- ---- and what is asked for is decided

pub asked_decides : (t : Target) (ejects starts : Bool) → (number_for t ≡ 0 → (ejects ≡ false) × (starts ≡ start_for t))
    → decided (number_for t) (modifier_for t) ejects starts ≡ Some t
asked_decides Stop ejects starts flags = rw ((flags refl).0, (flags refl).1)
asked_decides Start ejects starts flags = rw ((flags refl).0, (flags refl).1)
asked_decides (GoTo IdleA) ejects starts flags = refl
asked_decides (GoTo IdleB) ejects starts flags = refl
asked_decides (GoTo IdleC) ejects starts flags = refl
asked_decides (GoTo StandbyY) ejects starts flags = refl
asked_decides (GoTo StandbyZ) ejects starts flags = refl

decides_asked : (number m : ℕ) (ejects starts : Bool) (t : Target) → AskFor number m ejects starts t → decided number m ejects starts ≡ Some t
decides_asked number m ejects starts t a =
    elim a.condition [
      | inl n ↦ rw (n, a.modifier) (asked_decides t ejects starts (λ z. a.flags (n ∙ z)))
      | inr s ↦ rw (s.0, a.modifier, s.1)
    ]

-- A target is wanted exactly if the fields ask for it: "Anything else is refused."
pub decided_exactly : (number m : ℕ) (ejects starts : Bool) (t : Target)
    → (decided number m ejects starts ≡ Some t) ↔ AskFor number m ejects starts t
decided_exactly number m ejects starts t = (
  λ h. subst (Asked number m ejects starts) h (asked number m ejects starts),
  decides_asked number m ejects starts t,
)
