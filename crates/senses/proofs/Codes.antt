-- A sense code leads back to the condition and its cause, so no two of them share one.
use mathlib.Core.Path.{◌≡◌, refl, sym, ap, ◌∙◌}
use mathlib.Core.List.{List, [], ◌∷◌}
use lib.ListN.{get_or}
use Rattle.conditions.specs.declared.Condition.TheVariants.{IdleA, IdleB, IdleC, StandbyY, StandbyZ}
use Rattle.conditions.specs.declared.Cause.TheVariants.{Timer, Command}
use Rattle.conditions.specs.declared.Power.{Power}
use Rattle.conditions.specs.declared.Power.TheVariants.{Active, Low}
use Rattle.senses.specs.declared.Sense.{Sense}
use Rattle.senses.specs.Senses.{power_sense}

-- The qualifiers 00h to 0Ah in their order, each with what it stands for.
abbrev pub qualified : List Power
qualified =
    Active
    ∷ Low IdleA Timer ∷ Low StandbyZ Timer ∷ Low IdleA Command ∷ Low StandbyZ Command
    ∷ Low IdleB Timer ∷ Low IdleB Command ∷ Low IdleC Timer ∷ Low IdleC Command
    ∷ Low StandbyY Timer ∷ Low StandbyY Command
    ∷ []

-- What a sense's qualifier stands for.
abbrev pub told : Sense → Power
told s = get_or qualified s.ascq Active

-- The qualifier of each condition and cause is the document's.
pub told_back : (p : Power) → told (power_sense p) ≡ p
told_back Active = refl
told_back (Low IdleA Timer) = refl
told_back (Low IdleA Command) = refl
told_back (Low IdleB Timer) = refl
told_back (Low IdleB Command) = refl
told_back (Low IdleC Timer) = refl
told_back (Low IdleC Command) = refl
told_back (Low StandbyY Timer) = refl
told_back (Low StandbyY Command) = refl
told_back (Low StandbyZ Timer) = refl
told_back (Low StandbyZ Command) = refl

-- Active and the five conditions with their two causes have eleven different sense codes.
pub codes_differ : (p q : Power) → power_sense p ≡ power_sense q → p ≡ q
codes_differ p q e = sym (told_back p) ∙ ap told e ∙ told_back q
