-- The format page, "Set-up": the lines `ed`, `c`, `state` and `counts` of a block, and `m` of a `make` block. Assumes nothing.
use Rattle.std.specs.Prelude.{Option, Some, None, List, [], ◌∷◌, ℕ, ◌+◌}
use Rattle.asked.specs.declared.Line.{Line}
use Rattle.asked.specs.declared.Line.TheVariants.{Sets, Tells}
use Rattle.asked.specs.declared.Part.TheVariants.{IsOf, Settings, Stands, HasCounts}
use Rattle.asked.specs.declared.State.{State}
use Rattle.conditions.specs.declared.Cause.{Cause}
use Rattle.conditions.specs.declared.Cause.TheVariants.{Timer, Command}
use Rattle.conditions.specs.declared.Condition.{Condition}
use Rattle.conditions.specs.declared.Condition.TheVariants.{IdleA, IdleB, IdleC, StandbyY, StandbyZ}
use Rattle.conditions.specs.declared.Power.{Power}
use Rattle.conditions.specs.declared.Power.TheVariants.{Active, Low}
use Rattle.drive.specs.Drives.{with_settings, made_record}
use Rattle.drive.specs.declared.Record.{Record}
use Rattle.drive.specs.declared.Setting.{Setting}
use Rattle.words.specs.Codes.{codes}
use Rattle.asked.specs.Editions.{edition_from}
use Rattle.asked.specs.Kinds.{kind_in, condition_in}
use Rattle.asked.specs.Offers.{offered, ◌then◌}
use Rattle.words.specs.Fields.{has_words, wide_in, flag_in, condition_letters}

-- ---- c X SUP SAV CHG REC DE DT SE ST CE CT

-- "default, saved, current, each as enabled flag and timer".
abbrev pub setting_in : ℕ → List ℕ → Option Setting
setting_in k line =
    flag_in k line then λ enabled.
    wide_in (k + 1) line then λ timer.
    Some (record { enabled = enabled; timer = record { 0 = timer } })

-- "flags; recovery in ms": what the maker says of a condition, which `c` and `m` have in common, as the record that manufacture makes of it.
abbrev pub made_in : List ℕ → Option Record
made_in line =
    flag_in 2 line then λ supported.
    flag_in 3 line then λ saveable.
    flag_in 4 line then λ changeable.
    wide_in 5 line then λ recovery.
    setting_in 6 line then λ default.
    Some (made_record 0 (record {
      supported = supported;
      saveable = saveable;
      changeable = changeable;
      recovery = record { 0 = recovery };
      default = default;
    }))

-- The same with the saved and the current setting that `c` gives.
abbrev pub record_in : List ℕ → Option Record
record_in line =
    made_in line then λ made.
    setting_in 8 line then λ saved.
    setting_in 10 line then λ current.
    Some (with_settings saved current made)

unfoldable pub condition_line : List ℕ → Option Line
condition_line line =
    offered (has_words 12 line) (condition_in 1 line then λ c. record_in line then λ r. Some (Sets (Settings c r)))

-- ---- state COND CAUSE IDLE STOPPED UNSAVED

-- "COND = active A B C Y Z; CAUSE = none timer command; two flags".
abbrev pub condition_names : List (List ℕ)
condition_names = codes "active" ∷ condition_letters

abbrev pub below_active : List (Option Condition)
below_active = None ∷ Some IdleA ∷ Some IdleB ∷ Some IdleC ∷ Some StandbyY ∷ Some StandbyZ ∷ []

abbrev pub cause_names : List (List ℕ)
cause_names = codes "none" ∷ codes "timer" ∷ codes "command" ∷ []

abbrev pub causes : List (Option Cause)
causes = None ∷ Some Timer ∷ Some Command ∷ []

-- "a cause in Active or none below it" is a bad line.
abbrev pub power_from : Option Condition → Option Cause → Option Power
power_from None None = Some Active
power_from (Some c) (Some why) = Some (Low c why)
power_from None (Some why) = None
power_from (Some c) None = None

abbrev pub power_in : List ℕ → Option Power
power_in line =
    kind_in condition_names below_active 1 line then λ condition.
    kind_in cause_names causes 2 line then λ cause.
    power_from condition cause

abbrev pub state_in : List ℕ → Option State
state_in line =
    power_in line then λ power.
    wide_in 3 line then λ idle.
    flag_in 4 line then λ stopped.
    flag_in 5 line then λ unsaved.
    Some (record { power = power; idle = record { 0 = idle }; stopped = stopped; unsaved = unsaved })

unfoldable pub state_line : List ℕ → Option Line
state_line line = offered (has_words 6 line) (state_in line then λ state. Some (Sets (Stands state)))

-- ---- counts and twelve numbers

-- "each timer then other".
abbrev pub row_in : ℕ → List ℕ → Option (List ℕ)
row_in k line = wide_in k line then λ timer. wide_in (k + 1) line then λ other. Some (timer ∷ other ∷ [])

-- "rows in power order".
abbrev pub table_in : List ℕ → Option (List (List ℕ))
table_in line =
    row_in 1 line then λ active.
    row_in 3 line then λ a.
    row_in 5 line then λ b.
    row_in 7 line then λ c.
    row_in 9 line then λ y.
    row_in 11 line then λ z.
    Some (active ∷ a ∷ b ∷ c ∷ y ∷ z ∷ [])

unfoldable pub counts_line : List ℕ → Option Line
counts_line line = offered (has_words 13 line) (table_in line then λ table. Some (Sets (HasCounts table)))

-- ---- ed E

-- "`ed 0` or `ed 1` (published)".
unfoldable pub edition_line : List ℕ → Option Line
edition_line line = offered (has_words 2 line) (flag_in 1 line then λ published. Some (Sets (IsOf (edition_from published))))

-- ---- m X SUP SAV CHG REC DE DT

unfoldable pub maker_line : List ℕ → Option Line
maker_line line = offered (has_words 8 line) (condition_in 1 line then λ c. made_in line then λ made. Some (Tells c made))
