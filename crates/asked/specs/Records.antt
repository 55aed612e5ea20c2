-- The format page, "Set-up": the parts that a record is made of, a line of a block each. Assumes nothing.
use Rattle.std.specs.Prelude.{List, [], ◌∷◌, ◌++◌, ℕ, get_or}
use Rattle.conditions.specs.Conditions.{condition_at}
use Rattle.drive.specs.Records.{unsupported}
use Rattle.unit.specs.Units.{slot_of, held_of}
use Rattle.unit.specs.declared.Unit.{Unit}
use Rattle.asked.specs.declared.Part.{Part}
use Rattle.asked.specs.declared.Part.TheVariants.{IsOf, Settings, Stands, HasSlot, HasHeld, HasOut, HasCounts}
use Rattle.asked.specs.declared.State.{State}
use Rattle.transitions.specs.Counts.{table_of}

abbrev pub settings_of : Unit → ℕ → Part
settings_of u place = Settings (condition_at place) (get_or u.drive.records place unsupported)

abbrev pub state_of : Unit → State
state_of u = record { power = u.drive.power; idle = u.drive.idle; stopped = u.stopped; unsaved = u.unsaved }

abbrev pub slot_part : Unit → ℕ → Part
slot_part u host = HasSlot host (slot_of u.slots host)

abbrev pub held_part : Unit → ℕ → Part
held_part u host = HasHeld host (held_of u.held host)

abbrev pub hosts_of : Unit → List Part
hosts_of u =
    slot_part u 0 ∷ slot_part u 1 ∷ slot_part u 2 ∷ slot_part u 3
    ∷ held_part u 0 ∷ held_part u 1 ∷ held_part u 2 ∷ held_part u 3
    ∷ HasOut u.out ∷ []

-- `counts`: "twelve numbers, rows in power order, each timer then other", as the record keeps them.
abbrev pub counts_part : Unit → Part
counts_part u = HasCounts (table_of u.drive.counts)

-- "the five `c` lines (A B C Y Z), `state`, `slot 0` to `slot 3`, `held 0` to `held 3`, `out`"; "`show` prints it after `out`" of `counts`.
abbrev pub after_edition : Unit → List Part
after_edition u =
    settings_of u 0 ∷ settings_of u 1 ∷ settings_of u 2 ∷ settings_of u 3 ∷ settings_of u 4 ∷ Stands (state_of u)
    ∷ hosts_of u ++ (counts_part u ∷ [])

-- "`show` prints it right after `unit`" of `ed`.
abbrev pub parts_of : Unit → List Part
parts_of u = IsOf u.edition ∷ after_edition u
