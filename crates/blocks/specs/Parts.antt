-- The format page, "Set-up": what each line of a block sets. Assumes nothing.
use Rattle.std.specs.Prelude.{List, [], ◌∷◌, set}
use Rattle.conditions.specs.Conditions.{place_of}
use Rattle.drive.specs.Drives.{drive_of, with_records, with_counts}
use Rattle.drive.specs.declared.Edition.TheVariants.{Draft}
use Rattle.unit.specs.Units.{with_edition, with_drive, with_marks, with_slot, with_held, with_out, blank}
use Rattle.unit.specs.declared.Unit.{Unit}
use Rattle.asked.specs.declared.Part.{Part}
use Rattle.asked.specs.declared.Part.TheVariants.{IsOf, Settings, Stands, HasSlot, HasHeld, HasOut, HasCounts}
use Rattle.transitions.specs.Counts.{flat_of}

-- "of two that set the same, the last holds".
abbrev pub set_part : Part → Unit → Unit
set_part (IsOf e) u = with_edition e u
set_part (Settings c r) u = with_drive (with_records (set u.drive.records (place_of c) r) u.drive) u
set_part (Stands s) u =
    with_marks s.stopped s.unsaved (with_drive (drive_of u.drive.records s.power s.idle.0 u.drive.counts) u)
set_part (HasSlot host s) u = with_slot host s u
set_part (HasHeld host h) u = with_held host h u
set_part (HasOut out) u = with_out out u
set_part (HasCounts table) u = with_drive (with_counts (flat_of table) u.drive) u

-- The lines of a block, one after the other.
abbrev pub set_all : List Part → Unit → Unit
set_all [] u = u
set_all (p ∷ ps) u = set_all ps (set_part p u)

-- "what is not given is zero, none or empty": the record that a block sets up.
abbrev pub set_up : List Part → Unit
set_up ps = set_all ps (blank Draft)
