-- The unit's record: document 01, "Conditions and settings" (well formed) and "START STOP UNIT" (slots, what is out).
use Rattle.std.specs.Prelude.{Bool, true, false, ◌&&◌, List, ℕ, eqb, length, get_or, set, replicate, Some, None, Option}
use Rattle.rows.specs.Rows.{every_at}
use Rattle.drive.specs.Records.{largest_timer, unsupported, drive_well_formed}
use Rattle.conditions.specs.declared.Power.{Power}
use Rattle.drive.specs.Drives.{entered, restarted, made, maker_of}
use Rattle.drive.specs.declared.Edition.{Edition}
use Rattle.drive.specs.declared.Record.{Record}
use Rattle.drive.specs.declared.Drive.{Drive}
use Rattle.drive.specs.declared.Made.{Made}
use Rattle.requests.specs.Requests.{request_well_formed}
use Rattle.unit.specs.declared.Slot.{Slot}
use Rattle.unit.specs.declared.Slot.TheVariants.{Empty, Waiting}
use Rattle.unit.specs.declared.Unit.{Unit}
use Rattle.requests.specs.declared.Failure.{Failure}

-- ---- reading a host's part

-- "Each host has a slot: nothing waiting, or one operation that carries its own request and progress." A host above 3 has nothing.
abbrev pub slot_of : List Slot → ℕ → Slot
slot_of slots host = get_or slots host Empty

abbrev pub is_waiting : Slot → Bool
is_waiting Empty = false
is_waiting (Waiting q) = true

abbrev pub waits : Unit → ℕ → Bool
waits u host = is_waiting (slot_of u.slots host)

-- The host's held deferred sense.
abbrev pub held_of : List (Option Failure) → ℕ → Option Failure
held_of helds host = get_or helds host None

-- "A host asks for its operation's next command; that command is then out until the answer". It is kept as "host h's": which command it
-- is follows from the slot and the unsaved mark.
abbrev pub is_out : Option ℕ → Bool
is_out None = false
is_out (Some host) = true

abbrev pub is_out_for : ℕ → Option ℕ → Bool
is_out_for host None = false
is_out_for host (Some h) = eqb h host

-- ---- well formed

-- The largest timer and the largest idle count of a unit: its edition's.
abbrev pub largest_of : Unit → ℕ
largest_of u = largest_timer u.edition

abbrev pub slot_well_formed : List Record → Slot → Bool
slot_well_formed rs Empty = true
slot_well_formed rs (Waiting q) = request_well_formed rs q.target q.stage

abbrev pub host_well_formed : List Record → ℕ → Slot → Bool
host_well_formed rs host s = slot_well_formed rs s

-- "hosts 0 to 3". That "a held sense is a failure's", the field's type keeps: an `Option` of a failure.
unfoldable pub hosts_well_formed : List Record → List Slot → List (Option Failure) → Bool
hosts_well_formed rs slots helds =
    eqb (length slots) 4 && eqb (length helds) 4 && every_at (host_well_formed rs) 0 slots

-- "a command out is the one due from a waiting operation".
abbrev pub out_well_formed : List Slot → Option ℕ → Bool
out_well_formed slots None = true
out_well_formed slots (Some host) = is_waiting (slot_of slots host)

-- "A record is well formed when:".
unfoldable pub well_formed : Unit → Bool
well_formed u =
    drive_well_formed (largest_of u) u.drive
    && hosts_well_formed u.drive.records u.slots u.held
    && out_well_formed u.slots u.out

-- ---- the builders: no other literal of a unit

abbrev pub unit_of : Edition → Drive → Bool → Bool → List Slot → List (Option Failure) → Option ℕ → Unit
unit_of e d stopped unsaved slots helds out =
    record { edition = e; drive = d; stopped = stopped; unsaved = unsaved; slots = slots; held = helds; out = out }

-- For a record that is set up from parts, and for what is said of two editions: no call changes the edition.
abbrev pub with_edition : Edition → Unit → Unit
with_edition e u = unit_of e u.drive u.stopped u.unsaved u.slots u.held u.out

abbrev pub with_drive : Drive → Unit → Unit
with_drive d u = unit_of u.edition d u.stopped u.unsaved u.slots u.held u.out

abbrev pub with_power : Power → Unit → Unit
with_power p u = with_drive (entered p u.drive) u

abbrev pub with_marks : Bool → Bool → Unit → Unit
with_marks stopped unsaved u = unit_of u.edition u.drive stopped unsaved u.slots u.held u.out

abbrev pub with_slot : ℕ → Slot → Unit → Unit
with_slot host s u = unit_of u.edition u.drive u.stopped u.unsaved (set u.slots host s) u.held u.out

abbrev pub with_held : ℕ → Option Failure → Unit → Unit
with_held host h u = unit_of u.edition u.drive u.stopped u.unsaved u.slots (set u.held host h) u.out

abbrev pub with_out : Option ℕ → Unit → Unit
with_out o u = unit_of u.edition u.drive u.stopped u.unsaved u.slots u.held o

-- "no operation, command out, deferred sense": what every reset takes.
abbrev pub without_hosts : Unit → Unit
without_hosts u = unit_of u.edition u.drive u.stopped u.unsaved (replicate 4 Empty) (replicate 4 None) None

-- "sets the idle count to 0".
abbrev pub rested : Unit → Unit
rested u = with_drive (restarted u.drive) u

-- ---- a new unit

-- "At manufacture current, saved and default agree": Active, idle count 0, no mark, nothing waiting, held or out. Request (vi): "A unit is of one
-- edition, fixed at manufacture".
abbrev pub made_unit : Edition → List Made → Unit
made_unit e ms = unit_of e (made ms) false false (replicate 4 Empty) (replicate 4 None) None

-- The unit of an edition that supports nothing.
abbrev pub blank : Edition → Unit
blank e = made_unit e (replicate 5 (maker_of unsupported))
