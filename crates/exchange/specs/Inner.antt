-- Names for what inner functions promise: the answer to a host that asks, and the one record that an answer leaves. Nothing outside this crate cites them.
use Rattle.std.specs.Prelude.{Bool, not, cond, ℕ, Ok, Err, Some, None, Option, Result}
use Rattle.drive.specs.Drives.{with_idle, entered}
use Rattle.unit.specs.Units.{with_drive, with_marks, with_slot, with_held, with_out}
use Rattle.unit.specs.declared.Slot.{Slot}
use Rattle.unit.specs.declared.Slot.TheVariants.{Empty, Waiting}
use Rattle.unit.specs.declared.Unit.{Unit}
use Rattle.refusals.specs.declared.Refusal.TheVariants.{HasNone}
use Rattle.operations.specs.Operations.{registers_of, due_from}
use Rattle.exchange.specs.declared.After.{After}
use Rattle.exchange.specs.declared.Replied.{Replied}
use Rattle.refusals.specs.Refusals.{Verdict}
use Rattle.refusals.specs.declared.Refusal.{Refusal}
use Rattle.registers.specs.declared.Registers.{Registers}
use Rattle.requests.specs.declared.Failure.{Failure}

-- ---- the next command

abbrev pub due_in : Bool → Slot → Result Registers Refusal
due_in unsaved Empty = Err HasNone
due_in unsaved (Waiting q) = Ok (registers_of (due_from unsaved q))

abbrev pub next_of : Verdict → Bool → Slot → Result Registers Refusal
next_of (Ok _) unsaved s = due_in unsaved s
next_of (Err r) unsaved s = Err r

-- ---- the answer

-- Held in place of an older sense; with none, what is held stays.
abbrev pub held_by : Unit → ℕ → Option Failure → Unit
held_by u host None = u
held_by u host (Some f) = with_held host (Some f) u

-- Power, idle count and marks.
abbrev pub moved : Unit → After → Unit
moved u a =
    with_marks a.stopped a.unsaved
    (with_drive (entered a.power (with_idle (cond (not a.taken) u.drive.idle.0 0) u.drive)) u)

-- The slot too, unless nothing is taken.
abbrev pub slotted : Unit → ℕ → After → Unit
slotted u host a = cond (not a.taken) (moved u a) (with_slot host a.slot (moved u a))

abbrev pub held_after : Unit → ℕ → After → Unit
held_after u host a = held_by (slotted u host a) host a.held

-- The command is no longer out, unless nothing is taken.
abbrev pub left : Unit → ℕ → After → Replied
left u host a = record {
  answer = a.answer;
  unit = cond (not a.taken) (held_after u host a) (with_out None (held_after u host a));
}
