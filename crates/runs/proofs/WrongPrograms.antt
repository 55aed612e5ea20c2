-- Wrong programs, as step functions: those of document 01's "Holding the wording to account" and "Slips seen in other boards", in its words, and others.
-- Each does as the layer does but for its own slip.
use Rattle.std.proofs.Common.{Ok, Err, Some, None, Option, Result}
use mathlib.Core.Bool.{Bool, true, false, not, ◌&&◌, ◌||◌, cond}
use mathlib.Core.List.{List}
use Prim.Native.Nat.{ℕ, ◌+◌, ◌-◌}
use lib.Dec.{eqb}
use lib.ListN.{replicate}
use Rattle.rows.specs.Rows.{map_at}
use Rattle.conditions.specs.Conditions.{depth}
use Rattle.conditions.specs.declared.Power.{Power}
use Rattle.conditions.specs.declared.Power.TheVariants.{Active}
use Rattle.drive.specs.Drives.{drive_of, with_settings, with_idle, entered, timers_ask, fallen}
use Rattle.drive.specs.declared.Record.{Record}
use Rattle.drive.specs.declared.Drive.{Drive}
use Rattle.registers.specs.declared.Registers.{Registers}
use Rattle.unit.specs.Units.{slot_of, is_out, unit_of, with_drive, with_marks, with_out}
use Rattle.refusals.specs.declared.Refusal.{Refusal}
use Rattle.refusals.specs.declared.Refusal.TheVariants.{BadRecord, OwnWaiting}
use Rattle.unit.specs.declared.Slot.{Slot}
use Rattle.unit.specs.declared.Slot.TheVariants.{Empty, Waiting}
use Rattle.unit.specs.declared.Unit.{Unit}
use Rattle.operations.specs.Operations.{registers_of, flushes_of, due_from}
use Rattle.operations.specs.declared.Due.TheVariants.{Flush, StandbyImmediate}
use Rattle.operations.specs.declared.Acceptance.TheVariants.{GoodDue, Pending}
use Rattle.requests.specs.declared.Reply.TheVariants.{Good}
use Rattle.operations.specs.declared.Status.TheVariants.{GoodStatus}
use Rattle.operations.specs.declared.Report.{Report}
use Rattle.operations.specs.declared.Progress.{Progress}
use Rattle.operations.specs.declared.Progress.TheVariants.{More, Ended}
use Rattle.calls.specs.Calls.{Call, tick, next, answer, Said, plain, accepted, sent, progressed, Outcome, outcome, StepFunction}
use Rattle.calls.specs.Described.{same_kind, is_write, reach_of, of_host, is_sense, lent}
use Rattle.calls.specs.Examples.{off}
use Rattle.calls.specs.Table.{uses_medium, verdict_in, is_clear}
use Rattle.runs.specs.Serial.{nothing_waits}
use Rattle.senses.specs.declared.Sense.{Sense}
use Rattle.requests.specs.declared.Failure.{Failure}

-- ---- an outcome with one thing changed

abbrev pub saying : Said → Outcome → Outcome
saying said o = record { said = said; unit = o.unit; buffer = o.buffer }

abbrev pub leaving : Unit → Outcome → Outcome
leaving u o = record { said = o.said; unit = u; buffer = o.buffer }

-- The drive in this power, with these counts: nothing is entered.
abbrev powered_as : Power → List ℕ → Drive → Drive
powered_as p counts d = drive_of d.records p d.idle.0 counts

-- The record with this unsaved mark.
abbrev pub marked : Bool → Unit → Unit
marked unsaved u = with_marks u.stopped unsaved u

-- ---- "one that flushes once and skips every later flush"

-- An operation waits, and a flush of it is answered.
abbrev pub has_flushed : Slot → Bool
has_flushed Empty = false
has_flushed (Waiting q) = not (eqb (flushes_of q.stage) 0)

-- The call asks or answers for such an operation.
abbrev pub after_flush : Unit → Call → Bool
after_flush u c =
    (same_kind c (next 0) || same_kind c (answer 0 Good)) && of_host (λ host. has_flushed (slot_of u.slots host)) (reach_of c)

-- It then does as on a record with the unsaved mark clear,
abbrev pub unlooked : StepFunction
unlooked u c = outcome (marked false u) c

-- and leaves the mark as it was.
abbrev pub flushes_once : StepFunction
flushes_once u c = cond (after_flush u c) (leaving (marked u.unsaved (unlooked u c).unit) (unlooked u c)) (outcome u c)

-- One that also clears the mark as the last command goes out, as if the flush had been sent. A refusal still leaves it.
abbrev pub clears_mark : StepFunction
clears_mark u c = cond (after_flush u c && is_clear (verdict_in (outcome u c).said)) (unlooked u c) (outcome u c)

-- ---- ticks

-- A tick that counts: it is not refused, and no command is out.
abbrev pub tick_counts : Unit → Call → Bool
tick_counts u c = same_kind c tick && is_clear (verdict_in (outcome u c).said) && not (is_out u.out)

-- What such a tick enters is asked of another function, by the drive before it and the count that it leaves.
abbrev pub entering : (Drive → ℕ → Power) → StepFunction
entering asked u c =
    let o = outcome u c in
    let n = o.unit.drive.idle.0 in
    cond (tick_counts u c) (leaving (with_drive (entered (asked u.drive n) (with_idle n u.drive)) u) o) o

-- Each timer runs out a tick early, or a tick late.
abbrev pub early : StepFunction
early = entering (λ d n. fallen (timers_ask d.records (n + 1)) d.power)

abbrev pub late : StepFunction
late = entering (λ d n. fallen (timers_ask d.records (n - 1)) d.power)

-- "Letting a longer idle timer lift the drive out of standby": the condition whose timer runs out at this very tick is entered, wherever the drive is.
abbrev pub only_at : ℕ → ℕ → Record → Record
only_at count place r = cond (eqb r.current.timer.0 count) r (with_settings r.saved off r)

abbrev pub or_stays : Power → Power → Power
or_stays asked present = cond (eqb (depth asked) 0) present asked

abbrev pub lifts : StepFunction
lifts = entering (λ d n. or_stays (timers_ask (map_at (only_at n) 0 d.records) n) d.power)

-- ---- others

-- One that takes a write while a command is out, as if none were: the flush that is out may not cover it.
abbrev pub writes_through : StepFunction
writes_through u c =
    let o = outcome (with_out None u) c in
    cond (is_write c) (leaving (with_out u.out o.unit) o) (outcome u c)

-- Another command is handed out for one with this code.
abbrev pub handed_for : ℕ → Registers → Said → Said
handed_for code other (plain a) = plain a
handed_for code other (accepted a) = accepted a
handed_for code other (sent (Ok q)) = sent (Ok (cond (eqb q.command code) other q))
handed_for code other (sent (Err r)) = sent (Err r)
handed_for code other (progressed p) = progressed p

-- One that parks the unit on a start: STANDBY IMMEDIATE is handed out for the verify.
abbrev pub start_parks : StepFunction
start_parks u c = saying (handed_for 0x40 (registers_of StandbyImmediate) (outcome u c).said) (outcome u c)

-- One that flushes where a stop is due, asked to or not.
abbrev pub flushes_anyway : StepFunction
flushes_anyway u c = saying (handed_for 0xE0 (registers_of Flush) (outcome u c).said) (outcome u c)

-- One whose ticks start the unit.
abbrev pub tick_starts : StepFunction
tick_starts u c = cond (tick_counts u c) (leaving (with_marks false u.unsaved (outcome u c).unit) (outcome u c)) (outcome u c)

-- One that takes reads and writes of a stopped unit; the mark stays.
abbrev pub works_stopped : StepFunction
works_stopped u c =
    let o = outcome (with_marks false u.unsaved u) c in
    cond (uses_medium c) (leaving (with_marks u.stopped o.unit.unsaved o.unit) o) (outcome u c)

-- "one that changes nothing": it says what the layer says.
abbrev pub changes_nothing : StepFunction
changes_nothing u c = leaving u (outcome u c)

-- ---- failures

abbrev pub is_due : Option Sense → Bool
is_due None = false
is_due (Some s) = true

-- The operation is over, and the end report has a failure's sense.
abbrev pub is_failure : Said → Bool
is_failure (plain a) = false
is_failure (accepted a) = false
is_failure (sent n) = false
is_failure (progressed (Ok More)) = false
is_failure (progressed (Ok (Ended report))) = is_due report.sense
is_failure (progressed (Err r)) = false

-- The command due from what waits in the slot has this code,
abbrev pub due_has_code : ℕ → Bool → Slot → Bool
due_has_code code unsaved Empty = false
due_has_code code unsaved (Waiting q) = eqb (registers_of (due_from unsaved q)).command code

-- and so has the command that is out,
abbrev pub out_has_code : ℕ → Unit → Option ℕ → Bool
out_has_code code u None = false
out_has_code code u (Some host) = due_has_code code u.unsaved (slot_of u.slots host)

-- by whose answer the operation fails.
abbrev pub fails_on : ℕ → Unit → Call → Bool
fails_on code u c = is_failure (outcome u c).said && out_has_code code u u.out

-- Another record is left, made from the one before the call and the one that it should leave: after every call,
abbrev pub left_by : (Unit → Unit → Unit) → StepFunction
left_by change u c = leaving (change u (outcome u c).unit) (outcome u c)

-- after an accepted call that passes the test,
abbrev pub on_accepted : (Unit → Call → Bool) → (Unit → Unit → Unit) → StepFunction
on_accepted test change u c = cond (test u c && is_clear (verdict_in (outcome u c).said)) (left_by change u c) (outcome u c)

-- after every failure, or after that of one command.
abbrev pub on_failure : (Unit → Unit → Unit) → StepFunction
on_failure change u c = cond (is_failure (outcome u c).said) (left_by change u c) (outcome u c)

abbrev pub on_failure_of : ℕ → (Unit → Unit → Unit) → StepFunction
on_failure_of code change u c = cond (fails_on code u c) (left_by change u c) (outcome u c)

-- The power condition is that before the call,
abbrev pub power_kept : Unit → Unit → Unit
power_kept before u = with_drive (powered_as before.drive.power before.drive.counts u.drive) u

-- or the stopped mark is cleared,
abbrev pub mark_cleared : Unit → Unit → Unit
mark_cleared before u = with_marks false u.unsaved u

-- or the held senses are those before the call.
abbrev pub held_kept : Unit → Unit → Unit
held_kept before u = unit_of u.edition u.drive u.stopped u.unsaved u.slots before.held u.out

-- Against "Bad flush: Active" and "Bad last command: Active": the power condition stays.
abbrev pub keeps_power : StepFunction
keeps_power = on_failure power_kept

-- Against "Bad flush: .. marks as before": it clears the unsaved mark.
abbrev pub bad_flush_saves : StepFunction
bad_flush_saves = on_failure_of 0xE7 (λ before u. marked false u)

-- "Clearing the stopped mark when a go to failed", and whenever another operation did.
abbrev pub failure_starts : StepFunction
failure_starts = on_failure mark_cleared

-- One that holds no failure, though it reports it as held.
abbrev pub forgets : StepFunction
forgets = on_failure held_kept

-- One that reports twice: it gives a failure's report, and lets the operation wait on.
abbrev pub reports_twice : StepFunction
reports_twice = on_failure (λ before u. unit_of u.edition u.drive u.stopped u.unsaved before.slots u.held u.out)

-- ---- refusals

-- A refusal in the words of the call's own answer; record and buffer as they came.
abbrev pub refusing : Refusal → Said → Said
refusing r (plain a) = plain (Err r)
refusing r (accepted a) = accepted (Err r)
refusing r (sent n) = sent (Err r)
refusing r (progressed p) = progressed (Err r)

abbrev pub refused : Refusal → StepFunction
refused r u c = record { said = refusing r (outcome u c).said; unit = u; buffer = lent c }

-- "one that refuses all": number 3 for every call.
abbrev pub refuses_all : StepFunction
refuses_all = refused BadRecord

-- START STOP UNIT was accepted.
abbrev pub is_acceptance : Said → Bool
is_acceptance (plain a) = false
is_acceptance (accepted (Ok GoodDue)) = true
is_acceptance (accepted (Ok Pending)) = true
is_acceptance (accepted (Err r)) = false
is_acceptance (sent n) = false
is_acceptance (progressed p) = false

-- "one that admits a single operation for the whole unit": number 6 while any host's operation waits.
abbrev pub one_for_all : StepFunction
one_for_all u c = cond (is_acceptance (outcome u c).said && not (nothing_waits u)) (refused OwnWaiting u c) (outcome u c)

-- ---- what is told

-- Something else is said where an end report is due.
abbrev pub at_end : (Report → Result Progress Refusal) → Said → Said
at_end say (plain a) = plain a
at_end say (accepted a) = accepted a
at_end say (sent n) = sent n
at_end say (progressed (Ok More)) = progressed (Ok More)
at_end say (progressed (Ok (Ended report))) = progressed (say report)
at_end say (progressed (Err r)) = progressed (Err r)

abbrev pub reporting : (Report → Result Progress Refusal) → StepFunction
reporting say u c = saying (at_end say (outcome u c).said) (outcome u c)

-- "one that invents the flush count": an end report always says 1.
abbrev pub invents_count : StepFunction
invents_count = reporting (λ report. Ok (Ended (record { status = report.status; sense = report.sense; flushes = 1 })))

-- More is to come.
abbrev pub is_more : Said → Bool
is_more (plain a) = false
is_more (accepted a) = false
is_more (sent n) = false
is_more (progressed (Ok More)) = true
is_more (progressed (Ok (Ended report))) = false
is_more (progressed (Err r)) = false

-- One that takes an operation for done at its good flush.
abbrev pub ends_at_flush : StepFunction
ends_at_flush u c =
    let v = (outcome u c).unit in
    let over = unit_of v.edition v.drive v.stopped v.unsaved (replicate 4 Empty) v.held v.out in
    let said = progressed (Ok (Ended (record { status = GoodStatus; sense = None; flushes = 1 }))) in
    cond (is_more (outcome u c).said) (saying said (leaving over (outcome u c))) (outcome u c)

-- One that does not count a good flush.
abbrev pub uncounts : StepFunction
uncounts u c =
    let v = (outcome u c).unit in
    cond (is_more (outcome u c).said)
    (leaving (unit_of v.edition v.drive v.stopped v.unsaved u.slots v.held v.out) (outcome u c))
    (outcome u c)

-- One that owes every status until the end.
abbrev pub pending : Said → Said
pending (plain a) = plain a
pending (accepted (Ok GoodDue)) = accepted (Ok Pending)
pending (accepted (Ok Pending)) = accepted (Ok Pending)
pending (accepted (Err r)) = accepted (Err r)
pending (sent n) = sent n
pending (progressed p) = progressed p

abbrev pub owes_status : StepFunction
owes_status u c = saying (pending (outcome u c).said) (outcome u c)

-- One that swallows end reports: it says that more is to come where an operation is over.
abbrev pub swallows : StepFunction
swallows = reporting (λ report. (Ok More))

-- One that leaves the sense out of a failure's end report.
abbrev pub mutes : StepFunction
mutes = reporting (λ report. Ok (Ended (record { status = report.status; sense = None; flushes = report.flushes })))

-- A sense is held.
abbrev pub is_holding : Option Failure → Bool
is_holding None = false
is_holding (Some f) = true

-- One that drops every host's held sense once any host asks for its own.
abbrev pub none_held_in : Unit → Unit
none_held_in u = unit_of u.edition u.drive u.stopped u.unsaved u.slots (replicate 4 None) u.out

abbrev pub drops_all_held : StepFunction
drops_all_held = on_accepted (λ u. is_sense) (λ before. none_held_in)

-- One that goes on holding a sense that it has told.
abbrev pub tells_again : StepFunction
tells_again = on_accepted (λ u. is_sense) held_kept

-- One that "always reports Active": the bytes are those of an Active unit. The condition is in no other buffer, so no other call is touched.
abbrev pub always_active : StepFunction
always_active u c = record {
  said = (outcome u c).said;
  unit = (outcome u c).unit;
  buffer = (outcome (with_drive (powered_as Active u.drive.counts u.drive) u) c).buffer;
}
