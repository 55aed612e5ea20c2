-- What the drive's answers leave of a unit and of its host's operation: document 01, "START STOP UNIT", "Answers."
use Rattle.std.specs.Prelude.{Bool, false, cond, ℕ, Ok, Some, None}
use Rattle.conditions.specs.declared.Power.TheVariants.{Active}
use Rattle.unit.specs.Units.{with_power, rested, with_marks, with_slot, with_held, with_out}
use Rattle.operations.specs.Operations.{due_from, is_flush, one_more, flushes_of, report_good, report_failed, flush_counted, failure_of, reached, is_stop, is_good}
use Rattle.requests.specs.declared.Request.{Request}
use Rattle.unit.specs.declared.Slot.TheVariants.{Empty, Waiting}
use Rattle.requests.specs.declared.Failure.{Failure}
use Rattle.unit.specs.declared.Unit.{Unit}
use Rattle.requests.specs.declared.Reply.{Reply}
use Rattle.operations.specs.declared.Progress.TheVariants.{More, Ended}
use Rattle.exchange.specs.declared.Replied.{Replied}

-- ---- answers

-- "Every answer sets idle count 0." The command is no longer out.
abbrev pub taken : Unit → Unit
taken u = with_out None (rested u)

-- "Good flush: Active, unsaved cleared." It is counted.
abbrev pub flushed_well : Unit → ℕ → Request → Replied
flushed_well u host q =
    record { answer = Ok More; unit = with_slot host (Waiting (flush_counted q)) (with_marks u.stopped false (with_power Active (taken u))) }

-- "a failure is held as the host's deferred sense, replacing an older one", with IMMED 1.
abbrev pub held_if : Bool → ℕ → Failure → Unit → Unit
held_if immed host f u = cond immed (with_held host (Some f) u) u

-- "Bad flush: Active, operation over, failed, marks as before." "Bad last command: Active, failed, marks as before."
abbrev pub failed : Unit → ℕ → Request → ℕ → Replied
failed u host q flushes = record {
  answer = Ok (Ended (report_failed q.immed (failure_of q.target) flushes));
  unit = held_if q.immed host (failure_of q.target) (with_slot host Empty (with_power Active (taken u)));
}

-- "Good last command: the named condition, cause command; .. the stopped mark becomes one for stop, zero for any other."
abbrev pub succeeded : Unit → ℕ → Request → Replied
succeeded u host q = record {
  answer = Ok (Ended (report_good q.immed (flushes_of q.stage)));
  unit = with_slot host Empty (with_marks (is_stop q.target) u.unsaved (with_power (reached u.drive.records q.target) (taken u)));
}

-- The answer to a flush: "A bad flush is its operation's last answer", and is counted.
abbrev pub flush_answered : Unit → ℕ → Request → Reply → Replied
flush_answered u host q reply = cond (is_good reply) (flushed_well u host q) (failed u host q (one_more (flushes_of q.stage)))

-- The answer to the last command. Document 02, request (ii), of a start: "From now a bad verify fails the start: .. deferred with IMMED 1, unit
-- Active, stopped mark as before."
abbrev pub last_answered : Unit → ℕ → Request → Reply → Replied
last_answered u host q reply = cond (is_good reply) (succeeded u host q) (failed u host q (flushes_of q.stage))

-- The answer to the command that is out for a waiting operation.
unfoldable pub answered_for : Unit → ℕ → Request → Reply → Replied
answered_for u host q reply =
    cond (is_flush (due_from u.unsaved q)) (flush_answered u host q reply) (last_answered u host q reply)
