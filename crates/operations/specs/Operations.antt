-- Document 01, "START STOP UNIT": an operation's commands, its end report, and what its answers mean. No unit is needed.
use Rattle.std.specs.Prelude.{Bool, true, false, ◌||◌, cond, List, ℕ, ◌+◌, eqb, ltb, get_or, Some, None}
use Rattle.conditions.specs.Conditions.{place_of}
use Rattle.drive.specs.Records.{unsupported}
use Rattle.conditions.specs.declared.Condition.{Condition}
use Rattle.conditions.specs.declared.Condition.TheVariants.{StandbyY, StandbyZ}
use Rattle.conditions.specs.declared.Cause.TheVariants.{Command}
use Rattle.conditions.specs.declared.Power.{Power}
use Rattle.conditions.specs.declared.Power.TheVariants.{Active, Low}
use Rattle.drive.specs.declared.Record.{Record}
use Rattle.registers.specs.Commands.{ata_command, count_code}
use Rattle.registers.specs.declared.Registers.{Registers}
use Rattle.requests.specs.Requests.{failure_sense}
use Rattle.requests.specs.declared.Target.{Target}
use Rattle.requests.specs.declared.Target.TheVariants.{Stop, Start, GoTo}
use Rattle.requests.specs.declared.Stage.{Stage}
use Rattle.requests.specs.declared.Stage.TheVariants.{Straight, Flushing}
use Rattle.requests.specs.declared.Request.{Request}
use Rattle.requests.specs.declared.Failure.{Failure}
use Rattle.requests.specs.declared.Failure.TheVariants.{CommandSequence, NotReady}
use Rattle.operations.specs.declared.Due.{Due}
use Rattle.operations.specs.declared.Due.TheVariants.{Flush, StandbyImmediate, ReadVerify, EpcGoTo}
use Rattle.requests.specs.declared.Reply.{Reply}
use Rattle.requests.specs.declared.Reply.TheVariants.{Good, Bad}
use Rattle.operations.specs.declared.Acceptance.{Acceptance}
use Rattle.operations.specs.declared.Acceptance.TheVariants.{GoodDue, Pending}
use Rattle.operations.specs.declared.Status.TheVariants.{NoStatus, GoodStatus, CheckCondition}
use Rattle.operations.specs.declared.Report.{Report}

-- ---- the commands

-- "Registers not given are zero." "Flush is E7h." "STANDBY IMMEDIATE E0h." "READ VERIFY 40h, Count 1, LBA 0." The go to is EPC's: EFh, 4Ah, the
-- condition's Count, LBA 1.
abbrev pub registers_of : Due → Registers
registers_of Flush = ata_command 0xE7 0 0 0
registers_of StandbyImmediate = ata_command 0xE0 0 0 0
registers_of ReadVerify = ata_command 0x40 0 1 0
registers_of (EpcGoTo c) = ata_command 0xEF 0x4A (count_code c) 1

-- The last command of an operation.
abbrev pub last_of : Target → Due
last_of Stop = StandbyImmediate
last_of Start = ReadVerify
last_of (GoTo c) = EpcGoTo c

-- A flushing operation's first command is a flush. "Before the last command of a flushing operation, if the unsaved mark is set, another
-- flush is sent."
abbrev pub due_at : Stage → Bool → Due → Due
due_at Straight unsaved last = last
due_at (Flushing answered) unsaved last = cond (eqb answered 0 || unsaved) Flush last

-- The command due from an operation, on a unit with or without the unsaved mark.
abbrev pub due_from : Bool → Request → Due
due_from unsaved q = due_at q.stage unsaved (last_of q.target)

abbrev pub is_flush : Due → Bool
is_flush Flush = true
is_flush StandbyImmediate = false
is_flush ReadVerify = false
is_flush (EpcGoTo c) = false

-- ---- acceptance

-- "With IMMED 1, GOOD is due on acceptance".
abbrev pub accepted_as : Bool → Acceptance
accepted_as immediate = cond immediate GoodDue Pending

-- ---- the count of flushes answered

-- "the number of flushes answered, good and bad, for that operation, which stays at 255 once reached".
abbrev pub one_more : ℕ → ℕ
one_more n = cond (ltb n 255) (n + 1) n

abbrev pub flushes_of : Stage → ℕ
flushes_of Straight = 0
flushes_of (Flushing answered) = answered

-- ---- the end report

-- "With IMMED 1, GOOD is due on acceptance; a failure is held as the host's deferred sense .. With IMMED 0 the status comes with the last
-- answer." "The end report also carries the number of flushes answered". A sense beside no status is one that is now held.
abbrev pub report_good : Bool → ℕ → Report
report_good immed flushes = record { status = cond immed NoStatus GoodStatus; sense = None; flushes = flushes }

abbrev pub report_failed : Bool → Failure → ℕ → Report
report_failed immed f flushes =
    record { status = cond immed NoStatus CheckCondition; sense = Some (failure_sense f); flushes = flushes }

-- ---- answers

abbrev pub is_good : Reply → Bool
is_good Good = true
is_good Bad = false

-- What a failed operation says: "Failure is ABORTED COMMAND, COMMAND SEQUENCE ERROR". Document 02, request (ii): "a bad verify fails the start:
-- NOT READY". A start's one command is its verify.
abbrev pub failure_of : Target → Failure
failure_of Stop = CommandSequence
failure_of Start = NotReady
failure_of (GoTo c) = CommandSequence

-- A flush that is answered is counted.
abbrev pub flush_counted : Request → Request
flush_counted q = record { target = q.target; immed = q.immed; stage = Flushing (one_more (flushes_of q.stage)) }

-- "stop enters Standby_y if its current flag is set, else Standby_z, supported or not".
abbrev pub parked_in : List Record → Condition
parked_in rs = cond (get_or rs (place_of StandbyY) unsupported).current.enabled StandbyY StandbyZ

-- "Good last command: the named condition, cause command;" a start's is Active (004, note c; 002, "01h - ACTIVE").
abbrev pub reached : List Record → Target → Power
reached rs Stop = Low (parked_in rs) Command
reached rs Start = Active
reached rs (GoTo c) = Low c Command

-- "the stopped mark becomes one for stop, zero for any other".
abbrev pub is_stop : Target → Bool
is_stop Stop = true
is_stop Start = false
is_stop (GoTo c) = false
