-- One afternoon of four hosts: a run that demand 3 speaks of, with what each call says, its serial run, and what both leave. All of it is computed:
-- each equation is checked by running its two sides.
use Rattle.std.proofs.Common.{Ok, Err, Some, None}
use mathlib.Core.Bool.{true, false, cond}
use mathlib.Core.Path.{◌≡◌, refl}
use mathlib.Core.List.{List, [], ◌∷◌, map}
use Prim.Native.Nat.{ℕ}
use lib.ListN.{take, replicate}
use Rattle.conditions.specs.declared.Condition.TheVariants.{StandbyY, IdleA}
use Rattle.conditions.specs.declared.Cause.TheVariants.{Command, Timer}
use Rattle.conditions.specs.declared.Power.TheVariants.{Low, Active}
use Rattle.unit.specs.Units.{well_formed}
use Rattle.requests.specs.Requests.{failure_sense}
use Rattle.refusals.specs.declared.Refusal.TheVariants.{CommandOut, OwnWaiting, IsStopped, Aborted}
use Rattle.requests.specs.declared.Failure.TheVariants.{CommandSequence}
use Rattle.unit.specs.declared.Unit.{Unit}
use Rattle.registers.specs.Commands.{ata_command}
use Rattle.operations.specs.declared.Acceptance.TheVariants.{GoodDue, Pending}
use Rattle.operations.specs.declared.Progress.TheVariants.{More, Ended}
use Rattle.requests.specs.declared.Reply.TheVariants.{Good, Bad}
use Rattle.operations.specs.declared.Status.TheVariants.{NoStatus, GoodStatus, CheckCondition}
use Rattle.calls.specs.Calls.{Call, tick, read, write, power_on, start_stop, next, answer, Said, plain, accepted, sent, progressed, Event, hard_reset, soft_reset, request_sense, log_page, transitions_page, outcome, run, history}
use Rattle.calls.specs.Examples.{off, on, new, keeps, quiet, epc_call}
use Rattle.runs.specs.Serial.{Compared, serial, nothing_waits, resets_at_rest, compared, gather, refused_in, other_in}
use Rattle.runs.specs.Deeds.{Deed, does, was_aborted, was_refused, deeds}
use Rattle.runs.specs.Past.{past_of, flushes_answered}
use Rattle.runs.specs.Idle.{restarts_idle}
use Rattle.runs.proofs.Computed.{computed}

-- A call with what it says.
pub record Line : Type 0 where
  pub call : Call
  pub said : Said

infix 68 ◌says◌
abbrev pub ◌says◌ : Call → Said → Line
c says said = record { call = c; said = said }

-- A line of a history.
abbrev pub line_of : Event → Line
line_of e = e.call says e.came.said

-- ---- the unit, and what the hosts ask for

-- Idle_A after 2 tenths of a second, Standby_y after 9.
abbrev noon : Unit
noon = new (on 2) off off (on 9) off

-- Stop; and go to Idle_B, with IMMED.
abbrev pub stop : List ℕ
stop = 0x1B ∷ 0x00 ∷ 0x00 ∷ 0x00 ∷ 0x00 ∷ 0x00 ∷ []

abbrev to_idle_b : List ℕ
to_idle_b = 0x1B ∷ 0x01 ∷ 0x00 ∷ 0x01 ∷ 0x20 ∷ 0x00 ∷ []

-- ---- the real run

abbrev afternoon : List Line
afternoon =
    -- a reset with nothing waiting
    power_on says plain (Ok tt)
    -- host 1 writes: unsaved
    ∷ write 1 says plain (Ok tt)
    -- hosts 0 and 1 each have an operation waiting; host 1 has its GOOD already
    ∷ start_stop 0 stop says accepted (Ok Pending)
    ∷ start_stop 1 to_idle_b says accepted (Ok GoodDue)
    -- number 6, for host 1's own: dropped
    ∷ start_stop 1 stop says accepted (Err OwnWaiting)
    -- host 0's flush is out
    ∷ next 0 says sent (Ok (ata_command 0xE7 0 0 0))
    -- two ticks with a command out: they change nothing here, and stand in the serial run
    ∷ tick says plain (Ok tt)
    ∷ tick says plain (Ok tt)
    -- number 4: dropped
    ∷ read 2 says plain (Err CommandOut)
    -- the flush is good: nothing is unsaved
    ∷ answer 0 Good says progressed (Ok More)
    -- host 3's stop begins too, and its first flush is good
    ∷ start_stop 3 stop says accepted (Ok Pending)
    ∷ next 3 says sent (Ok (ata_command 0xE7 0 0 0))
    ∷ answer 3 Good says progressed (Ok More)
    -- a write between the flush and the stop
    ∷ write 2 says plain (Ok tt)
    -- so another flush is sent; host 3's is bad, and with IMMED 0 that is told at once: in the serial run this answer stands, and not the good one
    ∷ next 3 says sent (Ok (ata_command 0xE7 0 0 0))
    ∷ answer 3 Bad says progressed (Ok (Ended (record { status = CheckCondition; sense = Some (failure_sense CommandSequence); flushes = 2 })))
    -- host 0 too is given another flush, and no E0h yet
    ∷ next 0 says sent (Ok (ata_command 0xE7 0 0 0))
    ∷ answer 0 Good says progressed (Ok More)
    -- host 1's flush, between host 0's second flush and its stop, is bad: no status is due, the failure is held, one flush was answered. It began
    -- after host 0's operation and is over before it
    ∷ next 1 says sent (Ok (ata_command 0xE7 0 0 0))
    ∷ answer 1 Bad says progressed (Ok (Ended (record { status = NoStatus; sense = Some (failure_sense CommandSequence); flushes = 1 })))
    -- two ticks with no command out: Idle_A by timer, while host 0's operation waits
    ∷ tick says plain (Ok tt)
    ∷ tick says plain (Ok tt)
    -- another setting: Idle_B on, 300
    ∷ epc_call 0x82 0x012C22 says plain (Ok tt)
    -- nothing was written since the second flush: the stop
    ∷ next 0 says sent (Ok (ata_command 0xE0 0 0 0))
    ∷ answer 0 Good says progressed (Ok (Ended (record { status = GoodStatus; sense = None; flushes = 2 })))
    -- number 9: dropped, and nothing is unsaved by it
    ∷ write 3 says plain (Err IsStopped)
    -- an aborted power subcommand between two ticks: it stays, for it sets the idle count to 0
    ∷ tick says plain (Ok tt)
    ∷ epc_call 0xFF 0x1 says plain (Err Aborted)
    ∷ tick says plain (Ok tt)
    ∷ []

abbrev calls_made : List Call
calls_made = map (λ l. l.call) afternoon

-- ---- the serial run

abbrev serially : List Call
serially =
    power_on
    ∷ write 1
    -- no command is out here: the unit falls to Idle_A
    ∷ tick
    ∷ tick
    ∷ write 2
    -- host 3's operation whole, where its second flush was answered, with that answer
    ∷ start_stop 3 stop
    ∷ next 3
    ∷ answer 3 Bad
    -- host 1's operation whole, where its bad flush was answered
    ∷ start_stop 1 to_idle_b
    ∷ next 1
    ∷ answer 1 Bad
    ∷ tick
    ∷ tick
    ∷ epc_call 0x82 0x012C22
    -- host 0's operation whole, where its stop was answered, with the answer of its last flush
    ∷ start_stop 0 stop
    ∷ next 0
    ∷ answer 0 Good
    ∷ next 0
    ∷ answer 0 Good
    ∷ tick
    ∷ epc_call 0xFF 0x1
    ∷ tick
    ∷ []

-- ---- what both leave

-- The new setting; Standby_y by command, since its flag is on; one tick since the abort; stopped with nothing unsaved; host 1's failure held.
abbrev evening : Compared
evening = record {
  settings = keeps (on 2) (on 2) (on 2) ∷ keeps off off (on 300) ∷ quiet ∷ keeps (on 9) (on 9) (on 9) ∷ quiet ∷ [];
  power = Low StandbyY Command;
  idle = record { 0 = 1 };
  stopped = true;
  unsaved = false;
  held = None ∷ Some CommandSequence ∷ None ∷ None ∷ [];
}

-- ---- the run is computed

-- Every call says what stands beside it.
pub each_says : map line_of (history noon calls_made) ≡ afternoon
unfolding computed
each_says = refl

-- ---- what demand 3 takes for granted

pub begins_well_formed : well_formed noon ≡ true
unfolding computed
begins_well_formed = refl

pub begins_at_rest : nothing_waits noon ≡ true
begins_at_rest = refl

pub resets_at_rest_lem : resets_at_rest outcome noon calls_made ≡ true
unfolding computed
resets_at_rest_lem = refl

pub ends_at_rest : nothing_waits (run noon calls_made) ≡ true
unfolding computed
ends_at_rest = refl

-- ---- what it says

pub serial_list : serial (history noon calls_made) ≡ serially
unfolding computed
serial_list = refl

pub real_end : compared (run noon calls_made) ≡ evening
unfolding computed
real_end = refl

pub serial_end : compared (run noon (serial (history noon calls_made))) ≡ evening
unfolding computed
serial_end = refl

-- The refused calls of the real run, which have nothing in the serial one, and the calls that stand where they stood.
pub dropped : gather refused_in (deeds (history noon calls_made)) ≡ start_stop 1 stop ∷ read 2 ∷ write 3 ∷ []
unfolding computed
dropped = refl

pub stood : gather other_in (deeds (history noon calls_made))
    ≡ does power_on ∷ does (write 1) ∷ does tick ∷ does tick ∷ does (write 2) ∷ does tick ∷ does tick
    ∷ does (epc_call 0x82 0x012C22) ∷ does tick ∷ was_aborted (epc_call 0xFF 0x1) ∷ does tick ∷ []
unfolding computed
stood = refl

-- Every kind of call that is no part of an operation, accepted, stands as it stood. (The new pages are not among them: noon is a draft unit.)
abbrev others : List Call
others =
    hard_reset ∷ soft_reset ∷ power_on ∷ epc_call 0x82 0x012C22 ∷ read 0 ∷ write 1 ∷ tick ∷ request_sense 2 (replicate 18 0)
    ∷ log_page (replicate 512 0) ∷ transitions_page (replicate 52 0) ∷ []

pub others_stand : serial (history noon others) ≡ others
unfolding computed
others_stand = refl

-- Of these, all but the tick, REQUEST SENSE and the log pages set the idle count to 0.
abbrev keeps_idle : Deed → List Deed
keeps_idle d = cond (restarts_idle d) [] (d ∷ [])

pub others_restart : gather keeps_idle (deeds (history noon others))
    ≡ does tick ∷ does (request_sense 2 (replicate 18 0)) ∷ does (log_page (replicate 512 0)) ∷ does (transitions_page (replicate 52 0)) ∷ []
unfolding computed
others_restart = refl

-- In the afternoon, all but the ticks and what was dropped.
pub restarts : gather keeps_idle (deeds (history noon calls_made))
    ≡ was_refused (start_stop 1 stop) ∷ does tick ∷ does tick ∷ was_refused (read 2) ∷ does tick ∷ does tick ∷ was_refused (write 3) ∷ does tick ∷ does tick ∷ []
unfolding computed
restarts = refl

-- ---- on the way the two runs differ

-- After the two ticks with a command out the real unit is Active; the serial one, with none out, is in Idle_A.
pub ticks_apart : ((run noon (take 8 calls_made)).drive.power ≡ Active) × ((run noon (take 4 serially)).drive.power ≡ Low IdleA Timer)
unfolding computed
ticks_apart = (refl, refl)

-- Two more ticks, with no command out while host 0's operation waits, take the real unit there too.
pub ticks_count : (run noon (take 22 calls_made)).drive.power ≡ Low IdleA Timer
unfolding computed
ticks_count = refl

-- Host 1's bad flush leaves the marks as before: in the real run host 0's flush was good before it, in the serial run it is still to come.
pub marks_apart : ((run noon (take 20 calls_made)).unsaved ≡ false) × ((run noon (take 11 serially)).unsaved ≡ true)
unfolding computed
marks_apart = (refl, refl)

-- ---- what was counted

-- Flushes answered for hosts 0, 1 and 3, good and bad, as the history has them: the counts in their end reports.
pub counted : (flushes_answered 0 (past_of noon calls_made) ≡ 2) × (flushes_answered 1 (past_of noon calls_made) ≡ 1)
    × (flushes_answered 3 (past_of noon calls_made) ≡ 2)
unfolding computed
counted = (refl, refl, refl)

-- ---- the failure is not lost

-- Host 1's next REQUEST SENSE: deferred, ABORTED COMMAND, COMMAND SEQUENCE ERROR.
pub later_told : (outcome (run noon calls_made) (request_sense 1 (replicate 18 0xFF))).buffer
    ≡ 0x71 ∷ 0x00 ∷ 0x0B ∷ 0x00 ∷ 0x00 ∷ 0x00 ∷ 0x00 ∷ 0x0A ∷ 0x00 ∷ 0x00 ∷ 0x00 ∷ 0x00 ∷ 0x2C ∷ 0x00 ∷ 0x00 ∷ 0x00 ∷ 0x00 ∷ 0x00 ∷ []
unfolding computed
later_told = refl
