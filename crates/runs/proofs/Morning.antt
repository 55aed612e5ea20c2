-- The morning after: a stopped unit whose spindle does not turn (document 02, request (ii)). A run that demand 3 speaks of, its serial run and what both
-- leave, computed as Afternoon's is; then what the host hears, and a start that goes well.
use Rattle.std.proofs.Common.{Ok, Err, Some, None}
use mathlib.Core.Bool.{true, false}
use mathlib.Core.Path.{◌≡◌, refl}
use mathlib.Core.List.{List, [], ◌∷◌, map}
use Prim.Native.Nat.{ℕ}
use lib.ListN.{replicate}
use Rattle.conditions.specs.declared.Condition.TheVariants.{StandbyZ}
use Rattle.conditions.specs.declared.Cause.TheVariants.{Command}
use Rattle.conditions.specs.declared.Power.TheVariants.{Low, Active}
use Rattle.unit.specs.Units.{well_formed, with_marks, with_power}
use Rattle.refusals.specs.declared.Refusal.TheVariants.{CommandOut, IsStopped}
use Rattle.requests.specs.declared.Failure.TheVariants.{NotReady}
use Rattle.requests.specs.declared.Reply.TheVariants.{Good, Bad}
use Rattle.unit.specs.declared.Unit.{Unit}
use Rattle.registers.specs.Commands.{ata_command}
use Rattle.operations.specs.declared.Acceptance.TheVariants.{GoodDue, Pending}
use Rattle.operations.specs.declared.Progress.TheVariants.{Ended}
use Rattle.operations.specs.declared.Status.{Status}
use Rattle.operations.specs.declared.Status.TheVariants.{NoStatus, GoodStatus, CheckCondition}
use Rattle.calls.specs.Calls.{Call, tick, read, start_stop, next, answer, Said, plain, accepted, sent, progressed, request_sense, outcome, run, history}
use Rattle.calls.specs.Examples.{fresh, quiet}
use Rattle.calls.specs.Facts.{sense_due}
use Rattle.runs.specs.Serial.{Compared, serial, nothing_waits, resets_at_rest, compared}
use Rattle.runs.proofs.Afternoon.{Line, ◌says◌, line_of}
use Rattle.runs.proofs.Computed.{computed}

-- Stopped in the evening, with nothing unsaved.
abbrev night : Unit
night = with_marks true false (with_power (Low StandbyZ Command) fresh)

-- Start with IMMED; power condition 1h, as start, without.
abbrev pub start_immediate : List ℕ
start_immediate = 0x1B ∷ 0x01 ∷ 0x00 ∷ 0x00 ∷ 0x01 ∷ 0x00 ∷ []

abbrev pub to_active : List ℕ
to_active = 0x1B ∷ 0x00 ∷ 0x00 ∷ 0x00 ∷ 0x10 ∷ 0x00 ∷ []

abbrev sends_verify : Said
sends_verify = sent (Ok (ata_command 0x40 0 1 0))

abbrev failed_with : Status → Said
failed_with status = progressed (Ok (Ended (record { status = status; sense = sense_due 0x02 0x04 0x02; flushes = 0 })))

-- ---- the real run

abbrev morning : List Line
morning =
    -- host 0 has its GOOD at once; host 1 waits for its status
    start_stop 0 start_immediate says accepted (Ok GoodDue)
    ∷ start_stop 1 to_active says accepted (Ok Pending)
    -- the verify is out
    ∷ next 0 says sends_verify
    ∷ tick says plain (Ok tt)
    ∷ read 2 says plain (Err CommandOut)
    -- it is bad: no status is due, the failure is held
    ∷ answer 0 Bad says failed_with NoStatus
    -- number 9: the unit is Active, and still stopped
    ∷ read 2 says plain (Err IsStopped)
    -- host 1's is bad too, and told
    ∷ next 1 says sends_verify
    ∷ answer 1 Bad says failed_with CheckCondition
    ∷ tick says plain (Ok tt)
    ∷ []

abbrev calls_made : List Call
calls_made = map (λ l. l.call) morning

-- ---- the serial run

abbrev serially : List Call
serially =
    tick
    ∷ start_stop 0 start_immediate
    ∷ next 0
    ∷ answer 0 Bad
    ∷ start_stop 1 to_active
    ∷ next 1
    ∷ answer 1 Bad
    ∷ tick
    ∷ []

-- What both leave: Active, still stopped, host 0's failure held.
abbrev forenoon : Compared
forenoon = record {
  settings = replicate 5 quiet;
  power = Active;
  idle = record { 0 = 1 };
  stopped = true;
  unsaved = false;
  held = Some NotReady ∷ None ∷ None ∷ None ∷ [];
}

-- ---- both computed

pub each_says : map line_of (history night calls_made) ≡ morning
unfolding computed
each_says = refl

pub begins_well_formed : well_formed night ≡ true
unfolding computed
begins_well_formed = refl

pub at_rest : (nothing_waits night ≡ true) × (resets_at_rest outcome night calls_made ≡ true) × (nothing_waits (run night calls_made) ≡ true)
unfolding computed
at_rest = (refl, refl, refl)

pub serial_list : serial (history night calls_made) ≡ serially
unfolding computed
serial_list = refl

pub real_end : compared (run night calls_made) ≡ forenoon
unfolding computed
real_end = refl

pub serial_end : compared (run night (serial (history night calls_made))) ≡ forenoon
unfolding computed
serial_end = refl

-- ---- afterwards

-- Host 0's next REQUEST SENSE: deferred, NOT READY, LOGICAL UNIT NOT READY, INITIALIZING COMMAND REQUIRED.
pub later_told : (outcome (run night calls_made) (request_sense 0 (replicate 18 0xFF))).buffer
    ≡ 0x71 ∷ 0x00 ∷ 0x02 ∷ 0x00 ∷ 0x00 ∷ 0x00 ∷ 0x00 ∷ 0x0A ∷ 0x00 ∷ 0x00 ∷ 0x00 ∷ 0x00 ∷ 0x04 ∷ 0x02 ∷ 0x00 ∷ 0x00 ∷ 0x00 ∷ 0x00 ∷ []
unfolding computed
later_told = refl

-- A start whose verify is good lifts the stopped mark, and a read is taken.
abbrev turns : List Line
turns =
    start_stop 1 to_active says accepted (Ok Pending)
    ∷ next 1 says sends_verify
    ∷ answer 1 Good says progressed (Ok (Ended (record { status = GoodStatus; sense = None; flushes = 0 })))
    ∷ read 2 says plain (Ok tt)
    ∷ []

pub then_starts : map line_of (history (run night calls_made) (map (λ l. l.call) turns)) ≡ turns
unfolding computed
then_starts = refl
