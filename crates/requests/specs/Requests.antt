-- What an accepted START STOP UNIT asks for, when it is one that START STOP accepts, and the sense of one that fails: document 01, "Conditions and
-- settings" (well formed) and "START STOP UNIT"; document 02, request (ii).
use Rattle.std.specs.Prelude.{Bool, true, false, List, get_or}
use Rattle.conditions.specs.Conditions.{place_of}
use Rattle.drive.specs.Records.{unsupported}
use Rattle.conditions.specs.declared.Condition.{Condition}
use Rattle.drive.specs.declared.Record.{Record}
use Rattle.senses.specs.declared.Sense.{Sense}
use Rattle.requests.specs.declared.Target.{Target}
use Rattle.requests.specs.declared.Target.TheVariants.{Stop, Start, GoTo}
use Rattle.requests.specs.declared.Stage.{Stage}
use Rattle.requests.specs.declared.Stage.TheVariants.{Straight, Flushing}
use Rattle.requests.specs.declared.Failure.{Failure}
use Rattle.requests.specs.declared.Failure.TheVariants.{CommandSequence, NotReady}

-- "The condition must be supported."
abbrev pub supported_in : List Record → Condition → Bool
supported_in rs c = (get_or rs (place_of c) unsupported).supported

-- "a waiting request is one START STOP accepts, with its count of answered flushes as progress (0 if it sends none)": a stop flushes or not, a
-- start never does, a go to needs its condition supported. `Straight` carries no count.
abbrev pub request_well_formed : List Record → Target → Stage → Bool
request_well_formed rs Stop stage = true
request_well_formed rs Start Straight = true
request_well_formed rs Start (Flushing n) = false
request_well_formed rs (GoTo c) stage = supported_in rs c

-- "Failure is ABORTED COMMAND, COMMAND SEQUENCE ERROR (0B/2C/00)." Document 02, request (ii): "NOT READY, 02/04/02".
abbrev pub failure_sense : Failure → Sense
failure_sense CommandSequence = record { key = 0x0B; asc = 0x2C; ascq = 0x00 }
failure_sense NotReady = record { key = 0x02; asc = 0x04; ascq = 0x02 }
