-- The whole outcome of START STOP UNIT: document 01, "START STOP UNIT".
use Rattle.std.specs.Prelude.{List, ℕ, length, Ok, Err, Some, None, Option}
use Rattle.unit.specs.Units.{waits, is_out, well_formed, with_slot, rested}
use Rattle.refusals.specs.Refusals.{Row, lowest}
use Rattle.refusals.specs.Verdicts.{rows_of_start_stop}
use Rattle.operations.specs.Operations.{accepted_as}
use Rattle.unit.specs.declared.Slot.TheVariants.{Waiting}
use Rattle.unit.specs.declared.Unit.{Unit}
use Rattle.cdb.specs.Cdb.{byte, immed, wanted, is_listed, request_for}
use Rattle.bridge.specs.declared.StartStopped.{StartStopped}
use Rattle.refusals.specs.Refusals.{Verdict}
use Rattle.requests.specs.declared.Target.{Target}

-- ---- START STOP UNIT

abbrev pub start_stop_rows : Unit → ℕ → List ℕ → List Row
start_stop_rows u host cdb =
    rows_of_start_stop (length cdb) host (well_formed u) (is_out u.out) (waits u host) (byte 0 cdb) (is_listed u.drive.records cdb)

-- The operation waits in the host's slot; as an accepted call it "sets the idle count to 0".
abbrev pub start_stop_effect : ℕ → List ℕ → Option Target → Unit → Unit
start_stop_effect host cdb None u = u
start_stop_effect host cdb (Some t) u = with_slot host (Waiting (request_for t cdb)) (rested u)

-- "A refusal .. returns the record as it came".
abbrev pub start_stop_settled : Unit → ℕ → List ℕ → Option Target → Verdict → StartStopped
start_stop_settled u host cdb w (Ok _) = record { answer = Ok (accepted_as (immed cdb)); unit = start_stop_effect host cdb w u }
start_stop_settled u host cdb w (Err r) = record { answer = Err r; unit = u }

unfoldable pub start_stop_outcome : Unit → ℕ → List ℕ → StartStopped
start_stop_outcome u host cdb = start_stop_settled u host cdb (wanted cdb) (lowest (start_stop_rows u host cdb))
