-- The whole outcome of each call that needs no START STOP UNIT and no buffer: document 01, "EPC registers" and "Ticks, medium calls, resets".
use Rattle.std.specs.Prelude.{true, false, cond, List, ℕ, Ok, Err}
use Rattle.drive.specs.Drives.{ticked, used, powered_on}
use Rattle.drive.specs.declared.Edition.{Edition}
use Rattle.drive.specs.declared.Made.{Made}
use Rattle.epc.specs.Epc.{aborts, performed}
use Rattle.registers.specs.declared.Registers.{Registers}
use Rattle.outcomes.specs.Settled.{settled}
use Rattle.unit.specs.Units.{is_out, well_formed, largest_of, with_drive, with_marks, without_hosts, rested, made_unit, blank}
use Rattle.refusals.specs.Refusals.{Row, is_same, lowest}
use Rattle.refusals.specs.Verdicts.{rows_of_record, rows_of_epc, rows_of_medium}
use Rattle.refusals.specs.declared.Refusal.{Refusal}
use Rattle.refusals.specs.declared.Refusal.TheVariants.{Aborted}
use Rattle.outcomes.specs.declared.Called.{Called}
use Rattle.unit.specs.declared.Unit.{Unit}
use Rattle.refusals.specs.Refusals.{Verdict}

-- ---- manufacture

-- Number 3 if that makes no well-formed record; then nothing of what was asked comes back but the edition.
unfoldable pub manufacture_outcome : Edition → List Made → Called
manufacture_outcome e ms = settled (blank e) (made_unit e ms) (lowest (rows_of_record (well_formed (made_unit e ms))))

-- ---- EPC

abbrev pub epc_rows : Unit → Registers → List Row
epc_rows u q = rows_of_epc (well_formed u) (is_out u.out) (aborts u.edition q u.drive.records)

-- "marks stay".
abbrev pub epc_effect : Registers → Unit → Unit
epc_effect q u = with_drive (performed q u.drive) u

-- "A refusal .. returns the record as it came; 10 differs only in idle count 0."
abbrev pub epc_refused : Refusal → Unit → Unit
epc_refused r u = cond (is_same r Aborted) (rested u) u

abbrev pub epc_settled : Unit → Unit → Verdict → Called
epc_settled u effect (Ok _) = settled u effect (Ok tt)
epc_settled u effect (Err r) = settled (epc_refused r u) effect (Err r)

unfoldable pub epc_outcome : Unit → Registers → Called
epc_outcome u q = epc_settled u (epc_effect q u) (lowest (epc_rows u q))

-- ---- ticks

abbrev pub tick_rows : Unit → List Row
tick_rows u = rows_of_record (well_formed u)

-- "A tick with no command out adds 1 to the idle count .." "A tick with a command out changes nothing."
abbrev pub tick_effect : Unit → Unit
tick_effect u = cond (is_out u.out) u (with_drive (ticked (largest_of u) u.drive) u)

unfoldable pub tick_outcome : Unit → Called
tick_outcome u = settled u (tick_effect u) (lowest (tick_rows u))

-- ---- the medium

abbrev pub medium_rows : Unit → ℕ → List Row
medium_rows u host = rows_of_medium host (well_formed u) (is_out u.out) u.stopped

-- "A read or write makes the unit Active, idle count 0;"
abbrev pub read_effect : Unit → Unit
read_effect u = with_drive (used u.drive) u

-- "a write also sets the unsaved mark."
abbrev pub write_effect : Unit → Unit
write_effect u = with_marks u.stopped true (read_effect u)

unfoldable pub read_outcome : Unit → ℕ → Called
read_outcome u host = settled u (read_effect u) (lowest (medium_rows u host))

unfoldable pub write_outcome : Unit → ℕ → Called
write_outcome u host = settled u (write_effect u) (lowest (medium_rows u host))

-- ---- resets

abbrev pub reset_rows : Unit → List Row
reset_rows u = rows_of_record (well_formed u)

-- "Power-on: current becomes saved for all five; Active; idle count 0; no operation, command out, deferred sense, stopped or unsaved mark."
abbrev pub power_on_effect : Unit → Unit
power_on_effect u = without_hosts (with_marks false false (with_drive (powered_on u.drive) u))

unfoldable pub power_on_outcome : Unit → Called
power_on_outcome u = settled u (power_on_effect u) (lowest (reset_rows u))

-- "Hardware and software reset (001: condition kept): settings, condition, stopped and unsaved marks stay; idle count 0; operations, command
-- out and deferred senses go." Document 02, request (i): "Resets keep the counts".
abbrev pub hard_reset_effect : Unit → Unit
hard_reset_effect u = without_hosts (rested u)

unfoldable pub reset_outcome : Unit → Called
reset_outcome u = settled u (hard_reset_effect u) (lowest (reset_rows u))
