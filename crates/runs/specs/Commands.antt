-- The commands that hosts are handed, told by the CDB that the history has for each.
use Rattle.std.specs.Prelude.{true, ◌≡◌, List, ◌⊎◌, ℕ, Some}
use Rattle.registers.specs.declared.Registers.{Registers}
use Rattle.unit.specs.Units.{well_formed}
use Rattle.requests.specs.declared.Target.{Target}
use Rattle.unit.specs.declared.Unit.{Unit}
use Rattle.cdb.specs.Cdb.{wanted}
use Rattle.operations.specs.Operations.{registers_of, last_of}
use Rattle.operations.specs.declared.Due.TheVariants.{Flush}
use Rattle.calls.specs.Calls.{Call, next, StepFunction, run_by}
use Rattle.runs.specs.Deeds.{hands_out, deed_of}
use Rattle.runs.specs.Past.{past_by, cdb_of}
use Rattle.runs.specs.Serial.{nothing_waits}
use Rattle.runs.specs.Safe.{asks_flush}

-- A flush, where the CDB asks for one, or the last command of what the CDB asks for.
abbrev pub AskedFor : List ℕ → Registers → Type 0
AskedFor cdb q = ((asks_flush cdb ≡ true) × (q ≡ registers_of Flush)) ⊎ ((t : Target) × (wanted cdb ≡ Some t) × (q ≡ registers_of (last_of t)))

-- Whatever a host is handed is asked for by the CDB of its operation: over any run from a well-formed record with nothing waiting.
abbrev pub CommandsSent : StepFunction → Type 0
CommandsSent by = (u : Unit) (cs : List Call) (host : ℕ) (q : Registers) → well_formed u ≡ true → nothing_waits u ≡ true
    → deed_of (next host) (by (run_by by u cs) (next host)).said ≡ hands_out host q → AskedFor (cdb_of host (past_by by u cs)) q
