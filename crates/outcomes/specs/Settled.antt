-- A call that tells no more than whether it was done: document 01, "Numbers given back".
use Rattle.std.specs.Prelude.{Ok, Err}
use Rattle.unit.specs.declared.Unit.{Unit}
use Rattle.outcomes.specs.declared.Called.{Called}
use Rattle.refusals.specs.Refusals.{Verdict}

-- The record that its effect leaves. "A refusal .. returns the record as it came".
abbrev pub settled : Unit → Unit → Verdict → Called
settled u effect (Ok _) = record { answer = Ok tt; unit = effect }
settled u effect (Err r) = record { answer = Err r; unit = u }
