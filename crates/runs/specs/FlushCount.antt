-- The flush count of the end report, as a definition that a step function meets or not.
use Rattle.std.specs.Prelude.{true, ◌≡◌, List, ◌∷◌, ℕ}
use Rattle.unit.specs.Units.{slot_of, well_formed}
use Rattle.requests.specs.declared.Request.{Request}
use Rattle.unit.specs.declared.Slot.TheVariants.{Waiting}
use Rattle.unit.specs.declared.Unit.{Unit}
use Rattle.operations.specs.Operations.{flushes_of}
use Rattle.requests.specs.declared.Reply.{Reply}
use Rattle.operations.specs.declared.Report.{Report}
use Rattle.calls.specs.Calls.{Call, answer, StepFunction, run_by}
use Rattle.runs.specs.Deeds.{ends, deed_of}
use Rattle.runs.specs.Past.{past_by, flushes_answered, held_at255}
use Rattle.runs.specs.Serial.{nothing_waits}

-- "The end report also carries the number of flushes answered, good and bad, for that operation, which stays at 255 once reached.", and a waiting
-- request has "its count of answered flushes as progress": over any run from a well-formed record with nothing waiting, a waiting operation's progress is
-- the count of the past, and if the next call ends it, its report's count is that of the past with this answer.
abbrev pub FlushCount : StepFunction → Type 0
FlushCount by = (u : Unit) (cs : List Call) (host : ℕ) → well_formed u ≡ true → nothing_waits u ≡ true
    → let past = past_by by u cs in
    ((q : Request) → slot_of (run_by by u cs).slots host ≡ Waiting q → flushes_of q.stage ≡ held_at255 (flushes_answered host past))
    × ((reply : Reply) (report : Report) → deed_of (answer host reply) (by (run_by by u cs) (answer host reply)).said ≡ ends host reply report
    → report.flushes ≡ held_at255 (flushes_answered host (ends host reply report ∷ past)))
