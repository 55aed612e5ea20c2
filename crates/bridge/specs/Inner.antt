-- Names for what inner functions promise. Nothing outside this crate cites them.
use Rattle.std.specs.Prelude.{Bool, List, ℕ, Ok, Err, Some, None, Option, Result}
use Rattle.unit.specs.declared.Slot.{Slot}
use Rattle.unit.specs.declared.Slot.TheVariants.{Empty, Waiting}
use Rattle.cdb.specs.Cdb.{request_for}
use Rattle.operations.specs.Operations.{accepted_as}
use Rattle.operations.specs.declared.Acceptance.{Acceptance}
use Rattle.refusals.specs.Refusals.{Verdict}
use Rattle.refusals.specs.declared.Refusal.{Refusal}
use Rattle.requests.specs.declared.Target.{Target}

-- What a CDB puts into the host's slot, if it is listed.
abbrev pub slot_for : Option Target → List ℕ → Slot
slot_for None cdb = Empty
slot_for (Some t) cdb = Waiting (request_for t cdb)

-- The verdict's answer.
abbrev pub acceptance_of : Verdict → Bool → Result Acceptance Refusal
acceptance_of (Ok _) immediate = Ok (accepted_as immediate)
acceptance_of (Err r) immediate = Err r
