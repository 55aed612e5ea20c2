-- The format page, "Calls": the line that each answer prints. Assumes nothing.
use Rattle.std.specs.Prelude.{List, [], ◌++◌, ℕ, Ok, Err, Some, None, Option, Result}
use Prim.Native.Char.{code}
use Rattle.registers.specs.declared.Registers.{Registers}
use Rattle.senses.specs.declared.Sense.{Sense}
use Rattle.refusals.specs.Refusals.{number_of, sense_of}
use Rattle.refusals.specs.declared.Refusal.{Refusal}
use Rattle.operations.specs.declared.Acceptance.{Acceptance}
use Rattle.operations.specs.declared.Acceptance.TheVariants.{GoodDue, Pending}
use Rattle.operations.specs.declared.Progress.{Progress}
use Rattle.operations.specs.declared.Progress.TheVariants.{More, Ended}
use Rattle.operations.specs.declared.Report.{Report}
use Rattle.operations.specs.declared.Status.{Status}
use Rattle.operations.specs.declared.Status.TheVariants.{NoStatus, GoodStatus, CheckCondition}
use Rattle.words.specs.Codes.{codes}
use Rattle.digits.specs.Numerals.{decimal_text}
use Rattle.digits.specs.Pieces.{number_word, sense_text}
use Rattle.refusals.specs.Refusals.{Verdict}

-- "A refusal of any call: `refused NUM SENSE`, NUM in decimal, SENSE `KK/AA/QQ` or `-`."
abbrev pub slashed_text : Sense → List ℕ
slashed_text s = sense_text (code " ") (code "/") s.key s.asc s.ascq

abbrev pub due_text : Option Sense → List ℕ
due_text None = codes " -"
due_text (Some s) = slashed_text s

abbrev pub refused_text : Refusal → List ℕ
refused_text r = codes "refused " ++ decimal_text (number_of r) ++ due_text (sense_of r)

-- `tick`, `epc`, `read`, `write`, `reset`.
abbrev pub called_text : Verdict → List ℕ
called_text (Ok _) = codes "ok"
called_text (Err r) = refused_text r

-- `ssu`: "`ok good` (IMMED 1: GOOD due now) or `ok pending`".
abbrev pub accepted_text : Result Acceptance Refusal → List ℕ
accepted_text (Ok GoodDue) = codes "ok good"
accepted_text (Ok Pending) = codes "ok pending"
accepted_text (Err r) = refused_text r

-- `next`: "`ok CMD FEAT COUNT LBA`".
abbrev pub registers_text : Registers → List ℕ
registers_text q = number_word q.command ++ number_word q.feature ++ number_word q.count ++ number_word q.lba

abbrev pub sent_text : Result Registers Refusal → List ℕ
sent_text (Ok q) = codes "ok" ++ registers_text q
sent_text (Err r) = refused_text r

-- End lines: "`ok end good N` (IMMED 0, GOOD), `ok end fail KK/AA/QQ N` (IMMED 0, CHECK CONDITION), `ok end quiet N` (IMMED 1, went well),
-- `ok end held KK/AA/QQ N` (IMMED 1, failed, the sense is now held). N is the number of flushes answered, 0 to FF."
abbrev pub quiet_text : Option Sense → List ℕ
quiet_text None = codes "ok end quiet"
quiet_text (Some s) = codes "ok end held"

abbrev pub end_head : Status → Option Sense → List ℕ
end_head GoodStatus due = codes "ok end good"
end_head CheckCondition due = codes "ok end fail"
end_head NoStatus due = quiet_text due

abbrev pub end_sense : Option Sense → List ℕ
end_sense None = []
end_sense (Some s) = slashed_text s

abbrev pub end_text : Report → List ℕ
end_text r = end_head r.status r.sense ++ end_sense r.sense ++ number_word r.flushes

-- `answer`: "`ok more`, or an end line".
abbrev pub progress_text : Result Progress Refusal → List ℕ
progress_text (Ok More) = codes "ok more"
progress_text (Ok (Ended r)) = end_text r
progress_text (Err r) = refused_text r

-- `sense`, `log`: "`ok BYTES`"; refused, "the line goes on with ` buf BYTES`".
abbrev pub before_bytes : Verdict → List ℕ
before_bytes (Ok _) = codes "ok "
before_bytes (Err r) = refused_text r ++ codes " buf "
