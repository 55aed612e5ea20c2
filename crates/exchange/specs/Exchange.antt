-- The whole outcome of a host's next command and of the drive's answer: document 01, "START STOP UNIT".
use Rattle.std.specs.Prelude.{List, ℕ, Ok, Err, Some}
use Rattle.unit.specs.Units.{slot_of, waits, is_out, is_out_for, well_formed, with_out, rested}
use Rattle.refusals.specs.Refusals.{Row, lowest}
use Rattle.refusals.specs.Verdicts.{rows_of_next, rows_of_answer}
use Rattle.operations.specs.Operations.{registers_of, due_from}
use Rattle.unit.specs.declared.Slot.{Slot}
use Rattle.unit.specs.declared.Slot.TheVariants.{Empty, Waiting}
use Rattle.refusals.specs.declared.Refusal.TheVariants.{HasNone}
use Rattle.unit.specs.declared.Unit.{Unit}
use Rattle.exchange.specs.Answered.{answered_for}
use Rattle.exchange.specs.declared.Asked.{Asked}
use Rattle.requests.specs.declared.Reply.{Reply}
use Rattle.exchange.specs.declared.Replied.{Replied}
use Rattle.refusals.specs.Refusals.{Verdict}

-- ---- the next command

abbrev pub next_rows : Unit → ℕ → List Row
next_rows u host = rows_of_next host (well_formed u) (is_out u.out) (waits u host)

-- "A host asks for its operation's next command; that command is then out until the answer, good or bad, is given."
abbrev pub next_effect : ℕ → Unit → Unit
next_effect host u = with_out (Some host) (rested u)

-- Row 5 has answered a host with none waiting.
abbrev pub next_on : Unit → ℕ → Slot → Asked
next_on u host Empty = record { answer = Err HasNone; unit = u }
next_on u host (Waiting q) = record { answer = Ok (registers_of (due_from u.unsaved q)); unit = next_effect host u }

abbrev pub next_settled : Unit → ℕ → Verdict → Asked
next_settled u host (Ok _) = next_on u host (slot_of u.slots host)
next_settled u host (Err r) = record { answer = Err r; unit = u }

unfoldable pub next_outcome : Unit → ℕ → Asked
next_outcome u host = next_settled u host (lowest (next_rows u host))

-- ---- the answer

abbrev pub answer_rows : Unit → ℕ → List Row
answer_rows u host = rows_of_answer host (well_formed u) (is_out_for host u.out)

-- A well-formed record with the host's command out has its operation in the slot.
abbrev pub answer_on : Unit → ℕ → Reply → Slot → Replied
answer_on u host reply Empty = record { answer = Err HasNone; unit = u }
answer_on u host reply (Waiting q) = answered_for u host q reply

abbrev pub answer_settled : Unit → ℕ → Reply → Verdict → Replied
answer_settled u host reply (Ok _) = answer_on u host reply (slot_of u.slots host)
answer_settled u host reply (Err r) = record { answer = Err r; unit = u }

unfoldable pub answer_outcome : Unit → ℕ → Reply → Replied
answer_outcome u host reply = answer_settled u host reply (lowest (answer_rows u host))
