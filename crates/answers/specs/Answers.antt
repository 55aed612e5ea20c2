-- The format page, "Calls": what each call leaves of the unit, and the pieces of the line that it prints. Assumes nothing.
use Rattle.std.specs.Result.{is_ok}
use Rattle.std.specs.Prelude.{cond, List, [], ◌∷◌, map, ℕ, zero, suc, replicate, Ok}
use Rattle.drive.specs.Drives.{maker_of}
use Rattle.readouts.specs.Readouts.{Filled, sense_outcome, log_outcome, new_page_outcome, transitions_outcome}
use Rattle.engine.specs.Engine.{manufacture_outcome, epc_outcome, tick_outcome, read_outcome, write_outcome, power_on_outcome, reset_outcome}
use Rattle.outcomes.specs.declared.Called.{Called}
use Rattle.unit.specs.declared.Unit.{Unit}
use Rattle.bridge.specs.Bridge.{start_stop_outcome}
use Rattle.exchange.specs.Exchange.{next_outcome, answer_outcome}
use Rattle.exchange.specs.declared.Asked.{Asked}
use Rattle.exchange.specs.declared.Replied.{Replied}
use Rattle.bridge.specs.declared.StartStopped.{StartStopped}
use Rattle.digits.specs.Numerals.{bytes_text}
use Rattle.digits.specs.Sheets.{line_text}
use Rattle.digits.specs.Texts.{cut}
use Rattle.asked.specs.Lengths.{buffer_length}
use Rattle.asked.specs.declared.CallLine.{CallLine}
use Rattle.asked.specs.declared.CallLine.TheVariants.{Plain, StartStop, Next, Answer as AnswerCall, Sense, Log, Transitions as TransitionsCall, NewPage, PageFaults, PageRecord}
use Rattle.asked.specs.declared.PlainCall.{PlainCall}
use Rattle.asked.specs.declared.PlainCall.TheVariants.{Tick, Epc, Read, Write, PowerOn, HardReset, SoftReset}
use Rattle.commands.specs.Commands.{cdb_in}
use Rattle.words.specs.Lines.{line_in}
use Rattle.answers.specs.declared.Page.{Page}
use Rattle.answers.specs.declared.Page.TheVariants.{Conditions, Transitions, Descriptors}
use Rattle.findings.specs.Findings.{faults_pieces, record_pieces}
use Rattle.phrases.specs.Phrases.{called_text, accepted_text, sent_text, progress_text, before_bytes}
use Rattle.refusals.specs.Refusals.{Verdict}

-- The unit after a call, and what is printed, piece by piece.
pub record CallResponse : Type 0 where
  pub unit : Unit
  pub pieces : List (List ℕ)

-- "Each command prints exactly one line".
abbrev pub one_line : Unit → List ℕ → CallResponse
one_line u text = record { unit = u; pieces = line_text text ∷ [] }

abbrev pub called_response : Called → CallResponse
called_response c = one_line c.unit (called_text c.answer)

-- `tick N`: "N single ticks"; "stops at the first refusal and prints it; `tick 0` makes no call and prints `ok`".
unfoldable pub ticks_after : ℕ → Called → Called
ticks_after zero c = c
ticks_after (suc n) c = cond (is_ok c.answer) (ticks_after n (tick_outcome c.unit)) c

abbrev pub ticks : ℕ → Unit → Called
ticks n u = ticks_after n (record { answer = Ok tt; unit = u })

-- `tick`, `epc`, `read`, `write`, `reset`.
abbrev pub plain_outcome : Unit → PlainCall → Called
plain_outcome u (Tick n) = ticks n u
plain_outcome u (Epc q) = epc_outcome u q
plain_outcome u (Read host) = read_outcome u host
plain_outcome u (Write host) = write_outcome u host
plain_outcome u PowerOn = power_on_outcome u
plain_outcome u HardReset = reset_outcome u
plain_outcome u SoftReset = reset_outcome u

-- `sense H LEN`, `log LEN`, `trans LEN`, `page P LEN`: "into LEN bytes, all A5 before".
abbrev pub unfilled : ℕ → List ℕ
unfilled len = replicate (buffer_length len) 0xA5

abbrev pub filled_pieces : Verdict → List ℕ → List (List ℕ)
filled_pieces a buffer = cut (before_bytes a) ∷ bytes_text buffer ∷ line_text [] ∷ []

abbrev pub filled_response : Filled → CallResponse
filled_response f = record { unit = f.called.unit; pieces = filled_pieces f.called.answer f.buffer }

-- `log LEN`: "log page"; `trans LEN`: "page 1Ah .. answered like `log`"; `page P LEN`: "answered like `log`".
abbrev pub page_outcome : Page → Unit → List ℕ → Filled
page_outcome Conditions u buffer = log_outcome u buffer
page_outcome Transitions u buffer = transitions_outcome u buffer
page_outcome (Descriptors number) u buffer = new_page_outcome u number buffer

abbrev pub start_stop_response : StartStopped → CallResponse
start_stop_response s = one_line s.unit (accepted_text s.answer)

abbrev pub next_response : Asked → CallResponse
next_response a = one_line a.unit (sent_text a.answer)

abbrev pub answer_response : Replied → CallResponse
answer_response a = one_line a.unit (progress_text a.answer)

-- Each call with its outcome; START STOP UNIT's bytes, and the pairs of another maker's page, are those of the line itself.
unfoldable pub call_response : Unit → CallLine → List ℕ → CallResponse
call_response u (Plain call) text = called_response (plain_outcome u call)
call_response u (StartStop host) text = start_stop_response (start_stop_outcome u host (cdb_in (line_in text)))
call_response u (Next host) text = next_response (next_outcome u host)
call_response u (AnswerCall host reply) text = answer_response (answer_outcome u host reply)
call_response u (Sense host len) text = filled_response (sense_outcome u host (unfilled len))
call_response u (Log len) text = filled_response (page_outcome Conditions u (unfilled len))
call_response u (TransitionsCall len) text = filled_response (page_outcome Transitions u (unfilled len))
call_response u (NewPage number len) text = filled_response (page_outcome (Descriptors number) u (unfilled len))
call_response u (PageFaults len) text = record { unit = u; pieces = faults_pieces len text }
call_response u (PageRecord c len) text = record { unit = u; pieces = record_pieces c len text }

-- `make`, at its `end`: "manufacture; prints `ok`, or `refused 3 -` and the record stays as it was".
abbrev pub replaced_by : Called → Unit → Unit
replaced_by c u = cond (is_ok c.answer) c.unit u

-- It is asked for the edition that is planned, with what the maker says of each condition.
abbrev pub planned_outcome : Unit → Called
planned_outcome planned = manufacture_outcome planned.edition (map maker_of planned.drive.records)

abbrev pub made_response : Unit → Unit → CallResponse
made_response u planned = one_line (replaced_by (planned_outcome planned) u) (called_text (planned_outcome planned).answer)
