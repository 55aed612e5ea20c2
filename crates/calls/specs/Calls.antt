-- A call, its whole outcome, and runs of calls. The outcomes are the very definitions that the public calls promise.
use Rattle.std.specs.Prelude.{List, [], ◌∷◌, ℕ, Result}
use Rattle.registers.specs.declared.Registers.{Registers}
use Rattle.outcomes.specs.declared.Called.{Called}
use Rattle.readouts.specs.Readouts.{Filled, sense_outcome, log_outcome, transitions_outcome, new_page_outcome}
use Rattle.engine.specs.Engine.{epc_outcome, tick_outcome, read_outcome, write_outcome, power_on_outcome, reset_outcome}
use Rattle.unit.specs.declared.Unit.{Unit}
use Rattle.bridge.specs.Bridge.{start_stop_outcome}
use Rattle.exchange.specs.Exchange.{next_outcome, answer_outcome}
use Rattle.requests.specs.declared.Reply.{Reply}
use Rattle.operations.specs.declared.Acceptance.{Acceptance}
use Rattle.operations.specs.declared.Progress.{Progress}
use Rattle.refusals.specs.Refusals.{Verdict}
use Rattle.refusals.specs.declared.Refusal.{Refusal}

-- The calls on a unit, with what each is handed: registers, a host, a CDB, the drive's answer, a page's number, a lent buffer as it came.
pub data Call : Type 0 where
  set_features : Registers → Call
  tick : Call
  read : ℕ → Call
  write : ℕ → Call
  power_on : Call
  hard_reset : Call
  soft_reset : Call
  start_stop : ℕ → List ℕ → Call
  next : ℕ → Call
  answer : ℕ → Reply → Call
  request_sense : ℕ → List ℕ → Call
  log_page : List ℕ → Call
  transitions_page : List ℕ → Call
  new_page : ℕ → List ℕ → Call

-- What a call says, in the words of its own answer.
pub data Said : Type 0 where
  plain : Verdict → Said
  accepted : Result Acceptance Refusal → Said
  sent : Result Registers Refusal → Said
  progressed : Result Progress Refusal → Said

-- The whole outcome: answer, record, and the lent buffer at exit (empty for a call that is lent none).
pub record Outcome : Type 0 where
  pub said : Said
  pub unit : Unit
  pub buffer : List ℕ

-- A call that says whether it was done and is lent nothing; one that is lent a buffer.
abbrev pub plainly : Called → Outcome
plainly c = record { said = plain c.answer; unit = c.unit; buffer = [] }

abbrev pub into_buffer : Filled → Outcome
into_buffer f = record { said = plain f.called.answer; unit = f.called.unit; buffer = f.buffer }

abbrev pub outcome : Unit → Call → Outcome
outcome u (set_features q) = plainly (epc_outcome u q)
outcome u tick = plainly (tick_outcome u)
outcome u (read host) = plainly (read_outcome u host)
outcome u (write host) = plainly (write_outcome u host)
outcome u power_on = plainly (power_on_outcome u)
outcome u hard_reset = plainly (reset_outcome u)
outcome u soft_reset = plainly (reset_outcome u)
outcome u (start_stop host cdb) =
    record { said = accepted (start_stop_outcome u host cdb).answer; unit = (start_stop_outcome u host cdb).unit; buffer = [] }
outcome u (next host) = record { said = sent (next_outcome u host).answer; unit = (next_outcome u host).unit; buffer = [] }
outcome u (answer host reply) =
    record { said = progressed (answer_outcome u host reply).answer; unit = (answer_outcome u host reply).unit; buffer = [] }
outcome u (request_sense host buffer) = into_buffer (sense_outcome u host buffer)
outcome u (log_page buffer) = into_buffer (log_outcome u buffer)
outcome u (transitions_page buffer) = into_buffer (transitions_outcome u buffer)
outcome u (new_page number buffer) = into_buffer (new_page_outcome u number buffer)

-- A step function: what a call on a record comes to. The layer's is `outcome`; a wrong program has another.
abbrev pub StepFunction : Type 0
StepFunction = Unit → Call → Outcome

-- One call after the other, by a step function: each on the record that the one before it left.
abbrev pub run_by : StepFunction → Unit → List Call → Unit
run_by by u [] = u
run_by by u (c ∷ cs) = run_by by (by u c).unit cs

-- The history of a run: each call with its outcome, first call first.
pub record Event : Type 0 where
  pub call : Call
  pub came : Outcome

abbrev pub history_by : StepFunction → Unit → List Call → List Event
history_by by u [] = []
history_by by u (c ∷ cs) = record { call = c; came = by u c } ∷ history_by by (by u c).unit cs

-- The layer's own step, run and history.
abbrev pub step : Unit → Call → Unit
step u c = (outcome u c).unit

abbrev pub run : Unit → List Call → Unit
run = run_by outcome

abbrev pub history : Unit → List Call → List Event
history = history_by outcome
