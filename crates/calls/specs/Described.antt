-- One description a call: its kind, whose it is, what it is handed, the rows that it is held to, and what it leaves. Everything that is said of all calls
-- alike is read off it.
use Rattle.std.specs.Prelude.{Bool, false, ◌&&◌, ◌||◌, List, [], ℕ, eqb}
use Rattle.registers.specs.declared.Registers.{Registers}
use Rattle.refusals.specs.Refusals.{Row}
use Rattle.pages.specs.Logs.{log_bytes}
use Rattle.published.specs.Descriptors.{descriptor_page}
use Rattle.transitions.specs.Page.{transition_bytes}
use Rattle.unit.specs.Units.{slot_of, held_of}
use Rattle.unit.specs.declared.Unit.{Unit}
use Rattle.engine.specs.Engine.{epc_rows, epc_effect, tick_rows, tick_effect, medium_rows, read_effect, write_effect, reset_rows, power_on_effect, hard_reset_effect}
use Rattle.readouts.specs.Readouts.{sense_rows, told_bytes, sense_effect, log_rows, transitions_rows, counts_handed, new_page_rows}
use Rattle.cdb.specs.Cdb.{wanted}
use Rattle.registers.specs.Commands.{ata_command}
use Rattle.requests.specs.declared.Reply.TheVariants.{Good}
use Rattle.bridge.specs.Bridge.{start_stop_rows, start_stop_effect}
use Rattle.exchange.specs.Exchange.{next_rows, next_effect, answer_rows, answer_on}
use Rattle.calls.specs.Calls.{Call, set_features, tick, read, write, power_on, hard_reset, soft_reset, start_stop, next, answer, request_sense, log_page, transitions_page, new_page}

-- Whose call it is: nobody's, one host's, everybody's. No slot and no held sense changes but those of the hosts that it is of.
pub data Reach : Type 0 where
  nobody : Reach
  only : ℕ → Reach
  everybody : Reach

pub record Described : Type 0 where
  -- the kinds of calls are numbered in the order of `Call`
  pub kind : ℕ
  pub reach : Reach
  -- the registers and the bytes that it is handed, CDB or buffer, and how many bytes they must be
  pub registers : Registers
  pub bytes : List ℕ
  pub size : ℕ
  -- the number of the new page that it asks for; 0 for any other call
  pub page : ℕ
  -- the rows that it is held to, and the record that it leaves where none of them applies
  pub rows : Unit → List Row
  pub effect : Unit → Unit
  -- the buffer that it is lent, as it came, and what it then writes there
  pub lent : List ℕ
  pub writes : Unit → List ℕ

-- A call that is handed no registers and no bytes.
abbrev pub bare : ℕ → Reach → (Unit → List Row) → (Unit → Unit) → Described
bare kind reach rows effect = record {
  kind = kind;
  reach = reach;
  registers = ata_command 0 0 0 0;
  bytes = [];
  size = 0;
  page = 0;
  rows = rows;
  effect = effect;
  lent = [];
  writes = λ u. [];
}

-- One that is lent a buffer of so many bytes.
abbrev pub lending : List ℕ → ℕ → (Unit → List ℕ) → Described → Described
lending buffer size writes d = record {
  kind = d.kind;
  reach = d.reach;
  registers = d.registers;
  bytes = buffer;
  size = size;
  page = d.page;
  rows = d.rows;
  effect = d.effect;
  lent = buffer;
  writes = writes;
}

-- One that is handed registers and bytes, and is lent nothing.
abbrev pub handing : Registers → List ℕ → ℕ → Described → Described
handing q bytes size d = record {
  kind = d.kind;
  reach = d.reach;
  registers = q;
  bytes = bytes;
  size = size;
  page = d.page;
  rows = d.rows;
  effect = d.effect;
  lent = [];
  writes = d.writes;
}

-- One that asks for the new page of a number.
abbrev pub numbered : ℕ → Described → Described
numbered number d = record {
  kind = d.kind;
  reach = d.reach;
  registers = d.registers;
  bytes = d.bytes;
  size = d.size;
  page = number;
  rows = d.rows;
  effect = d.effect;
  lent = d.lent;
  writes = d.writes;
}

-- EPC, ticks and the log pages name no host; six calls are made by a host; a reset takes from all.
abbrev pub describe : Call → Described
describe (set_features q) = handing q [] 0 (bare 0 nobody (λ u. epc_rows u q) (epc_effect q))
describe tick = bare 1 nobody tick_rows tick_effect
describe (read host) = bare 2 (only host) (λ u. medium_rows u host) read_effect
describe (write host) = bare 3 (only host) (λ u. medium_rows u host) write_effect
describe power_on = bare 4 everybody reset_rows power_on_effect
describe hard_reset = bare 5 everybody reset_rows hard_reset_effect
describe soft_reset = bare 6 everybody reset_rows hard_reset_effect
describe (start_stop host cdb) =
    handing (ata_command 0 0 0 0) cdb 6 (bare 7 (only host) (λ u. start_stop_rows u host cdb) (start_stop_effect host cdb (wanted cdb)))
describe (next host) = bare 8 (only host) (λ u. next_rows u host) (next_effect host)
describe (answer host reply) =
    bare 9 (only host) (λ u. answer_rows u host) (λ u. (answer_on u host reply (slot_of u.slots host)).unit)
describe (request_sense host buffer) =
    lending buffer 18 (λ u. told_bytes u.drive.power (held_of u.held host))
    (bare 10 (only host) (λ u. sense_rows u host buffer) (sense_effect host))
describe (log_page buffer) =
    lending buffer 512 (λ u. log_bytes u.drive.records) (bare 11 nobody (λ u. log_rows u buffer) (λ u. u))
describe (transitions_page buffer) =
    lending buffer 52 (λ u. transition_bytes (counts_handed u)) (bare 12 nobody (λ u. transitions_rows u buffer) (λ u. u))
describe (new_page number buffer) =
    numbered number
    (lending buffer 512 (λ u. descriptor_page number u.drive.records) (bare 13 nobody (λ u. new_page_rows u number buffer) (λ u. u)))

-- ---- read off it

-- The rows that name the call.
abbrev pub own_rows : Unit → Call → List Row
own_rows u c = (describe c).rows u

-- The record that an accepted call leaves.
abbrev pub effect : Unit → Call → Unit
effect u c = (describe c).effect u

-- The buffer that a call is lent, as it came: empty for a call that is lent none. What an accepted call writes to it.
abbrev pub lent : Call → List ℕ
lent c = (describe c).lent

abbrev pub writes : Unit → Call → List ℕ
writes u c = (describe c).writes u

-- The two calls are of one kind, whatever they are handed.
abbrev pub same_kind : Call → Call → Bool
same_kind c d = eqb (describe c).kind (describe d).kind

-- One of the three resets.
abbrev pub is_reset : Call → Bool
is_reset c = same_kind c power_on || same_kind c hard_reset || same_kind c soft_reset

abbrev pub is_power_on : Call → Bool
is_power_on c = same_kind c power_on

abbrev pub is_write : Call → Bool
is_write c = same_kind c (write 0)

abbrev pub is_tick : Call → Bool
is_tick c = same_kind c tick

abbrev pub is_new_page : Call → Bool
is_new_page c = same_kind c (new_page 0 [])

-- "a log page read": page 1Ah and the new pages are log pages too.
abbrev pub is_log_read : Call → Bool
is_log_read c = same_kind c (log_page []) || same_kind c (transitions_page []) || is_new_page c

abbrev pub is_sense : Call → Bool
is_sense c = same_kind c (request_sense 0 [])

-- The exceptions in "every accepted call but a tick or a log page read, sets the idle count to 0", and REQUEST SENSE. Document 02, request (vii): "It
-- must no longer set the idle count to 0. Document 01's clause on accepted calls gains this exception."
abbrev pub excepted_from_restart : Call → Bool
excepted_from_restart c = is_tick c || is_log_read c || is_sense c

abbrev pub reach_of : Call → Reach
reach_of c = (describe c).reach

-- The one host passes the test.
abbrev pub of_host : (ℕ → Bool) → Reach → Bool
of_host test nobody = false
of_host test (only host) = test host
of_host test everybody = false

-- A host's call, of the kind of this one, and the host passes the test.
abbrev pub is_call_of : Call → (ℕ → Bool) → Call → Bool
is_call_of sample test c = same_kind c sample && of_host test (reach_of c)

-- The drive's answer for a host that passes the test, and REQUEST SENSE of one.
abbrev pub is_answer_for : (ℕ → Bool) → Call → Bool
is_answer_for = is_call_of (answer 0 Good)

abbrev pub is_sense_of : (ℕ → Bool) → Call → Bool
is_sense_of = is_call_of (request_sense 0 [])
