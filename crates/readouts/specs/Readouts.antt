-- The whole outcome of REQUEST SENSE and of the log pages: document 01, "Sense and log bytes", and document 02, requests (i), (vi) and (vii).
use Rattle.std.specs.Prelude.{true, false, List, ℕ, length, Ok, Err, Some, None, Option}
use Rattle.conditions.specs.declared.Power.{Power}
use Rattle.senses.specs.Senses.{sense_bytes, power_sense}
use Rattle.pages.specs.Logs.{log_bytes}
use Rattle.published.specs.Descriptors.{descriptor_page, lacks_page}
use Rattle.transitions.specs.Counts.{table_of}
use Rattle.transitions.specs.Page.{transition_bytes}
use Rattle.unit.specs.Units.{is_out, held_of, well_formed, with_held}
use Rattle.requests.specs.Requests.{failure_sense}
use Rattle.refusals.specs.Refusals.{Row, lowest}
use Rattle.refusals.specs.Verdicts.{rows_of_sense, rows_of_page, rows_of_new_page}
use Rattle.outcomes.specs.declared.Called.{Called}
use Rattle.unit.specs.declared.Unit.{Unit}
use Rattle.outcomes.specs.Settled.{settled}
use Rattle.refusals.specs.Refusals.{Verdict}
use Rattle.requests.specs.declared.Failure.{Failure}

-- ---- a lent buffer

-- What a call on a lent buffer leaves: its answer with the record, and the buffer.
pub record Filled : Type 0 where
  pub called : Called
  pub buffer : List ℕ

-- "A refusal writes to no buffer".
abbrev pub filled : Unit → Unit → List ℕ → List ℕ → Verdict → Filled
filled u effect bytes buffer (Ok _) = record { called = settled u effect (Ok tt); buffer = bytes }
filled u effect bytes buffer (Err r) = record { called = settled u effect (Err r); buffer = buffer }

-- ---- REQUEST SENSE

abbrev pub sense_rows : Unit → ℕ → List ℕ → List Row
sense_rows u host buffer = rows_of_sense (length buffer) host (well_formed u) (is_out u.out)

-- "The host's held deferred sense comes first and is then dropped (H); else key 0 with the condition".
abbrev pub told_bytes : Power → Option Failure → List ℕ
told_bytes p None = sense_bytes false (power_sense p)
told_bytes p (Some f) = sense_bytes true (failure_sense f)

-- "and is then dropped". Request (vii): "It must no longer set the idle count to 0."
abbrev pub sense_effect : ℕ → Unit → Unit
sense_effect host u = with_held host None u

unfoldable pub sense_outcome : Unit → ℕ → List ℕ → Filled
sense_outcome u host buffer =
    filled u (sense_effect host u) (told_bytes u.drive.power (held_of u.held host)) buffer (lowest (sense_rows u host buffer))

-- ---- the Power Conditions log page

abbrev pub log_rows : Unit → List ℕ → List Row
log_rows u buffer = rows_of_page 512 (length buffer) (well_formed u)

-- "Reading the log page changes no record."
unfoldable pub log_outcome : Unit → List ℕ → Filled
log_outcome u buffer = filled u u (log_bytes u.drive.records) buffer (lowest (log_rows u buffer))

-- ---- the log pages of published ACS-2

abbrev pub new_page_rows : Unit → ℕ → List ℕ → List Row
new_page_rows u number buffer = rows_of_new_page (length buffer) (well_formed u) (lacks_page u.edition number)

-- "Reading the log page changes no record."
unfoldable pub new_page_outcome : Unit → ℕ → List ℕ → Filled
new_page_outcome u number buffer = filled u u (descriptor_page number u.drive.records) buffer (lowest (new_page_rows u number buffer))

-- ---- the Power Condition Transitions log page, and the table it is made of

-- "Refusals: only 1, for a page buffer not 52 bytes, and 3."
abbrev pub transitions_rows : Unit → List ℕ → List Row
transitions_rows u buffer = rows_of_page 52 (length buffer) (well_formed u)

-- "a table of six rows of two (timer, command or use), handed over by value": a bare table has no room for a number, so it is the record's counts,
-- whatever else the record has. Any counts are well formed.
abbrev pub counts_handed : Unit → List (List ℕ)
counts_handed u = table_of u.drive.counts

-- "Reading it changes no record."
unfoldable pub transitions_outcome : Unit → List ℕ → Filled
transitions_outcome u buffer = filled u u (transition_bytes (counts_handed u)) buffer (lowest (transitions_rows u buffer))
