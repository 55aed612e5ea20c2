-- No answer lost: what becomes of an accepted START STOP UNIT, and of a failure that is held. Told by the deeds that follow it, first first.
use Rattle.std.specs.Prelude.{Bool, true, false, not, ◌&&◌, ◌||◌, cond, ◌≡◌, List, [], ◌∷◌, ℕ, suc, ◌+◌, eqb, Ok, Some, None, Option}
use Rattle.rows.specs.Rows.{every_at}
use Rattle.senses.specs.Senses.{sense_bytes}
use Rattle.senses.specs.declared.Sense.{Sense}
use Rattle.unit.specs.Units.{slot_of, held_of, well_formed}
use Rattle.requests.specs.declared.Request.{Request}
use Rattle.unit.specs.declared.Slot.{Slot}
use Rattle.unit.specs.declared.Slot.TheVariants.{Waiting}
use Rattle.unit.specs.declared.Unit.{Unit}
use Rattle.cdb.specs.Cdb.{immed, wanted}
use Rattle.operations.specs.Operations.{is_good}
use Rattle.operations.specs.declared.Acceptance.TheVariants.{GoodDue, Pending}
use Rattle.requests.specs.declared.Reply.{Reply}
use Rattle.requests.specs.declared.Reply.TheVariants.{Bad}
use Rattle.requests.specs.declared.Target.TheVariants.{Stop, Start, GoTo}
use Rattle.operations.specs.declared.Report.{Report}
use Rattle.operations.specs.declared.Status.{Status}
use Rattle.operations.specs.declared.Status.TheVariants.{NoStatus, GoodStatus, CheckCondition}
use Rattle.calls.specs.Calls.{Call, start_stop, answer, request_sense, Said, accepted, StepFunction, run_by, history_by}
use Rattle.calls.specs.Described.{is_reset, is_sense_of}
use Rattle.runs.specs.Deeds.{Deed, begins, ends, does, if_begins, if_ends, does_a, deed_of, deeds}
use Rattle.requests.specs.declared.Target.{Target}

-- ---- an accepted START STOP UNIT of host k

-- An end report of this host.
abbrev pub ends_for : ℕ → Deed → Bool
ends_for k = if_ends (λ host reply report. eqb host k) false

-- Another START STOP UNIT of this host accepted.
abbrev pub begins_for : ℕ → Deed → Bool
begins_for k = if_begins (λ host cdb. eqb host k) false

-- Neither of the two, and no reset.
abbrev pub leaves_open : ℕ → Deed → Bool
leaves_open k d = not (begins_for k d) && not (ends_for k d) && not (does_a is_reset d)

-- How many end reports it has: those of its host until the host's next START STOP UNIT is accepted.
abbrev pub end_reports : ℕ → List Deed → ℕ
end_reports k [] = 0
end_reports k (d ∷ ds) = cond (begins_for k d) 0 (cond (ends_for k d) (suc (end_reports k ds)) (end_reports k ds))

-- It was taken by a reset: one comes while it is still open.
abbrev pub taken_by_reset : ℕ → List Deed → Bool
taken_by_reset k [] = false
taken_by_reset k (d ∷ ds) = does_a is_reset d || (leaves_open k d && taken_by_reset k ds)

-- As the history tells it, it still waits: no end report and no reset came, and no other START STOP UNIT of its host took its place.
abbrev pub still_open : ℕ → List Deed → Bool
still_open k [] = true
still_open k (d ∷ ds) = leaves_open k d && still_open k ds

abbrev pub one_if : Bool → ℕ
one_if true = 1
one_if false = 0

-- How many of the three befall it, each end report counted.
abbrev pub fates : ℕ → List Deed → ℕ
fates k ds = end_reports k ds + one_if (taken_by_reset k ds) + one_if (still_open k ds)

-- ---- a held failure of host k

-- A sense in an end report with no status: with IMMED 1 "a failure is held as the host's deferred sense".
abbrev pub is_deferred : Status → Option Sense → Bool
is_deferred NoStatus None = false
is_deferred NoStatus (Some s) = true
is_deferred GoodStatus due = false
is_deferred CheckCondition due = false

-- An end report of this host whose failure is held.
abbrev pub defers_for : ℕ → Deed → Bool
defers_for k = if_ends (λ host reply report. eqb host k && is_deferred report.status report.sense) false

-- The host's held sense stays through these: no newer failure of its own is held, no reset, no REQUEST SENSE of its own is accepted.
abbrev pub keeps_held : ℕ → Deed → Bool
keeps_held k d = not (defers_for k d) && not (does_a is_reset d) && not (does_a (is_sense_of (λ host. eqb host k)) d)

-- ---- the statements, of any step function

-- What the call comes to.
abbrev pub deed_by : StepFunction → Unit → Call → Deed
deed_by by u c = deed_of c (by u c).said

-- The deeds that follow the call c, and the record that they leave, where the calls cs come after it.
abbrev pub deeds_after : StepFunction → Unit → Call → List Call → List Deed
deeds_after by u c cs = deeds (history_by by (by u c).unit cs)

abbrev pub unit_after : StepFunction → Unit → Call → List Call → Unit
unit_after by u c cs = run_by by (by u c).unit cs

-- In the slot waits what the CDB asked for: an operation with its target and its IMMED.
abbrev pub WaitsAs : List ℕ → Slot → Type 0
WaitsAs cdb s = (q : Request) × (s ≡ Waiting q) × (wanted cdb ≡ Some q.target) × (immed cdb ≡ q.immed)

-- Each accepted START STOP UNIT has exactly one end report, or was taken by a reset, or still waits at the end: one of the three befalls it, and what
-- still waits by the history does wait in the record.
abbrev pub OneFate : StepFunction → Type 0
OneFate by = (u : Unit) (host : ℕ) (cdb : List ℕ) (cs : List Call) → well_formed u ≡ true → deed_by by u (start_stop host cdb) ≡ begins host cdb
    → let later = deeds_after by u (start_stop host cdb) cs in
    (fates host later ≡ 1) × (still_open host later ≡ true → WaitsAs cdb (slot_of (unit_after by u (start_stop host cdb) cs).slots host))

-- The last answer makes it fail: "Bad flush: .. operation over, failed", "Bad last command: .. failed", and by document 02, request (ii), "a bad
-- verify fails the start".
abbrev pub fails : Reply → Bool
fails reply = not (is_good reply)

-- The sense that it then has, by what the CDB asks for: "Failure is ABORTED COMMAND, COMMAND SEQUENCE ERROR (0B/2C/00)"; of a start, by request (ii),
-- "NOT READY, 02/04/02".
abbrev pub sequence_error : Sense
sequence_error = record { key = 0x0B; asc = 0x2C; ascq = 0x00 }

abbrev pub not_ready : Sense
not_ready = record { key = 0x02; asc = 0x04; ascq = 0x02 }

abbrev pub sense_for : Option Target → Sense
sense_for None = sequence_error
sense_for (Some Stop) = sequence_error
sense_for (Some Start) = not_ready
sense_for (Some (GoTo c)) = sequence_error

-- What the acceptance and the end report say, by the CDB and the last answer: the status comes with one of them, a failure with its sense.
pub record ReportsAs (cdb : List ℕ) (reply : Reply) (said : Said) (report : Report) : Type 0 where
  -- "With IMMED 1, GOOD is due on acceptance"
  pub acceptance : said ≡ accepted (Ok (cond (immed cdb) GoodDue Pending))
  -- "With IMMED 0 the status comes with the last answer."
  pub status : report.status ≡ cond (immed cdb) NoStatus (cond (fails reply) CheckCondition GoodStatus)
  -- a failure has its sense, what went well has none
  pub sense : report.sense ≡ cond (fails reply) (Some (sense_for (wanted cdb))) None

-- The end report of what was still open.
abbrev pub EndReported : StepFunction → Type 0
EndReported by = (u : Unit) (host : ℕ) (cdb : List ℕ) (cs : List Call) (reply : Reply) (report : Report)
    → well_formed u ≡ true → deed_by by u (start_stop host cdb) ≡ begins host cdb
    → still_open host (deeds_after by u (start_stop host cdb) cs) ≡ true
    → deed_by by (unit_after by u (start_stop host cdb) cs) (answer host reply) ≡ ends host reply report
    → ReportsAs cdb reply (by u (start_stop host cdb)).said report

-- A sense in an end report without a status is what the host's next accepted REQUEST SENSE gives, as a deferred one, and once: after that the host
-- holds nothing.
abbrev pub HeldTold : StepFunction → Type 0
HeldTold by = (u : Unit) (host : ℕ) (reply : Reply) (report : Report) (s : Sense) (cs : List Call) (buffer : List ℕ)
    → well_formed u ≡ true → deed_by by u (answer host reply) ≡ ends host reply report → report.status ≡ NoStatus → report.sense ≡ Some s
    → every_at (λ at d. keeps_held host d) 0 (deeds_after by u (answer host reply) cs) ≡ true
    → let w = unit_after by u (answer host reply) cs in
    deed_by by w (request_sense host buffer) ≡ does (request_sense host buffer)
    → ((by w (request_sense host buffer)).buffer ≡ sense_bytes true s) × (held_of (by w (request_sense host buffer)).unit.held host ≡ None)

-- A failure with IMMED is what that host's next accepted REQUEST SENSE gives, unless a newer failure or a reset came between: a START STOP UNIT
-- accepted with IMMED 1; its last answer, which is bad; nothing that takes the held sense; the bytes of the failure.
abbrev pub FailureTold : StepFunction → Type 0
FailureTold by = (u : Unit) (host : ℕ) (cdb : List ℕ) (cs : List Call) (report : Report) (later : List Call) (buffer : List ℕ)
    → well_formed u ≡ true → deed_by by u (start_stop host cdb) ≡ begins host cdb → immed cdb ≡ true
    → still_open host (deeds_after by u (start_stop host cdb) cs) ≡ true
    → let v = unit_after by u (start_stop host cdb) cs in
    deed_by by v (answer host Bad) ≡ ends host Bad report
    → every_at (λ at d. keeps_held host d) 0 (deeds_after by v (answer host Bad) later) ≡ true
    → let w = unit_after by v (answer host Bad) later in
    deed_by by w (request_sense host buffer) ≡ does (request_sense host buffer)
    → (by w (request_sense host buffer)).buffer ≡ sense_bytes true (sense_for (wanted cdb))
