-- Demand 3. The serial run is a list of calls, made from the history of the real one: each START STOP UNIT is run whole, at the place of its
-- last drive answer.
use Rattle.std.specs.Prelude.{Bool, true, not, ◌&&◌, ◌||◌, cond, ◌≡◌, List, [], ◌∷◌, ◌++◌, ℕ, eqb, Option}
use Rattle.rows.specs.Rows.{every_at}
use Rattle.drive.specs.declared.Tenths.{Tenths}
use Rattle.drive.specs.declared.Record.{Record}
use Rattle.conditions.specs.declared.Power.{Power}
use Rattle.unit.specs.Units.{is_waiting, well_formed}
use Rattle.unit.specs.declared.Unit.{Unit}
use Rattle.requests.specs.declared.Reply.{Reply}
use Rattle.calls.specs.Calls.{Call, start_stop, next, answer, StepFunction, Event, run_by, history_by, run, history}
use Rattle.calls.specs.Described.{is_reset}
use Rattle.runs.specs.Deeds.{Deed, if_begins, if_ends, if_other, if_refused, deeds}
use Rattle.runs.specs.Past.{cdb_of, answers_got}
use Rattle.requests.specs.declared.Failure.{Failure}

-- ---- the serial run

-- "an operation run whole is accepted, asked and answered with no call between."
abbrev pub asked_and_answered : ℕ → List Reply → List Call
asked_and_answered host [] = []
asked_and_answered host (reply ∷ later) = next host ∷ answer host reply ∷ asked_and_answered host later

abbrev pub whole : ℕ → List ℕ → List Reply → List Call
whole host cdb answers = start_stop host cdb ∷ asked_and_answered host answers

-- What stands in the serial run for a call of the real one. "each START STOP UNIT is run whole, at the place of its last drive answer, with the
-- answers its last flush and its last command got; ticks and the other calls keep their places, aborted power subcommands too, and other refused
-- calls are dropped."
abbrev pub in_place_of : List Deed → Deed → List Call
in_place_of past d =
    if_ends (λ host reply report. whole host (cdb_of host past) (answers_got host (d ∷ past)))
    (if_other (λ c. c ∷ []) [] d) d

abbrev pub serial_after : List Deed → List Deed → List Call
serial_after past [] = []
serial_after past (d ∷ ds) = in_place_of past d ++ serial_after (d ∷ past) ds

abbrev pub serial : List Event → List Call
serial es = serial_after [] (deeds es)

-- ---- what is taken for granted of the real run

-- "with nothing waiting", "at whose end none waits".
abbrev pub nothing_waits : Unit → Bool
nothing_waits u = every_at (λ host s. not (is_waiting s)) 0 u.slots

-- "in which no reset falls while an operation waits".
abbrev pub resets_at_rest : StepFunction → Unit → List Call → Bool
resets_at_rest by u [] = true
resets_at_rest by u (c ∷ cs) = (not (is_reset c) || nothing_waits u) && resets_at_rest by (by u c).unit cs

-- ---- what is compared

-- "the settings, power condition and its cause, idle count, stopped mark, unsaved mark and held deferred senses": the settings in the five records,
-- with what the maker said of each condition. "What hosts are told halfway is not compared." Nor are slots and what is out: none waits in either
-- run. Nor are the transition counts: "Demand 3 does not compare them." (document 02, request (i); a run in which they differ: WrongCounts · counts_differ).
-- Nor is the edition: no call changes it (calls/Editions · edition_kept).
pub record Compared : Type 0 where
  pub settings : List Record
  pub power : Power
  pub idle : Tenths
  pub stopped : Bool
  pub unsaved : Bool
  pub held : List (Option Failure)

abbrev pub compared : Unit → Compared
compared u = record {
  settings = u.drive.records;
  power = u.drive.power;
  idle = u.drive.idle;
  stopped = u.stopped;
  unsaved = u.unsaved;
  held = u.held;
}

-- ---- the demand

-- "Take any run of calls by the four hosts from any well-formed record with nothing waiting, in which no reset falls while an operation waits and
-- at whose end none waits. Then the settings, power condition and its cause, idle count, stopped mark, unsaved mark and held deferred senses are
-- those that demand 2 gives" for the serial run. The real run is any step function's; demand 2 is `outcome`, and `run` is its run.
abbrev pub Demand3 : StepFunction → Type 0
Demand3 by = (u : Unit) (cs : List Call) → well_formed u ≡ true → nothing_waits u ≡ true → resets_at_rest by u cs ≡ true
    → nothing_waits (run_by by u cs) ≡ true → compared (run_by by u cs) ≡ compared (run u (serial (history_by by u cs)))

-- ---- what else is said of the serial run

-- What each deed gives, one after the other.
abbrev pub gather : {A : Type 0} → (Deed → List A) → List Deed → List A
gather f [] = []
gather f (d ∷ ds) = f d ++ gather f ds

-- A call refused with another number than 10.
abbrev pub refused_in : Deed → List Call
refused_in = if_refused (λ c. c ∷ []) []

-- A call other than START STOP UNIT, next and answer that was accepted or aborted, with which of the two it was.
abbrev pub other_in : Deed → List Deed
other_in d = if_other (λ c. d ∷ []) [] d

-- The CDB of this host's accepted START STOP UNIT.
abbrev pub begun_in : ℕ → Deed → List (List ℕ)
begun_in k = if_begins (λ host cdb. cond (eqb host k) (cdb ∷ []) []) []

-- The host of an accepted START STOP UNIT.
abbrev pub beginner_in : Deed → List ℕ
beginner_in = if_begins (λ host cdb. host ∷ []) []

-- The host of a last drive answer.
abbrev pub ender_in : Deed → List ℕ
ender_in = if_ends (λ host reply report. host ∷ []) []

-- A place in a run: another call, as it was, or an operation of this host.
pub data Place : Type 0 where
  other_call : Deed → Place
  operation : ℕ → Place

-- In the real run an operation's place is that of its last drive answer,
abbrev pub real_place : Deed → List Place
real_place d = if_ends (λ host reply report. operation host ∷ []) (if_other (λ c. other_call d ∷ []) [] d) d

-- in the serial run that of its START STOP UNIT.
abbrev pub serial_place : Deed → List Place
serial_place d = if_begins (λ host cdb. operation host ∷ []) (if_other (λ c. other_call d ∷ []) [] d) d

-- The deeds of a real run beside those of its serial run.
pub record Serialises (real serially : List Deed) : Type 0 where
  -- No call of the serial list is refused, but for the aborts.
  pub none_refused : gather refused_in serially ≡ []
  -- Its calls other than START STOP UNIT, next and answer are the real run's accepted such calls and aborts, in order.
  pub same_others : gather other_in serially ≡ gather other_in real
  -- Its START STOP UNITs are the accepted pairs of host and CDB, one each: host by host the same CDBs, in the same order,
  pub one_each : (host : ℕ) → gather (begun_in host) serially ≡ gather (begun_in host) real
  -- and all hosts together in the order of their last answers. (A host has one operation at a time, so this says which pair stands where.)
  pub in_order : gather beginner_in serially ≡ gather ender_in real
  -- Among the other calls each stands at the place of its last drive answer. (`same_others` and `in_order` follow from this.)
  pub in_place : gather serial_place serially ≡ gather real_place real
  -- Each is run to its end.
  pub over : gather ender_in serially ≡ gather ender_in real

-- So it is of every run that demand 3 speaks of.
abbrev pub SerialRun : StepFunction → Type 0
SerialRun by = (u : Unit) (cs : List Call) → well_formed u ≡ true → nothing_waits u ≡ true → resets_at_rest by u cs ≡ true
    → nothing_waits (run_by by u cs) ≡ true
    → Serialises (deeds (history_by by u cs)) (deeds (history u (serial (history_by by u cs))))
