-- What each call of a history came to, as far as a run is concerned: the call with what it said, and nothing of the record.
use Rattle.std.specs.Prelude.{Bool, false, cond, List, map, ℕ, Ok, Err}
use Rattle.registers.specs.declared.Registers.{Registers}
use Rattle.refusals.specs.Refusals.{is_same}
use Rattle.refusals.specs.declared.Refusal.TheVariants.{Aborted}
use Rattle.operations.specs.declared.Progress.TheVariants.{More, Ended}
use Rattle.requests.specs.declared.Reply.{Reply}
use Rattle.operations.specs.declared.Report.{Report}
use Rattle.calls.specs.Calls.{Call, set_features, tick, read, write, power_on, hard_reset, soft_reset, start_stop, next, answer, request_sense, log_page, transitions_page, new_page, Said, plain, accepted, sent, progressed, Event}
use Rattle.calls.specs.Table.{verdict_in}
use Rattle.refusals.specs.Refusals.{Verdict}

pub data Deed : Type 0 where
  -- a host's START STOP UNIT was accepted, with this CDB
  begins : ℕ → List ℕ → Deed
  -- a host was handed its operation's next command
  hands_out : ℕ → Registers → Deed
  -- the drive's answer was taken, and the operation goes on
  goes_on : ℕ → Reply → Deed
  -- the drive's answer was taken, and the operation is over: its last drive answer, with the end report
  ends : ℕ → Reply → Report → Deed
  -- another call was accepted
  does : Call → Deed
  -- a power subcommand was aborted: number 10
  was_aborted : Call → Deed
  -- a call was refused with another number
  was_refused : Call → Deed

-- ---- by the kind of deed: what deeds of one kind give, and what every other deed gives

abbrev pub if_begins {ℓ} : {A : Type ℓ} → (ℕ → List ℕ → A) → A → Deed → A
if_begins give other (begins host cdb) = give host cdb
if_begins give other (hands_out host q) = other
if_begins give other (goes_on host reply) = other
if_begins give other (ends host reply report) = other
if_begins give other (does c) = other
if_begins give other (was_aborted c) = other
if_begins give other (was_refused c) = other

abbrev pub if_hands_out {ℓ} : {A : Type ℓ} → (ℕ → Registers → A) → A → Deed → A
if_hands_out give other (begins host cdb) = other
if_hands_out give other (hands_out host q) = give host q
if_hands_out give other (goes_on host reply) = other
if_hands_out give other (ends host reply report) = other
if_hands_out give other (does c) = other
if_hands_out give other (was_aborted c) = other
if_hands_out give other (was_refused c) = other

-- The drive's answer was taken, and the operation goes on or is over.
abbrev pub if_answered {ℓ} : {A : Type ℓ} → (ℕ → Reply → A) → A → Deed → A
if_answered give other (begins host cdb) = other
if_answered give other (hands_out host q) = other
if_answered give other (goes_on host reply) = give host reply
if_answered give other (ends host reply report) = give host reply
if_answered give other (does c) = other
if_answered give other (was_aborted c) = other
if_answered give other (was_refused c) = other

abbrev pub if_ends {ℓ} : {A : Type ℓ} → (ℕ → Reply → Report → A) → A → Deed → A
if_ends give other (begins host cdb) = other
if_ends give other (hands_out host q) = other
if_ends give other (goes_on host reply) = other
if_ends give other (ends host reply report) = give host reply report
if_ends give other (does c) = other
if_ends give other (was_aborted c) = other
if_ends give other (was_refused c) = other

-- What an accepted call that is no step of an operation gives, an aborted one, a refused one; a step gives the last.
abbrev pub of_call {ℓ} : {A : Type ℓ} → (Call → A) → (Call → A) → (Call → A) → A → Deed → A
of_call did aborted refused step (begins host cdb) = step
of_call did aborted refused step (hands_out host q) = step
of_call did aborted refused step (goes_on host reply) = step
of_call did aborted refused step (ends host reply report) = step
of_call did aborted refused step (does c) = did c
of_call did aborted refused step (was_aborted c) = aborted c
of_call did aborted refused step (was_refused c) = refused c

abbrev pub if_does {ℓ} : {A : Type ℓ} → (Call → A) → A → Deed → A
if_does give other = of_call give (λ c. other) (λ c. other) other

-- A call other than START STOP UNIT, next and answer was accepted or aborted.
abbrev pub if_other {ℓ} : {A : Type ℓ} → (Call → A) → A → Deed → A
if_other give other = of_call give give (λ c. other) other

abbrev pub if_refused {ℓ} : {A : Type ℓ} → (Call → A) → A → Deed → A
if_refused give other = of_call (λ c. other) (λ c. other) give other

-- An accepted call that passes the test.
abbrev pub does_a : (Call → Bool) → Deed → Bool
does_a test = if_does test false

-- ---- what a call came to

-- START STOP UNIT, by the verdict on it.
abbrev pub beginning : ℕ → List ℕ → Verdict → Deed
beginning host cdb (Ok _) = begins host cdb
beginning host cdb (Err r) = was_refused (start_stop host cdb)

-- A host's question for its next command, by what it was told. What is no answer of the call's own kind, which only a wrong program says, counts as a
-- refusal.
abbrev pub sending : ℕ → Said → Deed
sending host (plain a) = was_refused (next host)
sending host (accepted a) = was_refused (next host)
sending host (sent (Ok q)) = hands_out host q
sending host (sent (Err r)) = was_refused (next host)
sending host (progressed p) = was_refused (next host)

-- The drive's answer, by what came of it.
abbrev pub answering : ℕ → Reply → Said → Deed
answering host reply (plain a) = was_refused (answer host reply)
answering host reply (accepted a) = was_refused (answer host reply)
answering host reply (sent n) = was_refused (answer host reply)
answering host reply (progressed (Ok More)) = goes_on host reply
answering host reply (progressed (Ok (Ended report))) = ends host reply report
answering host reply (progressed (Err r)) = was_refused (answer host reply)

-- Any other call, by the verdict on it.
abbrev pub another : Call → Verdict → Deed
another c (Ok _) = does c
another c (Err r) = cond (is_same r Aborted) (was_aborted c) (was_refused c)

abbrev pub deed_of : Call → Said → Deed
deed_of (set_features q) said = another (set_features q) (verdict_in said)
deed_of tick said = another tick (verdict_in said)
deed_of (read host) said = another (read host) (verdict_in said)
deed_of (write host) said = another (write host) (verdict_in said)
deed_of power_on said = another power_on (verdict_in said)
deed_of hard_reset said = another hard_reset (verdict_in said)
deed_of soft_reset said = another soft_reset (verdict_in said)
deed_of (start_stop host cdb) said = beginning host cdb (verdict_in said)
deed_of (next host) said = sending host said
deed_of (answer host reply) said = answering host reply said
deed_of (request_sense host buffer) said = another (request_sense host buffer) (verdict_in said)
deed_of (log_page buffer) said = another (log_page buffer) (verdict_in said)
deed_of (transitions_page buffer) said = another (transitions_page buffer) (verdict_in said)
deed_of (new_page number buffer) said = another (new_page number buffer) (verdict_in said)

-- The deeds of a history, in its order.
abbrev pub deed_in : Event → Deed
deed_in e = deed_of e.call e.came.said

abbrev pub deeds : List Event → List Deed
deeds es = map deed_in es
