-- Each wrong program is refuted by a run that is computed: the predicate it should fail is taken at that run, and one part of what it says there
-- is false. Where demand 3 does not see a wrong program, that is shown on a run, and of the one that refuses all on every run.
use Rattle.std.proofs.Common.{Ok, Err, Some, None, Option}
use mathlib.Core.Bool.{Bool, true, false, not, ◌&&◌, true≢false, false≢true}
use mathlib.Core.Path.{◌≡◌, refl, sym, ap, ◌∙◌}
use mathlib.Core.List.{List, [], ◌∷◌, ◌++◌}
use mathlib.Core.Logic.{inl, inr}
use Prim.Native.Nat.{ℕ, zero, suc}
use native.Mathlib.Omega.{arith}
use lib.ListN.{get_or, length, replicate, take, drop}
use borrow.Author.Tests.{not-true}
use Rattle.rows.proofs.Places.{and_left, and_right}
use Rattle.conditions.specs.Conditions.{depth}
use Rattle.conditions.specs.declared.Condition.TheVariants.{StandbyZ}
use Rattle.conditions.specs.declared.Cause.TheVariants.{Command}
use Rattle.drive.specs.declared.Edition.TheVariants.{Draft}
use Rattle.drive.specs.declared.Made.{Made}
use Rattle.conditions.specs.declared.Power.TheVariants.{Active, Low}
use Rattle.registers.specs.declared.Registers.{Registers}
use Rattle.unit.specs.Units.{is_waiting}
use Rattle.engine.specs.Engine.{manufacture_outcome}
use Rattle.refusals.specs.declared.Refusal.{Refusal}
use Rattle.refusals.specs.declared.Refusal.TheVariants.{BadRecord, OwnWaiting, IsStopped}
use Rattle.unit.specs.declared.Unit.{Unit}
use Rattle.requests.specs.declared.Target.{Target}
use Rattle.requests.specs.declared.Target.TheVariants.{Stop, Start, GoTo}
use Rattle.operations.specs.Operations.{registers_of, last_of}
use Rattle.operations.specs.declared.Due.TheVariants.{Flush, StandbyImmediate}
use Rattle.cdb.specs.Cdb.{wanted}
use Rattle.operations.specs.declared.Acceptance.TheVariants.{GoodDue, Pending}
use Rattle.requests.specs.declared.Reply.TheVariants.{Good, Bad}
use Rattle.calls.specs.Calls.{Call, tick, read, write, start_stop, next, answer, request_sense, Said, plain, accepted, sent, progressed, Outcome, StepFunction, outcome, run_by, history_by, run}
use Rattle.calls.specs.Examples.{*d, *e, *g19, *g20, *g49, *g50, *h, *l, *m, off, makes, fresh, idled, quiet, epc_call, Examples}
use Rattle.calls.specs.Facts.{NumberAndSense, stopped_in, number_9, Facts}
use Rattle.calls.specs.Table.{verdict_in, is_clear, Numbers}
use Rattle.calls.proofs.Numbers.{numbers_given}
use Rattle.runs.specs.Deeds.{Deed, was_refused, another, deed_of, deeds}
use Rattle.runs.specs.Serial.{serial_after, serial, nothing_waits, resets_at_rest, Compared, compared, Demand3, SerialRun}
use Rattle.runs.specs.Past.{past_by}
use Rattle.runs.specs.Safe.{latest_powered_on, latest_flushed, WroteAgo, AllSafe, last_goes_out, asks_flush, NoByteLeftBehind, MarkTells}
use Rattle.runs.specs.Reports.{OneFate, EndReported, HeldTold, FailureTold}
use Rattle.runs.specs.Idle.{IdleRestarts}
use Rattle.runs.specs.Commands.{AskedFor, CommandsSent}
use Rattle.runs.specs.FlushCount.{FlushCount}
use Rattle.runs.proofs.WrongPrograms.{flushes_once, clears_mark, early, late, lifts, writes_through, flushes_anyway, tick_starts, works_stopped, changes_nothing, keeps_power, bad_flush_saves, failure_starts, refusing, refuses_all, one_for_all, invents_count, start_parks, ends_at_flush, uncounts, owes_status, swallows, mutes, forgets, reports_twice, is_holding, drops_all_held, tells_again, is_due, always_active}
use Rattle.runs.proofs.Deeds.{Turn, starts, asks, answers, apart, turn}
use Rattle.runs.proofs.Computed.{computed}

abbrev stops : ℕ → Call
stops host = start_stop host (0x1B ∷ 0 ∷ 0 ∷ 0 ∷ 0 ∷ 0 ∷ [])

-- A new unit after a stop that went well: parked, with nothing unsaved and nothing held.
abbrev pub parked : Compared
parked = record {
  settings = replicate 5 quiet;
  power = Low StandbyZ Command;
  idle = record { 0 = 0 };
  stopped = true;
  unsaved = false;
  held = replicate 4 None;
}

-- Demand 3 on one run from the new unit: what it takes for granted of the run holds, and the real and the serial run both leave the parked unit.
abbrev pub Agrees : StepFunction → List Call → Type 0
Agrees by cs =
    (resets_at_rest by fresh cs ≡ true) × (nothing_waits (run_by by fresh cs) ≡ true)
    × (compared (run_by by fresh cs) ≡ parked)
    × (compared (run fresh (serial (history_by by fresh cs))) ≡ parked)

-- ---- "one that flushes once and skips every later flush fails example m and demand 3"

-- The command that a host is handed; 0 where it is handed none.
abbrev command_in : Said → ℕ
command_in (plain a) = 0
command_in (accepted a) = 0
command_in (sent (Ok q)) = q.command
command_in (sent (Err r)) = 0
command_in (progressed p) = 0

-- Where E7h is due again, E0h is sent.
pub flushes_once_fails_m : Examples flushes_once → ⊥
unfolding computed
flushes_once_fails_m holds = let shown : ◌≡◌ {A = ℕ} 0xE0 0xE7 = ap command_in (holds *m) in omega arith

-- Example m's run, up to the end of the stop.
abbrev write_between : List Call
write_between = stops 0 ∷ next 0 ∷ answer 0 Good ∷ write 1 ∷ next 0 ∷ answer 0 Good ∷ []

-- It stops with the write unsaved; in the serial run the write comes before the stop's flush.
pub flushes_once_fails_demand_3 : Demand3 flushes_once → ⊥
unfolding computed
flushes_once_fails_demand_3 holds =
    true≢false (ap (λ (k : Compared). k.unsaved) (holds fresh write_between refl refl refl refl))

-- The one that also clears the mark sends no second flush either,
pub clears_mark_fails_m : Examples clears_mark → ⊥
unfolding computed
clears_mark_fails_m holds = let shown : ◌≡◌ {A = ℕ} 0xE0 0xE7 = ap command_in (holds *m) in omega arith

-- but demand 3 compares marks and not the commands sent: on that same run it sees nothing.
pub clears_mark_agrees : Agrees clears_mark write_between
unfolding computed
clears_mark_agrees = (refl, refl, refl, refl)

-- ---- no byte left behind

-- What the maker asks for of the new unit.
abbrev ordered : List Made
ordered = replicate 5 (makes off)

-- At no place of the past does the test hold of the latest call.
abbrev never : (List Deed → Bool) → List Deed → Bool
never latest [] = true
never latest (d ∷ past) = not (latest (d ∷ past)) && never latest past

never_at : (latest : List Deed → Bool) → latest [] ≡ false → (past : List Deed) → never latest past ≡ true → (j : ℕ) → latest (drop j past) ≡ false
never_at latest none [] h zero = none
never_at latest none [] h (suc j) = none
never_at latest none (d ∷ past) h zero = not-true _ (and_left (not (latest (d ∷ past))) _ h)
never_at latest none (d ∷ past) h (suc j) = never_at latest none past (and_right (not (latest (d ∷ past))) _ h) j

-- A write i calls ago, and no flush sent and answered good since: not every write is safe.
unsafe_left : (past : List Deed) (i : ℕ) → WroteAgo past i → never latest_powered_on past ≡ true → never latest_flushed (take i past) ≡ true → AllSafe past → ⊥
unsafe_left past i written powered flushed all =
    let safe = all i written (λ j before. never_at latest_powered_on refl past powered j) in
    true≢false (sym safe.2 ∙ never_at latest_flushed refl (take i past) flushed safe.0)

-- A run after which a flushing operation's last command goes out over such a write.
leaves_bytes : (by : StepFunction) (cs : List Call) (i : ℕ) → let past = past_by by (manufacture_outcome Draft ordered).unit cs in
    last_goes_out past ≡ true → WroteAgo past i → never latest_powered_on past ≡ true → never latest_flushed (take i past) ≡ true → NoByteLeftBehind by → ⊥
leaves_bytes by cs i out written powered flushed holds = unsafe_left _ i written powered flushed ((holds Draft ordered cs).0 out)

-- Example m's run: the stop goes out right after the write.
abbrev goes_out : List Call
goes_out = stops 0 ∷ next 0 ∷ answer 0 Good ∷ write 1 ∷ next 0 ∷ []

pub flushes_once_leaves_bytes : NoByteLeftBehind flushes_once → ⊥
unfolding computed manufacture_outcome
flushes_once_leaves_bytes = leaves_bytes flushes_once goes_out 1 refl refl refl refl

-- What is said over the history sees the one that clears the mark too: as a go to goes out,
abbrev goes_to_idle_b : Call
goes_to_idle_b = start_stop 0 (0x1B ∷ 0 ∷ 0 ∷ 1 ∷ 0x20 ∷ 0 ∷ [])

pub clears_mark_leaves_bytes : NoByteLeftBehind clears_mark → ⊥
unfolding computed manufacture_outcome
clears_mark_leaves_bytes = leaves_bytes clears_mark (goes_to_idle_b ∷ next 0 ∷ answer 0 Good ∷ write 1 ∷ next 0 ∷ []) 1 refl refl refl refl

-- and as the stop is answered good.
pub clears_mark_parks_over_bytes : NoByteLeftBehind clears_mark → ⊥
unfolding computed manufacture_outcome
clears_mark_parks_over_bytes holds =
    unsafe_left (past_by clears_mark (manufacture_outcome Draft ordered).unit write_between) 2 refl refl refl ((holds Draft ordered write_between).1 refl)

-- The flush is sent, then the write is taken, then the flush is answered good, and the stop goes out.
pub writes_through_leaves_bytes : NoByteLeftBehind writes_through → ⊥
unfolding computed manufacture_outcome
writes_through_leaves_bytes = leaves_bytes writes_through (stops 0 ∷ next 0 ∷ write 1 ∷ answer 0 Good ∷ next 0 ∷ []) 2 refl refl refl refl

-- Host 0's stop goes out over host 2's write, since host 1's bad flush came between.
pub bad_flush_saves_leaves_bytes : NoByteLeftBehind bad_flush_saves → ⊥
unfolding computed manufacture_outcome
bad_flush_saves_leaves_bytes =
    leaves_bytes bad_flush_saves (stops 0 ∷ stops 1 ∷ next 0 ∷ answer 0 Good ∷ write 2 ∷ next 1 ∷ answer 1 Bad ∷ next 0 ∷ []) 3 refl refl refl refl

-- ---- the commands handed out

abbrev start_cdb : List ℕ
start_cdb = 0x1B ∷ 0 ∷ 0 ∷ 0 ∷ 1 ∷ 0 ∷ []

-- The command is no flush that the CDB asks for, and not the last one of any target that it asks for.
not_asked : (cdb : List ℕ) (q : Registers) → asks_flush cdb ≡ false → ((t : Target) → wanted cdb ≡ Some t → q.command ≡ (registers_of (last_of t)).command → ⊥)
    → AskedFor cdb q → ⊥
not_asked cdb q none other (inl flush) = true≢false (sym flush.0 ∙ none)
not_asked cdb q none other (inr (t, wants, last)) = other t wants (ap (λ (r : Registers). r.command) last)

-- What a CDB asks for, as a number.
abbrev asked_as : Option Target → ℕ
asked_as None = 0
asked_as (Some Stop) = 1
asked_as (Some Start) = 2
asked_as (Some (GoTo c)) = 3

-- E0h is not what a start asks for,
pub start_parks_fails_commands : CommandsSent start_parks → ⊥
unfolding computed
start_parks_fails_commands holds =
    not_asked start_cdb (registers_of StandbyImmediate) refl other (holds fresh (start_stop 0 start_cdb ∷ []) 0 _ refl refl refl)
  where
    other : (t : Target) → wanted start_cdb ≡ Some t → 0xE0 ≡ (registers_of (last_of t)).command → ⊥
    other Stop w e = let shown : ◌≡◌ {A = ℕ} 2 1 = ap asked_as w in omega arith
    other Start w e = omega (arith, e)
    other (GoTo c) w e = let shown : ◌≡◌ {A = ℕ} 2 3 = ap asked_as w in omega arith

-- nor E7h what a stop with NO_FLUSH does.
abbrev stop_straight : List ℕ
stop_straight = 0x1B ∷ 0 ∷ 0 ∷ 0 ∷ 4 ∷ 0 ∷ []

pub flushes_anyway_fails_commands : CommandsSent flushes_anyway → ⊥
unfolding computed
flushes_anyway_fails_commands holds =
    not_asked stop_straight (registers_of Flush) refl other (holds fresh (start_stop 0 stop_straight ∷ []) 0 _ refl refl refl)
  where
    other : (t : Target) → wanted stop_straight ≡ Some t → 0xE7 ≡ (registers_of (last_of t)).command → ⊥
    other Stop w e = omega (arith, e)
    other Start w e = omega (arith, e)
    other (GoTo c) w e = omega (arith, e)

-- ---- failures

-- From Idle_B a stop whose flush is bad leaves Active.
pub keeps_power_fails_demand_3 : Demand3 keeps_power → ⊥
unfolding computed
keeps_power_fails_demand_3 holds =
    let shown : ◌≡◌ {A = ℕ} 2 0 =
    ap (λ (k : Compared). depth k.power) (holds fresh (epc_call 0x82 0x1 ∷ stops 0 ∷ next 0 ∷ answer 0 Bad ∷ []) refl refl refl refl)
    in
    omega arith

-- A write stays unsaved through a bad flush.
pub bad_flush_saves_fails_demand_3 : Demand3 bad_flush_saves → ⊥
unfolding computed
bad_flush_saves_fails_demand_3 holds =
    false≢true (ap (λ (k : Compared). k.unsaved) (holds fresh (write 1 ∷ stops 0 ∷ next 0 ∷ answer 0 Bad ∷ []) refl refl refl refl))

-- A stop that goes well.
abbrev parks : List Call
parks = stops 0 ∷ next 0 ∷ answer 0 Good ∷ next 0 ∷ answer 0 Good ∷ []

-- A stopped unit stays stopped through a go to that fails.
pub failure_starts_fails_demand_3 : Demand3 failure_starts → ⊥
unfolding computed
failure_starts_fails_demand_3 holds =
    false≢true (ap (λ (k : Compared). k.stopped) (holds fresh (parks ++ goes_to_idle_b ∷ next 0 ∷ answer 0 Bad ∷ []) refl refl refl refl))

-- A stopped unit stays stopped through a tick.
pub tick_starts_fails_demand_3 : Demand3 tick_starts → ⊥
unfolding computed
tick_starts_fails_demand_3 holds = false≢true (ap (λ (k : Compared). k.stopped) (holds (stopped_in Active) (tick ∷ []) refl refl refl refl))

-- ---- "one that changes nothing fails the effects"

pub changes_nothing_fails_demand_3 : Demand3 changes_nothing → ⊥
unfolding computed
changes_nothing_fails_demand_3 holds =
    false≢true (ap (λ (k : Compared). k.unsaved) (holds fresh (write 0 ∷ []) refl refl refl refl))

-- A write is not safe, and the mark stays clear.
pub changes_nothing_fails_mark : MarkTells changes_nothing → ⊥
unfolding computed manufacture_outcome
changes_nothing_fails_mark holds =
    let unsafe = (holds Draft ordered (write 0 ∷ [])).1.0 refl 0 refl (λ j before. absurd (omega arith)) in
    omega (arith, unsafe.1)

-- The mark stays clear over a write that is not.
pub changes_nothing_hides_write : MarkTells changes_nothing → ⊥
unfolding computed manufacture_outcome
changes_nothing_hides_write holds =
    false≢true
    ((holds Draft ordered (write 0 ∷ [])).0.1
    (record { ago = 0; was_write = refl; since_power_on = λ j before. absurd (omega arith); not_safe = λ s. omega (arith, s.1) }))

-- What is left shows in rows d and e: a current setting, and the idle count after the abort.
pub changes_nothing_fails_d : Examples changes_nothing → ⊥
unfolding computed
changes_nothing_fails_d holds =
    let shown : ◌≡◌ {A = ℕ} 12 10 = ap (λ (o : Outcome). (get_or o.unit.drive.records 0 quiet).current.timer.0) (holds *d) in
    omega arith

pub changes_nothing_fails_e : Examples changes_nothing → ⊥
unfolding computed
changes_nothing_fails_e holds = let shown : ◌≡◌ {A = ℕ} 7 0 = ap (λ (o : Outcome). o.unit.drive.idle.0) (holds *e) in omega arith

-- A read leaves the idle count at 7.
pub changes_nothing_fails_idle : IdleRestarts changes_nothing → ⊥
unfolding computed
changes_nothing_fails_idle holds = let shown : ◌≡◌ {A = ℕ} 7 0 = holds (idled 7 fresh) (read 0) refl in omega arith

-- ---- "one that refuses all .. fails demand 2's tables"

-- After 20 ticks the unit is still Active.
pub refuses_all_fails_g : Examples refuses_all → ⊥
unfolding computed
refuses_all_fails_g holds = let shown : ◌≡◌ {A = ℕ} 0 1 = ap depth (holds *g20).1 in omega arith

-- Number 3 for a tick on a well-formed record: its row does not apply.
pub refuses_all_fails_numbers : Numbers refuses_all → ⊥
unfolding computed
refuses_all_fails_numbers holds = false≢true ((holds fresh tick BadRecord).0 refl).itself

-- Number 9 is not given, and the facts miss it.
pub works_stopped_fails_facts : Facts works_stopped → ⊥
unfolding computed
works_stopped_fails_facts holds = let shown : ◌≡◌ {A = ℕ} 0 9 = ap (λ (t : NumberAndSense). t.number) (holds number_9) in omega arith

-- Nor do the numbers: its row is the lowest that applies.
pub works_stopped_fails_numbers : Numbers works_stopped → ⊥
unfolding computed
works_stopped_fails_numbers holds =
    let u = stopped_in Active in
    true≢false (ap is_clear ((holds u (read 0) IsStopped).1 ((numbers_given u (read 0) IsStopped).0 refl)))

-- Demand 3 drops every refused call, so on no run does it see this program: the serial list is empty, and the record stays.
refusal_said : (r : Refusal) (said : Said) → verdict_in (refusing r said) ≡ Err r
refusal_said r (plain a) = refl
refusal_said r (accepted a) = refl
refusal_said r (sent n) = refl
refusal_said r (progressed p) = refl

refuses_each : (u : Unit) (c : Call) → deed_of c (refuses_all u c).said ≡ was_refused c
refuses_each u c = on (turn c)
  where
    on : {c : Call} → Turn c → deed_of c (refuses_all u c).said ≡ was_refused c
    on (starts host cdb) = refl
    on (asks host) = refl
    on (answers host reply) = refl
    on (apart c other) = other _ ∙ ap (another c) (refusal_said BadRecord (outcome u c).said)

nothing_left : (u : Unit) (past : List Deed) (cs : List Call) → serial_after past (deeds (history_by refuses_all u cs)) ≡ []
nothing_left u past [] = refl
nothing_left u past (c ∷ cs) = rw (refuses_each u c) (nothing_left u (was_refused c ∷ past) cs)

nothing_moves : (u : Unit) (cs : List Call) → run_by refuses_all u cs ≡ u
nothing_moves u [] = refl
nothing_moves u (c ∷ cs) = nothing_moves u cs

pub refuses_all_meets_demand_3 : Demand3 refuses_all
refuses_all_meets_demand_3 u cs w n r e = rw (nothing_left u [] cs, nothing_moves u cs)

-- ---- ticks: example g on both sides of each timer, example h past the second

pub early_fails_g19 : Examples early → ⊥
unfolding computed
early_fails_g19 holds = let shown : ◌≡◌ {A = ℕ} 1 0 = ap depth (holds *g19).1 in omega arith

pub late_fails_g20 : Examples late → ⊥
unfolding computed
late_fails_g20 holds = let shown : ◌≡◌ {A = ℕ} 0 1 = ap depth (holds *g20).1 in omega arith

pub early_fails_g49 : Examples early → ⊥
unfolding computed
early_fails_g49 holds = let shown : ◌≡◌ {A = ℕ} 5 1 = ap depth (holds *g49).1 in omega arith

pub late_fails_g50 : Examples late → ⊥
unfolding computed
late_fails_g50 holds = let shown : ◌≡◌ {A = ℕ} 1 5 = ap depth (holds *g50).1 in omega arith

pub lifts_fails_h : Examples lifts → ⊥
unfolding computed
lifts_fails_h holds = let shown : ◌≡◌ {A = ℕ} 3 4 = ap depth (holds *h).1 in omega arith

-- ---- "one that admits a single operation for the whole unit fails number 6, given only for a host's own"

pub one_for_all_fails_numbers : Numbers one_for_all → ⊥
unfolding computed
one_for_all_fails_numbers holds = false≢true ((holds (run fresh (stops 0 ∷ [])) (stops 1) OwnWaiting).0 refl).itself

-- Demand 3 drops the call that is refused wrongly, and on the run in which the two operations would meet sees nothing.
pub one_for_all_agrees : Agrees one_for_all (stops 0 ∷ stops 1 ∷ next 0 ∷ answer 0 Good ∷ next 1 ∷ next 0 ∷ answer 0 Good ∷ [])
unfolding computed
one_for_all_agrees = (refl, refl, refl, refl)

-- ---- "one that invents the flush count fails its definition"

-- Example m's stop has two flushes answered, and 1 is said.
pub invents_count_fails_flush_count : FlushCount invents_count → ⊥
unfolding computed
invents_count_fails_flush_count holds =
    let shown : ◌≡◌ {A = ℕ} 1 2 =
    (holds fresh (stops 0 ∷ next 0 ∷ answer 0 Good ∷ write 1 ∷ next 0 ∷ answer 0 Good ∷ next 0 ∷ []) 0 refl refl).1 Good _ refl
    in
    omega arith

-- A waiting operation's progress says none after its flush.
pub uncounts_fails_flush_count : FlushCount uncounts → ⊥
unfolding computed
uncounts_fails_flush_count holds =
    let shown : ◌≡◌ {A = ℕ} 0 1 = (holds fresh (stops 0 ∷ next 0 ∷ answer 0 Good ∷ []) 0 refl refl).0 _ refl in
    omega arith

-- ---- answers lost

abbrev stop_immediate : List ℕ
stop_immediate = 0x1B ∷ 1 ∷ 0 ∷ 0 ∷ 0 ∷ 0 ∷ []

-- Its flush is bad, the operation is over, and by what was said it still waits; but nothing waits.
pub swallows_fails_fate : OneFate swallows → ⊥
unfolding computed
swallows_fails_fate holds =
    let waits = (holds fresh 0 stop_immediate (next 0 ∷ answer 0 Bad ∷ []) refl refl).1 refl in
    false≢true (ap is_waiting waits.1)

-- The failure is not in the report,
pub mutes_fails_report : EndReported mutes → ⊥
unfolding computed
mutes_fails_report holds =
    let reported = holds fresh 0 stop_immediate (next 0 ∷ []) Bad _ refl refl refl refl in
    false≢true (ap is_due reported.sense)

-- or the acceptance does not say GOOD,
abbrev is_good_due : Said → Bool
is_good_due (plain a) = false
is_good_due (accepted (Ok GoodDue)) = true
is_good_due (accepted (Ok Pending)) = false
is_good_due (accepted (Err r)) = false
is_good_due (sent n) = false
is_good_due (progressed p) = false

pub owes_status_fails_report : EndReported owes_status → ⊥
unfolding computed
owes_status_fails_report holds =
    let reported = holds fresh 0 stop_immediate (next 0 ∷ []) Bad _ refl refl refl refl in
    false≢true (ap is_good_due reported.acceptance)

-- or the failure is not in what REQUEST SENSE tells.
pub forgets_fails_failure : FailureTold forgets → ⊥
unfolding computed
forgets_fails_failure holds =
    let told = holds fresh 0 stop_immediate (next 0 ∷ []) _ [] (replicate 18 0) refl refl refl refl refl refl refl in
    let shown : ◌≡◌ {A = ℕ} 0x70 0x71 = ap (λ (l : List ℕ). get_or l 0 0) told in
    omega arith

-- An operation that waits on after its end report has another.
pub reports_twice_fails_fate : OneFate reports_twice → ⊥
unfolding computed
reports_twice_fails_fate holds =
    let shown : ◌≡◌ {A = ℕ} 2 1 = (holds fresh 0 stop_immediate (next 0 ∷ answer 0 Bad ∷ next 0 ∷ answer 0 Bad ∷ []) refl refl).0 in
    omega arith

-- A held failure stays through all of these.
abbrev meanwhile : List Call
meanwhile =
    -- starts of the host's own that end well, with IMMED and without; a start and a stop of its own that fail, without
    start_stop 0 (0x1B ∷ 1 ∷ 0 ∷ 0 ∷ 1 ∷ 0 ∷ []) ∷ next 0 ∷ answer 0 Good
    ∷ start_stop 0 start_cdb ∷ next 0 ∷ answer 0 Good
    ∷ start_stop 0 start_cdb ∷ next 0 ∷ answer 0 Bad
    ∷ stops 0 ∷ next 0 ∷ answer 0 Bad
    -- its own REQUEST SENSE refused, with number 1
    ∷ request_sense 0 []
    -- another host's failure with IMMED, and that host's REQUEST SENSE
    ∷ start_stop 1 stop_immediate ∷ next 1 ∷ answer 1 Bad
    ∷ request_sense 1 (replicate 18 0)
    ∷ write 2 ∷ tick
    ∷ []

-- Host 1's REQUEST SENSE took host 0's failure with it.
pub drops_all_held_fails_failure : FailureTold drops_all_held → ⊥
unfolding computed
drops_all_held_fails_failure holds =
    let told = holds fresh 0 stop_immediate (next 0 ∷ []) _ meanwhile (replicate 18 0) refl refl refl refl refl refl refl in
    let shown : ◌≡◌ {A = ℕ} 0x70 0x71 = ap (λ (l : List ℕ). get_or l 0 0) told in
    omega arith

-- Host 0's stop with IMMED, its flush out.
abbrev stop_out : StepFunction → Unit
stop_out by = run_by by fresh (start_stop 0 stop_immediate ∷ next 0 ∷ [])

-- A failure that is not held is not told,
pub forgets_fails_held : HeldTold forgets → ⊥
unfolding computed
forgets_fails_held holds =
    let told = (holds (stop_out forgets) 0 Bad _ _ meanwhile (replicate 18 0) refl refl refl refl refl refl).0 in
    let shown : ◌≡◌ {A = ℕ} 0x70 0x71 = ap (λ (l : List ℕ). get_or l 0 0) told in
    omega arith

-- and one that goes on being held is told more than once.
pub tells_again_fails_held : HeldTold tells_again → ⊥
unfolding computed
tells_again_fails_held holds =
    true≢false (ap is_holding (holds (stop_out tells_again) 0 Bad _ _ meanwhile (replicate 18 0) refl refl refl refl refl refl).1)

-- ---- what is said of the serial run

-- An end report that is swallowed: the stop was accepted, and the serial run has none.
pub swallows_fails_serial_run : SerialRun swallows → ⊥
unfolding computed
swallows_fails_serial_run holds =
    let shown : ◌≡◌ {A = ℕ} 0 1 =
    ap length ((holds fresh (stops 0 ∷ next 0 ∷ answer 0 Bad ∷ []) refl refl refl refl).one_each 0)
    in
    omega arith

-- Two end reports of one stop: the serial run has two of it.
pub reports_twice_fails_serial_run : SerialRun reports_twice → ⊥
unfolding computed
reports_twice_fails_serial_run holds =
    let twice = stops 0 ∷ next 0 ∷ answer 0 Bad ∷ next 0 ∷ answer 0 Good ∷ next 0 ∷ answer 0 Good ∷ [] in
    let shown : ◌≡◌ {A = ℕ} 2 1 = ap length ((holds fresh twice refl refl refl refl).one_each 0) in
    omega arith

-- A read of a stopped unit, which the serial run refuses; and so it has one place fewer.
pub works_stopped_fails_serial_run : SerialRun works_stopped → ⊥
unfolding computed
works_stopped_fails_serial_run holds =
    let shown : ◌≡◌ {A = ℕ} 1 0 = ap length (holds fresh (parks ++ read 1 ∷ []) refl refl refl refl).none_refused in
    omega arith

pub works_stopped_leaves_place : SerialRun works_stopped → ⊥
unfolding computed
works_stopped_leaves_place holds =
    let shown : ◌≡◌ {A = ℕ} 1 2 = ap length (holds fresh (parks ++ read 1 ∷ []) refl refl refl refl).in_place in
    omega arith

-- A stop that is taken for done at its flush: run whole it is not over.
pub ends_at_flush_fails_serial_run : SerialRun ends_at_flush → ⊥
unfolding computed
ends_at_flush_fails_serial_run holds =
    let shown : ◌≡◌ {A = ℕ} 0 1 = ap length (holds fresh (stops 0 ∷ next 0 ∷ answer 0 Good ∷ []) refl refl refl refl).over in
    omega arith

-- ---- one that "always reports Active fails demand 2's tables"

pub always_active_fails_l : Examples always_active → ⊥
unfolding computed
always_active_fails_l holds =
    let shown : ◌≡◌ {A = ℕ} 0x00 0x5E = ap (λ (o : Outcome). get_or o.buffer 12 0) (holds *l) in
    omega arith
