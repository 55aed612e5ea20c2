-- Values of document 01, and of document 02, that stand in one definition each, said again on a call: a table of facts beside the marked examples,
-- under one statement of any step function. Each row is a run from a record, and what its last outcome shows.
use Rattle.std.specs.Prelude.{Bool, true, false, List, [], ◌∷◌, ◌++◌, ◌≡◌, ℕ, replicate, take, Ok, Err, Some, None, Option}
use Rattle.conditions.specs.declared.Condition.TheVariants.{IdleA, IdleC, StandbyY, StandbyZ}
use Rattle.conditions.specs.declared.Cause.TheVariants.{Timer, Command}
use Rattle.conditions.specs.declared.Power.{Power}
use Rattle.conditions.specs.declared.Power.TheVariants.{Active, Low}
use Rattle.drive.specs.Drives.{with_counts, made_record}
use Rattle.drive.specs.Records.{unsupported}
use Rattle.drive.specs.declared.Edition.TheVariants.{Draft, Published}
use Rattle.drive.specs.declared.Setting.{Setting}
use Rattle.drive.specs.declared.Record.{Record}
use Rattle.drive.specs.declared.Made.{Made}
use Rattle.refusals.specs.Refusals.{number_of, sense_of}
use Rattle.unit.specs.Units.{with_edition, with_drive, with_power, with_marks, with_slot, with_held, with_out, blank}
use Rattle.unit.specs.declared.Slot.TheVariants.{Waiting}
use Rattle.unit.specs.declared.Unit.{Unit}
use Rattle.operations.specs.declared.Status.{Status}
use Rattle.operations.specs.declared.Status.TheVariants.{NoStatus, GoodStatus, CheckCondition}
use Rattle.operations.specs.declared.Progress.TheVariants.{Ended}
use Rattle.requests.specs.declared.Target.{Target}
use Rattle.requests.specs.declared.Target.TheVariants.{Stop, GoTo}
use Rattle.requests.specs.declared.Stage.{Stage}
use Rattle.requests.specs.declared.Stage.TheVariants.{Straight, Flushing}
use Rattle.requests.specs.declared.Failure.TheVariants.{CommandSequence, NotReady}
use Rattle.requests.specs.declared.Reply.{Reply}
use Rattle.requests.specs.declared.Reply.TheVariants.{Good, Bad}
use Rattle.calls.specs.Calls.{Call, tick, read, write, power_on, hard_reset, soft_reset, start_stop, next, answer, request_sense, log_page, transitions_page, new_page, plain, progressed, Outcome, StepFunction}
use Rattle.calls.specs.Examples.{Example, IsShown, off, on, new, fresh, keeps, quiet, holding, idled, epc_call, cdb_call, done, aborted, is_in, sends}
use Rattle.calls.specs.Table.{verdict_in}
use Rattle.refusals.specs.Refusals.{Verdict}
use Rattle.senses.specs.declared.Sense.{Sense}

-- ---- what the rows show

-- "No." and "Sense" of a refusal. What is not refused has no number: 0 stands here.
pub record NumberAndSense : Type 0 where
  pub number : ℕ
  pub sense : Option Sense

abbrev pub told_of : Verdict → NumberAndSense
told_of (Ok _) = record { number = 0; sense = None }
told_of (Err r) = record { number = number_of r; sense = sense_of r }

abbrev pub is_refused : ℕ → Option Sense → Outcome → Type 0
is_refused n due o = told_of (verdict_in o.said) ≡ record { number = n; sense = due }

abbrev pub sense_due : ℕ → ℕ → ℕ → Option Sense
sense_due key asc ascq = Some (record { key = key; asc = asc; ascq = ascq })

-- An operation without IMMED and without a flush ended with GOOD, and left this record.
abbrev pub ended_good : Unit → Outcome → Type 0
ended_good u o =
    o ≡ record { said = progressed (Ok (Ended (record { status = GoodStatus; sense = None; flushes = 0 }))); unit = u; buffer = [] }

-- A stop or a go to failed, without IMMED, with its sense and this many flushes.
abbrev pub ended_failed : ℕ → Outcome → Type 0
ended_failed flushes o =
    o.said ≡ progressed (Ok (Ended (record { status = CheckCondition; sense = sense_due 0x0B 0x2C 0x00; flushes = flushes })))

-- A start failed, with this status, and left this record.
abbrev pub start_failed : Status → Unit → Outcome → Type 0
start_failed status u o =
    o ≡ record { said = progressed (Ok (Ended (record { status = status; sense = sense_due 0x02 0x04 0x02; flushes = 0 }))); unit = u; buffer = [] }

-- REQUEST SENSE wrote this sense, as a deferred one.
abbrev pub tells_deferred : ℕ → ℕ → ℕ → Outcome → Type 0
tells_deferred key asc ascq o =
    o.buffer
    ≡ 0x71 ∷ 0x00 ∷ key ∷ 0x00 ∷ 0x00 ∷ 0x00 ∷ 0x00 ∷ 0x0A ∷ 0x00
    ∷ 0x00 ∷ 0x00 ∷ 0x00 ∷ asc ∷ ascq ∷ 0x00 ∷ 0x00 ∷ 0x00 ∷ 0x00 ∷ []

-- ---- what they start from, and the calls

-- A unit that was stopped, and one that was not, in this condition; something is unsaved.
abbrev pub stopped_in : Power → Unit
stopped_in p = with_marks true true (with_power p fresh)

abbrev pub running_in : Power → Unit
running_in p = with_marks false true (with_power p fresh)

-- The unit in this condition, once it runs.
abbrev pub once_running : Power → Unit → Unit
once_running p u = with_marks false true (with_power p u)

-- The new unit with these transition counts, row by row, each timer then other.
abbrev pub tallied : List ℕ → Unit
tallied counts = with_drive (with_counts counts fresh.drive) fresh

-- The record has these counts.
abbrev pub has_counts : List ℕ → Outcome → Type 0
has_counts counts o = o.unit.drive.counts ≡ counts

-- The call was done and the unit is in this condition, with these counts.
abbrev pub enters_with : Power → List ℕ → Outcome → Type 0
enters_with p counts o = (o.said ≡ plain (Ok tt)) × (o.unit.drive.power ≡ p) × has_counts counts o

-- By the saved and the current setting of Standby_y.
abbrev pub standby_kept : Setting → Setting → Unit
standby_kept saved current = holding (quiet ∷ quiet ∷ quiet ∷ keeps off saved current ∷ quiet ∷ [])

-- A timer that is off.
abbrev pub timer_off : ℕ → Setting
timer_off tenths = record { enabled = false; timer = record { 0 = tenths } }

-- By the timers and the recovery time of Idle_A, which is off, and the idle count.
abbrev pub sized : ℕ → ℕ → ℕ → Unit
sized timer recovery idle =
    let maker : Made = record { supported = true; saveable = true; changeable = true; recovery = record { 0 = recovery }; default = timer_off timer } in
    idled idle (holding (made_record 0 maker ∷ quiet ∷ quiet ∷ quiet ∷ quiet ∷ []))

-- An operation of host 0 waits, and then its command is out.
abbrev pub waiting_for : Target → Stage → Unit → Unit
waiting_for t stage u = with_slot 0 (Waiting (record { target = t; immed = false; stage = stage })) u

abbrev pub out_unit : Unit
out_unit = with_out (Some 0) (waiting_for Stop (Flushing 0) fresh)

-- By Idle_A's record.
abbrev pub with_idle_a : Record → Unit
with_idle_a r = holding (r ∷ quiet ∷ quiet ∷ quiet ∷ quiet ∷ [])

-- A condition's record, by whether it is saveable and changeable and by its setting, which is the default and the saved one too.
abbrev pub allowing : Bool → Bool → Setting → Record
allowing saves changes s =
    made_record 0 (record { supported = true; saveable = saves; changeable = changes; recovery = record { 0 = 0 }; default = s })

-- By the records of Idle_A and Idle_B; Idle_C is not supported.
abbrev pub with_idle_ab : Record → Record → Unit
with_idle_ab a b = holding (a ∷ b ∷ unsupported ∷ quiet ∷ quiet ∷ [])

-- START STOP UNIT from host 0, by bytes 2, 3 and 4 of its CDB.
abbrev pub ssu : ℕ → ℕ → ℕ → Call
ssu two three four = cdb_call 0x1B 0 two three four 0

-- The same by byte 4, run whole where it sends no flush: its one command is asked for and answered.
abbrev pub run_whole : ℕ → Reply → List Call
run_whole four reply = ssu 0 0 four ∷ next 0 ∷ answer 0 reply ∷ []

-- Run whole from this record, with a good answer it leaves the unit running in this condition;
abbrev pub runs_well : ℕ → Power → Unit → Example
runs_well four p u = record { start = u; calls = run_whole four Good; shows = ended_good (once_running p u) }

-- a start with a bad one leaves it Active, the marks as before.
abbrev pub start_fails : Unit → Example
start_fails u = record { start = u; calls = run_whole 0x01 Bad; shows = start_failed CheckCondition (with_power Active u) }

-- By Idle_B's record.
abbrev pub with_idle_b : Record → Unit
with_idle_b r = holding (quiet ∷ r ∷ quiet ∷ quiet ∷ quiet ∷ [])

-- The same record of a published unit.
abbrev pub of_published : Unit → Unit
of_published = with_edition Published

-- A supported condition's record: whether it is saveable and changeable, its recovery time, and its three settings.
abbrev pub timed : Bool → Bool → ℕ → Setting → Setting → Setting → Record
timed saves changes recovery default saved current = record {
  supported = true;
  saveable = saves;
  changeable = changes;
  recovery = record { 0 = recovery };
  default = default;
  saved = saved;
  current = current;
}

-- Timers of four different bytes, up to the largest.
abbrev pub long_timers : Unit
long_timers = of_published (holding (
    timed false false 101 (on 0x01020304) (timer_off 65535) (timer_off 65536)
    ∷ timed true false 65535 (timer_off 39321000) (on 0x02030405) (timer_off 0)
    ∷ timed false true 100 (timer_off 7) (timer_off 8) (on 0x00FFFFFF)
    ∷ timed true true 0 (timer_off 0) (timer_off 1) (timer_off 256)
    ∷ timed true true 1 (on 1) (on 2) (on 39321000)
    ∷ []))

-- ---- the table

pub data Fact : Type 0 where
  number_1 number_2 number_3 number_4 number_5 number_6 number_7 number_8 number_9 number_10 : Fact
  recovery_3 timer_3 slot_3 largest_numbers out_epc out_read out_start out_next out_sense none_out written_9 byte_2 modifier_1 : Fact
  by_current not_by_saved unsupported_z : Fact
  verify_sent verify_bad verify_stays verify_held verify_told start_starts start_stays start_1h goes_starts goes_stays epc_keeps epc_stays : Fact
  restores_saved timer_16 timer_not_on flag_by_saved flag_off idle_counts idle_stays : Fact
  fails_told fails_held stop_fails goes_fails flushes_255 flushes_stay : Fact
  page_1a page_51 page_53 page_3 page_out counts_timer counts_deepest counts_use counts_low counts_held counts_cause counts_flush counts_bad counts_fill counts_full : Fact
  resets_keep power_on_counts power_on_held : Fact
  every_fixed every_saved every_unsaved every_none fixed_alone fixed_goes : Fact
  number_11 draft_11 one_before_11 three_before_11 eleven_not_4 idle_page standby_page old_page : Fact
  minutes_set minutes_saved minutes_zero draft_minutes state_minutes long_timer_3 long_idle_3 long_numbers idle_goes_on idle_fills : Fact
  poll_keeps told_keeps polled_sleeps : Fact

abbrev pub fact_of : Fact → Example
-- ---- "Numbers given back": each number and its sense, on a call to which its row alone applies.
-- 1: "CDB not 6 bytes".
fact_of number_1 = record { start = fresh; calls = start_stop 0 (0x1B ∷ 0 ∷ 0 ∷ 0 ∷ 0 ∷ []) ∷ []; shows = is_refused 1 None }
-- 2: "host above 3".
fact_of number_2 = record { start = fresh; calls = read 4 ∷ []; shows = is_refused 2 None }
-- 3: "record not well formed": "no timer, recovery time or idle count is above 65,535", each on both sides, of a draft unit.
fact_of number_3 = record { start = sized 65535 65535 65536; calls = tick ∷ []; shows = is_refused 3 None }
fact_of recovery_3 = record { start = sized 65535 65536 65535; calls = tick ∷ []; shows = is_refused 3 None }
fact_of timer_3 = record { start = sized 65536 65535 65535; calls = tick ∷ []; shows = is_refused 3 None }
fact_of largest_numbers = record { start = sized 65535 65535 65535; calls = tick ∷ []; shows = λ o. o.said ≡ plain (Ok tt) }
-- "a waiting request is one START STOP accepts": a go to a condition that is not supported is none.
fact_of slot_3 = record { start = waiting_for (GoTo IdleA) Straight (blank Draft); calls = tick ∷ []; shows = is_refused 3 None }
-- 4: "a command is out (host calls other than the answer; EPC; ..)".
fact_of number_4 = record { start = out_unit; calls = write 1 ∷ []; shows = is_refused 4 None }
fact_of out_read = record { start = out_unit; calls = read 1 ∷ []; shows = is_refused 4 None }
fact_of out_start = record { start = out_unit; calls = start_stop 1 (0x1B ∷ 0 ∷ 0 ∷ 0 ∷ 0 ∷ 0 ∷ []) ∷ []; shows = is_refused 4 None }
fact_of out_next = record { start = out_unit; calls = next 0 ∷ []; shows = is_refused 4 None }
fact_of out_sense = record { start = out_unit; calls = request_sense 1 (replicate 18 0) ∷ []; shows = is_refused 4 None }
fact_of out_epc = record { start = out_unit; calls = epc_call 0x81 0x1 ∷ []; shows = is_refused 4 None }
-- 5: "next asked by a host with none waiting; answer for a host that has none out".
fact_of number_5 = record { start = fresh; calls = ssu 0 0 0 ∷ next 1 ∷ []; shows = is_refused 5 None }
fact_of none_out = record { start = fresh; calls = ssu 0 0 0 ∷ answer 0 Good ∷ []; shows = is_refused 5 None }
-- 6: "START STOP from a host whose own operation waits".
fact_of number_6 = record { start = fresh; calls = ssu 0 0 0 ∷ ssu 0 0 1 ∷ []; shows = is_refused 6 (sense_due 0x02 0x04 0x07) }
-- 7: "opcode not 1Bh".
fact_of number_7 = record { start = fresh; calls = cdb_call 0x1A 0 0 0 0 0 ∷ []; shows = is_refused 7 (sense_due 0x05 0x20 0x00) }
-- 8: "CDB not in the list above": power condition 4h; a bit of byte 2; "1h, modifier 0".
fact_of number_8 = record { start = fresh; calls = ssu 0 0 0x40 ∷ []; shows = is_refused 8 (sense_due 0x05 0x24 0x00) }
fact_of byte_2 = record { start = fresh; calls = ssu 1 0 0 ∷ []; shows = is_refused 8 (sense_due 0x05 0x24 0x00) }
fact_of modifier_1 = record { start = fresh; calls = ssu 0 1 0x10 ∷ []; shows = is_refused 8 (sense_due 0x05 0x24 0x00) }
-- 9: "read or write with the stopped mark".
fact_of number_9 = record { start = stopped_in Active; calls = read 0 ∷ []; shows = is_refused 9 (sense_due 0x02 0x04 0x02) }
fact_of written_9 = record { start = stopped_in Active; calls = write 0 ∷ []; shows = is_refused 9 (sense_due 0x02 0x04 0x02) }
-- 10: "EPC abort": Count FEh is not listed.
fact_of number_10 = record { start = fresh; calls = epc_call 0xFE 0x40 ∷ []; shows = is_refused 10 None }
-- ---- "stop enters Standby_y if its current flag is set, else Standby_z, supported or not": not by the saved flag.
fact_of by_current = record {
  start = standby_kept off (on 9);
  calls = run_whole 0x04 Good;
  shows = ended_good (with_marks true false (with_power (Low StandbyY Command) (standby_kept off (on 9))));
}
fact_of not_by_saved = record {
  start = standby_kept (on 9) off;
  calls = run_whole 0x04 Good;
  shows = ended_good (with_marks true false (with_power (Low StandbyZ Command) (standby_kept (on 9) off)));
}
fact_of unsupported_z = record {
  start = blank Draft;
  calls = run_whole 0x04 Good;
  shows = ended_good (with_marks true false (with_power (Low StandbyZ Command) (blank Draft)));
}
-- ---- "READ VERIFY 40h, Count 1, LBA 0."
fact_of verify_sent = record { start = fresh; calls = ssu 0 0 1 ∷ next 0 ∷ []; shows = sends 0x40 0 1 0 }
-- Document 02, request (ii): "From now a bad verify fails the start: NOT READY, 02/04/02, .. unit Active, stopped mark as before."
fact_of verify_bad = start_fails (stopped_in (Low StandbyZ Command))
fact_of verify_stays = start_fails (running_in (Low IdleA Command))
-- "deferred with IMMED 1", in the place of an older failure; of 1h "as start", told by the next REQUEST SENSE.
fact_of verify_held = record {
  start = with_held 0 (Some CommandSequence) (stopped_in (Low StandbyZ Command));
  calls = cdb_call 0x1B 1 0 0 0x01 0 ∷ next 0 ∷ answer 0 Bad ∷ [];
  shows = start_failed NoStatus (with_held 0 (Some NotReady) (with_power Active (stopped_in (Low StandbyZ Command))));
}
fact_of verify_told = record {
  start = fresh;
  calls = cdb_call 0x1B 1 0 0 0x10 0 ∷ next 0 ∷ answer 0 Bad ∷ request_sense 0 (replicate 18 0xFF) ∷ [];
  shows = tells_deferred 0x02 0x04 0x02;
}
-- A good verify: Active, and "the stopped mark becomes .. zero for any other".
fact_of start_starts = runs_well 0x01 Active (stopped_in (Low StandbyZ Command))
fact_of start_stays = runs_well 0x01 Active (running_in (Low IdleA Command))
fact_of start_1h = runs_well 0x10 Active (stopped_in (Low StandbyZ Command))
-- ---- "the stopped mark becomes one for stop, zero for any other": a go to Idle_A with NO_FLUSH, of a stopped unit and of one that runs.
fact_of goes_starts = runs_well 0x24 (Low IdleA Command) (stopped_in (Low StandbyZ Command))
fact_of goes_stays = record { start = running_in Active; calls = run_whole 0x24 Good; shows = ended_good (running_in (Low IdleA Command)) }
-- ---- "1h go to": "unit enters the condition, cause command; marks stay".
fact_of epc_keeps =
    record { start = stopped_in Active; calls = epc_call 0x81 0x1 ∷ []; shows = λ o. o ≡ done (stopped_in (Low IdleA Command)) }
fact_of epc_stays =
    record { start = fresh; calls = epc_call 0x81 0x1 ∷ []; shows = λ o. o ≡ done (with_power (Low IdleA Command) fresh) }
-- "0h restore": "current becomes .. saved; with bit 4, saved takes the same setting".
fact_of restores_saved = record {
  start = with_idle_a (keeps (on 10) (on 20) (on 30));
  calls = epc_call 0x81 0x10 ∷ [];
  shows = λ o. o ≡ done (with_idle_a (keeps (on 10) (on 20) (on 20)));
}
-- "2h timer": "23:8 timer, 5 enable"; "flag is enable and timer nonzero".
fact_of timer_16 = record {
  start = with_idle_a quiet;
  calls = epc_call 0x81 0xFFFF22 ∷ [];
  shows = λ o. o ≡ done (with_idle_a (keeps off off (on 65535)));
}
fact_of timer_not_on = record {
  start = with_idle_a quiet;
  calls = epc_call 0x81 0x012C02 ∷ [];
  shows = λ o. o ≡ done (with_idle_a (keeps off off (timer_off 300)));
}
-- "3h state": "current flag is enable and current timer nonzero; bit 4: saved flag likewise from the saved timer".
fact_of flag_by_saved = record {
  start = with_idle_a (keeps off (timer_off 20) off);
  calls = epc_call 0x81 0x33 ∷ [];
  shows = λ o. o ≡ done (with_idle_a (keeps off (on 20) off));
}
fact_of flag_off = record {
  start = with_idle_a (keeps off (on 20) (on 30));
  calls = epc_call 0x81 0x13 ∷ [];
  shows = λ o. o ≡ done (with_idle_a (keeps off (timer_off 20) (timer_off 30)));
}
-- ---- "A tick .. adds 1 to the idle count, which stays at 65,535", of a draft unit.
fact_of idle_counts = record { start = idled 65534 fresh; calls = tick ∷ []; shows = λ o. o ≡ done (idled 65535 fresh) }
fact_of idle_stays = record { start = idled 65535 fresh; calls = tick ∷ []; shows = λ o. o ≡ done (idled 65535 fresh) }
-- ---- "Failure is ABORTED COMMAND, COMMAND SEQUENCE ERROR (0B/2C/00)": with the answer, and held with IMMED 1.
fact_of fails_told = record { start = fresh; calls = ssu 0 0 0 ∷ next 0 ∷ answer 0 Bad ∷ []; shows = ended_failed 1 }
fact_of fails_held = record {
  start = fresh;
  calls = cdb_call 0x1B 1 0 0 0 0 ∷ next 0 ∷ answer 0 Bad ∷ request_sense 0 (replicate 18 0xFF) ∷ [];
  shows = tells_deferred 0x0B 0x2C 0x00;
}
-- "Bad last command: .. failed": a stop and a go to Idle_A, with NO_FLUSH.
fact_of stop_fails = record { start = fresh; calls = run_whole 0x04 Bad; shows = ended_failed 0 }
fact_of goes_fails = record { start = fresh; calls = run_whole 0x24 Bad; shows = ended_failed 0 }
-- "the number of flushes answered, good and bad, for that operation, which stays at 255 once reached": a flush, a write, and a bad flush.
fact_of flushes_255 = record {
  start = waiting_for Stop (Flushing 253) (with_marks false true fresh);
  calls = next 0 ∷ answer 0 Good ∷ write 1 ∷ next 0 ∷ answer 0 Bad ∷ [];
  shows = ended_failed 255;
}
fact_of flushes_stay = record {
  start = waiting_for Stop (Flushing 254) (with_marks false true fresh);
  calls = next 0 ∷ answer 0 Good ∷ write 1 ∷ next 0 ∷ answer 0 Bad ∷ [];
  shows = ended_failed 255;
}
-- ---- document 02, request (i). "Parameters, in order: 0001h Active, .. 0008h Standby_z, 0009h Standby_y, each with control byte 03h and length 4, high
-- byte first; the page header is 1A 00 00 30", "each row's sum, cut at the top".
fact_of page_1a = record {
  start = tallied (0x01020304 ∷ 0x10203040 ∷ 2 ∷ 3 ∷ 4 ∷ 5 ∷ 6 ∷ 7 ∷ 8 ∷ 9 ∷ 0xFFFFFFFF ∷ 1 ∷ []);
  calls = transitions_page (replicate 52 0xA5) ∷ [];
  shows =
      λ o. o.buffer
      ≡ 0x1A ∷ 0x00 ∷ 0x00 ∷ 0x30
      ∷ 0x00 ∷ 0x01 ∷ 0x03 ∷ 0x04 ∷ 0x11 ∷ 0x22 ∷ 0x33 ∷ 0x44
      ∷ 0x00 ∷ 0x02 ∷ 0x03 ∷ 0x04 ∷ 0x00 ∷ 0x00 ∷ 0x00 ∷ 0x05
      ∷ 0x00 ∷ 0x03 ∷ 0x03 ∷ 0x04 ∷ 0x00 ∷ 0x00 ∷ 0x00 ∷ 0x09
      ∷ 0x00 ∷ 0x04 ∷ 0x03 ∷ 0x04 ∷ 0x00 ∷ 0x00 ∷ 0x00 ∷ 0x0D
      ∷ 0x00 ∷ 0x08 ∷ 0x03 ∷ 0x04 ∷ 0xFF ∷ 0xFF ∷ 0xFF ∷ 0xFF
      ∷ 0x00 ∷ 0x09 ∷ 0x03 ∷ 0x04 ∷ 0x00 ∷ 0x00 ∷ 0x00 ∷ 0x11 ∷ [];
}
-- "Refusals: only 1, for a page buffer not 52 bytes, and 3." So not 4 with a command out.
fact_of page_51 = record { start = fresh; calls = transitions_page (replicate 51 0xA5) ∷ []; shows = is_refused 1 None }
fact_of page_53 = record { start = fresh; calls = transitions_page (replicate 53 0xA5) ∷ []; shows = is_refused 1 None }
fact_of page_3 = record { start = sized 0 0 65536; calls = transitions_page (replicate 52 0xA5) ∷ []; shows = is_refused 3 None }
fact_of page_out = record { start = out_unit; calls = transitions_page (replicate 52 0xA5) ∷ []; shows = λ o. o.said ≡ plain (Ok tt) }
-- "entries into Active and each of the five conditions", "(timer, command or use)": a timer's entry, one straight to Standby_z, a use after it.
fact_of counts_timer =
    record { start = new (on 1) off off off off; calls = tick ∷ []; shows = has_counts (0 ∷ 0 ∷ 1 ∷ 0 ∷ 0 ∷ 0 ∷ 0 ∷ 0 ∷ 0 ∷ 0 ∷ 0 ∷ 0 ∷ []) }
fact_of counts_deepest =
    record { start = new (on 1) off off off (on 1); calls = tick ∷ []; shows = has_counts (0 ∷ 0 ∷ 0 ∷ 0 ∷ 0 ∷ 0 ∷ 0 ∷ 0 ∷ 0 ∷ 0 ∷ 1 ∷ 0 ∷ []) }
fact_of counts_use =
    record { start = new off off off (on 1) off; calls = tick ∷ read 0 ∷ []; shows = has_counts (0 ∷ 1 ∷ 0 ∷ 0 ∷ 0 ∷ 0 ∷ 0 ∷ 0 ∷ 1 ∷ 0 ∷ 0 ∷ 0 ∷ []) }
-- From one low condition to another, downwards and upwards.
fact_of counts_low = record {
  start = fresh;
  calls = epc_call 0x82 0x1 ∷ epc_call 0x00 0x1 ∷ epc_call 0x81 0x1 ∷ [];
  shows = enters_with (Low IdleA Command) (0 ∷ 0 ∷ 0 ∷ 1 ∷ 0 ∷ 1 ∷ 0 ∷ 0 ∷ 0 ∷ 0 ∷ 0 ∷ 1 ∷ []);
}
-- "going to the condition already held counts nothing": by a command twice, and by a command where a timer was.
fact_of counts_held = record {
  start = fresh;
  calls = epc_call 0x82 0x1 ∷ epc_call 0x82 0x1 ∷ [];
  shows = has_counts (0 ∷ 0 ∷ 0 ∷ 0 ∷ 0 ∷ 1 ∷ 0 ∷ 0 ∷ 0 ∷ 0 ∷ 0 ∷ 0 ∷ []);
}
fact_of counts_cause = record {
  start = new off off (on 1) off off;
  calls = tick ∷ epc_call 0x83 0x1 ∷ [];
  shows = enters_with (Low IdleC Command) (0 ∷ 0 ∷ 0 ∷ 0 ∷ 0 ∷ 0 ∷ 1 ∷ 0 ∷ 0 ∷ 0 ∷ 0 ∷ 0 ∷ []);
}
-- After a go to Idle_A, a flushing one enters Active by its flush, then Idle_A again; a bad flush enters Active and no more.
fact_of counts_flush = record {
  start = fresh;
  calls = epc_call 0x81 0x1 ∷ ssu 0 0 0x20 ∷ next 0 ∷ answer 0 Good ∷ next 0 ∷ answer 0 Good ∷ [];
  shows = has_counts (0 ∷ 1 ∷ 0 ∷ 2 ∷ 0 ∷ 0 ∷ 0 ∷ 0 ∷ 0 ∷ 0 ∷ 0 ∷ 0 ∷ []);
}
fact_of counts_bad = record {
  start = fresh;
  calls = epc_call 0x81 0x1 ∷ ssu 0 0 0x20 ∷ next 0 ∷ answer 0 Bad ∷ [];
  shows = has_counts (0 ∷ 1 ∷ 0 ∷ 1 ∷ 0 ∷ 0 ∷ 0 ∷ 0 ∷ 0 ∷ 0 ∷ 0 ∷ 0 ∷ []);
}
-- "32 bits, staying at the top once there".
fact_of counts_fill = record {
  start = tallied (0 ∷ 0 ∷ 0 ∷ 0xFFFFFFFE ∷ 0 ∷ 0 ∷ 0 ∷ 0 ∷ 0 ∷ 0 ∷ 0 ∷ 0 ∷ []);
  calls = epc_call 0x81 0x1 ∷ [];
  shows = enters_with (Low IdleA Command) (0 ∷ 0 ∷ 0 ∷ 0xFFFFFFFF ∷ 0 ∷ 0 ∷ 0 ∷ 0 ∷ 0 ∷ 0 ∷ 0 ∷ 0 ∷ []);
}
fact_of counts_full = record {
  start = tallied (0 ∷ 0 ∷ 0 ∷ 0xFFFFFFFF ∷ 0 ∷ 0 ∷ 0 ∷ 0 ∷ 0 ∷ 0 ∷ 0 ∷ 0 ∷ []);
  calls = epc_call 0x81 0x1 ∷ [];
  shows = enters_with (Low IdleA Command) (0 ∷ 0 ∷ 0 ∷ 0xFFFFFFFF ∷ 0 ∷ 0 ∷ 0 ∷ 0 ∷ 0 ∷ 0 ∷ 0 ∷ 0 ∷ []);
}
-- "Resets keep the counts; a power-on change to Active counts as use."
fact_of resets_keep = record {
  start = tallied (0 ∷ 0 ∷ 0 ∷ 7 ∷ 0 ∷ 0 ∷ 0 ∷ 0 ∷ 0 ∷ 0 ∷ 0 ∷ 0 ∷ []);
  calls = hard_reset ∷ soft_reset ∷ [];
  shows = enters_with Active (0 ∷ 0 ∷ 0 ∷ 7 ∷ 0 ∷ 0 ∷ 0 ∷ 0 ∷ 0 ∷ 0 ∷ 0 ∷ 0 ∷ []);
}
fact_of power_on_counts = record {
  start = fresh;
  calls = epc_call 0x00 0x1 ∷ power_on ∷ [];
  shows = has_counts (0 ∷ 1 ∷ 0 ∷ 0 ∷ 0 ∷ 0 ∷ 0 ∷ 0 ∷ 0 ∷ 0 ∷ 0 ∷ 1 ∷ []);
}
fact_of power_on_held = record {
  start = tallied (0 ∷ 4 ∷ 0 ∷ 0 ∷ 0 ∷ 0 ∷ 0 ∷ 0 ∷ 0 ∷ 0 ∷ 0 ∷ 0 ∷ []);
  calls = power_on ∷ [];
  shows = enters_with Active (0 ∷ 4 ∷ 0 ∷ 0 ∷ 0 ∷ 0 ∷ 0 ∷ 0 ∷ 0 ∷ 0 ∷ 0 ∷ 0 ∷ []);
}
-- ---- document 02, request (iv). "For subcommands 0h, 2h and 3h FFh now selects the supported and changeable conditions": "all conditions off" on a disk
-- with a fixed Idle_A, and Idle_C not supported.
fact_of every_fixed = record {
  start = idled 7 (with_idle_ab (allowing true false (on 10)) (allowing true true (on 20)));
  calls = epc_call 0xFF 0x3 ∷ [];
  shows = λ o. o ≡ done (with_idle_ab (allowing true false (on 10)) (keeps (on 20) (on 20) (timer_off 20)));
}
-- With bit 4 one that is not selected may be not saveable;
fact_of every_saved = record {
  start = idled 7 (with_idle_ab (allowing false false (on 10)) (allowing true true (on 20)));
  calls = epc_call 0xFF 0x13 ∷ [];
  shows = λ o. o ≡ done (with_idle_ab (allowing false false (on 10)) (keeps (on 20) (timer_off 20) (timer_off 20)));
}
-- "any selected one that isn't saveable still aborts everything".
fact_of every_unsaved = record {
  start = idled 7 (with_idle_ab (allowing true true (on 10)) (allowing false true (on 20)));
  calls = epc_call 0xFF 0x13 ∷ [];
  shows = λ o. o ≡ aborted (with_idle_ab (allowing true true (on 10)) (allowing false true (on 20)));
}
-- "and aborts if there are none."
fact_of every_none = record {
  start = idled 7 (holding (replicate 5 (allowing true false (on 9))));
  calls = epc_call 0xFF 0x3 ∷ [];
  shows = λ o. o ≡ aborted (holding (replicate 5 (allowing true false (on 9))));
}
-- A single Count is as before: "for 0h, 2h, 3h, any selected one not changeable" aborts, a go to does not.
fact_of fixed_alone = record {
  start = idled 7 (with_idle_a (allowing true false (on 10)));
  calls = epc_call 0x81 0x3 ∷ [];
  shows = λ o. o ≡ aborted (with_idle_a (allowing true false (on 10)));
}
fact_of fixed_goes = record {
  start = idled 7 (with_idle_a (allowing true false (on 10)));
  calls = epc_call 0x81 0x1 ∷ [];
  shows = λ o. o ≡ done (with_power (Low IdleA Command) (with_idle_a (allowing true false (on 10))));
}
-- ---- document 02, request (vi). "11, between 4 and 5, for a new page asked of a draft unit or a page above 1".
fact_of number_11 = record { start = of_published fresh; calls = new_page 2 (replicate 512 0xA5) ∷ []; shows = is_refused 11 None }
fact_of draft_11 = record { start = fresh; calls = new_page 0 (replicate 512 0xA5) ∷ []; shows = is_refused 11 None }
fact_of one_before_11 = record { start = fresh; calls = new_page 0 (replicate 511 0xA5) ∷ []; shows = is_refused 1 None }
fact_of three_before_11 = record { start = sized 0 0 65536; calls = new_page 2 (replicate 512 0xA5) ∷ []; shows = is_refused 3 None }
fact_of eleven_not_4 = record { start = of_published out_unit; calls = new_page 1 (replicate 512 0xA5) ∷ []; shows = λ o. o.said ≡ plain (Ok tt) }
-- "page 0 has Idle_A, Idle_B, Idle_C at bytes 0, 64, 128; page 1 has Standby_y at 384, Standby_z at 448. In each: byte 1 flags from bit 7 down ..; bytes 4,
-- 8, 12 the default, saved and current timers, byte 16 recovery in tenths of a second (the record's milliseconds rounded up), each four bytes, low first".
fact_of idle_page = record {
  start = long_timers;
  calls = new_page 0 (replicate 512 0xA5) ∷ [];
  shows =
      λ o. o.buffer
      ≡ (0 ∷ 0x90 ∷ 0 ∷ 0 ∷ 4 ∷ 3 ∷ 2 ∷ 1 ∷ 0xFF ∷ 0xFF ∷ 0 ∷ 0 ∷ 0 ∷ 0 ∷ 1 ∷ 0 ∷ 2 ∷ 0 ∷ 0 ∷ 0 ∷ []) ++ replicate 44 0
      ++ (0 ∷ 0xC8 ∷ 0 ∷ 0 ∷ 0xA8 ∷ 0xFD ∷ 0x57 ∷ 0x02 ∷ 5 ∷ 4 ∷ 3 ∷ 2 ∷ 0 ∷ 0 ∷ 0 ∷ 0 ∷ 0x90 ∷ 2 ∷ 0 ∷ 0 ∷ []) ++ replicate 44 0
      ++ (0 ∷ 0xA4 ∷ 0 ∷ 0 ∷ 7 ∷ 0 ∷ 0 ∷ 0 ∷ 8 ∷ 0 ∷ 0 ∷ 0 ∷ 0xFF ∷ 0xFF ∷ 0xFF ∷ 0 ∷ 1 ∷ 0 ∷ 0 ∷ 0 ∷ []) ++ replicate 364 0;
}
fact_of standby_page = record {
  start = long_timers;
  calls = new_page 1 (replicate 512 0xA5) ∷ [];
  shows =
      λ o. o.buffer
      ≡ replicate 384 0
      ++ (0 ∷ 0xE0 ∷ 0 ∷ 0 ∷ 0 ∷ 0 ∷ 0 ∷ 0 ∷ 1 ∷ 0 ∷ 0 ∷ 0 ∷ 0 ∷ 1 ∷ 0 ∷ 0 ∷ 0 ∷ 0 ∷ 0 ∷ 0 ∷ []) ++ replicate 44 0
      ++ (0 ∷ 0xFC ∷ 0 ∷ 0 ∷ 1 ∷ 0 ∷ 0 ∷ 0 ∷ 2 ∷ 0 ∷ 0 ∷ 0 ∷ 0xA8 ∷ 0xFD ∷ 0x57 ∷ 0x02 ∷ 1 ∷ 0 ∷ 0 ∷ 0 ∷ []) ++ replicate 44 0;
}
-- "the old page asked of a new unit shows FFFFh for more than 65,535": Idle_A's words.
fact_of old_page = record {
  start = long_timers;
  calls = log_page (replicate 512 0xA5) ∷ [];
  shows =
      λ o. take 16 o.buffer
      ≡ 0x65 ∷ 0 ∷ 0 ∷ 0x80 ∷ 0 ∷ 0x80 ∷ 0xFF ∷ 0xFF ∷ 0 ∷ 0 ∷ 0xFF ∷ 0xFF ∷ 0 ∷ 0 ∷ 0xFF ∷ 0xFF ∷ [];
}
-- "Subcommand 2h takes LBA bit 7: one means minutes, 600 tenths each": five minutes, the most, none; "the draft still aborts on bit 7"; so does 3h.
fact_of minutes_set = record {
  start = idled 7 (of_published fresh);
  calls = epc_call 0x82 0x0005A2 ∷ [];
  shows = λ o. o ≡ done (of_published (with_idle_b (keeps off off (on 3000))));
}
fact_of minutes_saved = record {
  start = idled 7 (of_published fresh);
  calls = epc_call 0x82 0xFFFFB2 ∷ [];
  shows = λ o. o ≡ done (of_published (with_idle_b (keeps off (on 39321000) (on 39321000))));
}
fact_of minutes_zero = record { start = idled 7 (of_published fresh); calls = epc_call 0x82 0x0000A2 ∷ []; shows = λ o. o ≡ done (of_published fresh) }
fact_of draft_minutes = record { start = idled 7 fresh; calls = epc_call 0x82 0x0005A2 ∷ []; shows = λ o. o ≡ aborted fresh }
fact_of state_minutes = record { start = idled 7 (of_published fresh); calls = epc_call 0x82 0x0000A3 ∷ []; shows = λ o. o ≡ aborted (of_published fresh) }
-- "In the new edition timers reach 39,321,000 and the idle count stays there".
fact_of long_timer_3 = record { start = of_published (sized 39321001 0 0); calls = tick ∷ []; shows = is_refused 3 None }
fact_of long_idle_3 = record { start = of_published (sized 0 0 39321001); calls = tick ∷ []; shows = is_refused 3 None }
fact_of long_numbers = record { start = of_published (sized 39321000 65535 39321000); calls = tick ∷ []; shows = λ o. o.said ≡ plain (Ok tt) }
fact_of idle_goes_on = record { start = idled 65535 (of_published fresh); calls = tick ∷ []; shows = λ o. o ≡ done (idled 65536 (of_published fresh)) }
fact_of idle_fills =
    record { start = idled 39320999 (of_published fresh); calls = tick ∷ tick ∷ []; shows = λ o. o ≡ done (idled 39321000 (of_published fresh)) }
-- ---- document 02, request (vii). REQUEST SENSE "must no longer set the idle count to 0": neither where nothing is held nor where a held sense is told. A
-- disk that is polled falls asleep as in example g.
fact_of poll_keeps = record {
  start = idled 7 fresh;
  calls = request_sense 0 (replicate 18 0xFF) ∷ [];
  shows = λ o. (o.said ≡ plain (Ok tt)) × (o.unit ≡ idled 7 fresh);
}
fact_of told_keeps = record {
  start = with_held 3 (Some CommandSequence) (idled 7 fresh);
  calls = request_sense 3 (replicate 18 0xFF) ∷ [];
  shows = λ o. tells_deferred 0x0B 0x2C 0x00 o × (o.unit ≡ idled 7 fresh);
}
fact_of polled_sleeps = record {
  start = new (on 20) off off off (on 50);
  calls = replicate 10 tick ++ request_sense 0 (replicate 18 0xFF) ∷ replicate 10 tick;
  shows = is_in (Low IdleA Timer);
}

-- ---- the statement

-- Every fact holds of the step function.
abbrev pub Facts : StepFunction → Type 0
Facts by = (x : Fact) → IsShown by (fact_of x)
