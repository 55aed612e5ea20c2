-- Document 01, "Examples on both sides": the marked examples, a to m, as one table, and the one statement over it. The statement is about any step
-- function that is handed over, so it can be proved of `outcome` and refuted of a wrong one.
use Rattle.std.specs.Prelude.{true, false, List, [], ◌∷◌, ◌≡◌, ℕ, replicate, Ok, Err}
use Rattle.drive.specs.Drives.{with_settings, with_records, with_idle, made_record}
use Rattle.conditions.specs.declared.Condition.TheVariants.{IdleA, IdleB, StandbyY, StandbyZ}
use Rattle.conditions.specs.declared.Cause.TheVariants.{Timer, Command}
use Rattle.conditions.specs.declared.Power.{Power}
use Rattle.conditions.specs.declared.Power.TheVariants.{Active, Low}
use Rattle.drive.specs.declared.Edition.TheVariants.{Draft}
use Rattle.drive.specs.declared.Setting.{Setting}
use Rattle.drive.specs.declared.Record.{Record}
use Rattle.drive.specs.declared.Made.{Made}
use Rattle.unit.specs.Units.{with_power, with_drive, made_unit}
use Rattle.refusals.specs.Refusals.{number_of}
use Rattle.refusals.specs.declared.Refusal.TheVariants.{BadField, Aborted}
use Rattle.unit.specs.declared.Unit.{Unit}
use Rattle.registers.specs.Commands.{ata_command}
use Rattle.operations.specs.declared.Acceptance.TheVariants.{GoodDue}
use Rattle.requests.specs.declared.Reply.TheVariants.{Good}
use Rattle.calls.specs.Calls.{Call, set_features, tick, write, start_stop, next, answer, request_sense, plain, accepted, sent, Outcome, StepFunction}

-- ---- what an example is

-- A unit, the calls made on it in turn, and what the outcome of the last of them shows.
pub record Example : Type 1 where
  pub start : Unit
  pub calls : List Call
  pub shows : Outcome → Type 0

-- The outcome of the last call, by a given step function: each call is made on the record that the one before it left.
abbrev pub last_from : StepFunction → Outcome → List Call → Outcome
last_from by o [] = o
last_from by o (c ∷ cs) = last_from by (by o.unit c) cs

-- Before the first call nothing is said but that all is well.
abbrev pub untouched : Unit → Outcome
untouched u = record { said = plain (Ok tt); unit = u; buffer = [] }

abbrev pub IsShown : StepFunction → Example → Type 0
IsShown by x = x.shows (last_from by (untouched x.start) x.calls)

-- ---- the units that they start from

abbrev pub off : Setting
off = record { enabled = false; timer = record { 0 = 0 } }

abbrev pub on : ℕ → Setting
on tenths = record { enabled = true; timer = record { 0 = tenths } }

-- "all conditions supported, saveable, changeable".
abbrev pub makes : Setting → Made
makes default =
    record { supported = true; saveable = true; changeable = true; recovery = record { 0 = 0 }; default = default }

-- A new draft unit, by the settings of Idle_A, Idle_B, Idle_C, Standby_y and Standby_z: "current, saved and default agree", Active, idle count 0.
abbrev pub new : Setting → Setting → Setting → Setting → Setting → Unit
new a b c y z = made_unit Draft (makes a ∷ makes b ∷ makes c ∷ makes y ∷ makes z ∷ [])

-- "Timers are 0 and off unless given".
abbrev pub fresh : Unit
fresh = new off off off off off

-- A condition's record, by its default, saved and current setting.
abbrev pub keeps : Setting → Setting → Setting → Record
keeps default saved current = with_settings saved current (made_record 0 (makes default))

abbrev pub quiet : Record
quiet = keeps off off off

-- The new unit with these five records.
abbrev pub holding : List Record → Unit
holding rs = with_drive (with_records rs fresh.drive) fresh

-- The unit after some idle time, so that it shows what sets the count to 0 and what leaves it.
abbrev pub idled : ℕ → Unit → Unit
idled n u = with_drive (with_idle n u.drive) u

-- ---- calls and outcomes

-- "Command EFh, Feature 4Ah", with this Count and this LBA.
abbrev pub epc_call : ℕ → ℕ → Call
epc_call count lba = set_features (ata_command 0xEF 0x4A count lba)

-- START STOP UNIT from host 0, by the six bytes of its CDB.
abbrev pub cdb_call : ℕ → ℕ → ℕ → ℕ → ℕ → ℕ → Call
cdb_call b₀ b₁ b₂ b₃ b₄ b₅ = start_stop 0 (b₀ ∷ b₁ ∷ b₂ ∷ b₃ ∷ b₄ ∷ b₅ ∷ [])

-- The whole outcome: done, or refused, with the whole record after it.
abbrev pub done : Unit → Outcome
done u = record { said = plain (Ok tt); unit = u; buffer = [] }

abbrev pub aborted : Unit → Outcome
aborted u = record { said = plain (Err Aborted); unit = u; buffer = [] }

-- The unit is in this condition.
abbrev pub is_in : Power → Outcome → Type 0
is_in p o = (o.said ≡ plain (Ok tt)) × (o.unit.drive.power ≡ p)

-- The host is handed this command: Command, Feature, Count, LBA.
abbrev pub sends : ℕ → ℕ → ℕ → ℕ → Outcome → Type 0
sends command feature count lba o = o.said ≡ sent (Ok (ata_command command feature count lba))

-- ---- the table

-- The rows: the document's letters, with a number where a letter says several things.
pub data Marked : Type 0 where
  *a *b *c *d *e *f *g19 *g20 *g49 *g50 *h *i1 *i2 *j1 *j2 *j3 *k *l *m : Marked

abbrev pub example_of : Marked → Example
-- "Count 82h, LBA 012C22h: current Idle_B on, 300; saved untouched."
example_of *a = record {
  start = idled 7 fresh;
  calls = epc_call 0x82 0x012C22 ∷ [];
  shows = λ o. o ≡ done (holding (quiet ∷ keeps off off (on 300) ∷ quiet ∷ quiet ∷ quiet ∷ []));
}
-- "012C32h: saved too."
example_of *b = record {
  start = idled 7 fresh;
  calls = epc_call 0x82 0x012C32 ∷ [];
  shows = λ o. o ≡ done (holding (quiet ∷ keeps off (on 300) (on 300) ∷ quiet ∷ quiet ∷ quiet ∷ []));
}
-- "000022h: off, 0.": here from a timer that was on.
example_of *c = record {
  start = idled 7 (new off (on 300) off off off);
  calls = epc_call 0x82 0x000022 ∷ [];
  shows = λ o. o ≡ done (holding (quiet ∷ keeps (on 300) (on 300) off ∷ quiet ∷ quiet ∷ quiet ∷ []));
}
-- "Count FFh, LBA 50h: all current and saved become default."
example_of *d = record {
  start =
      idled 7
      (holding
      (keeps (on 10) (on 11) (on 12)
      ∷ keeps (on 20) (on 21) off
      ∷ keeps (on 30) off (on 32)
      ∷ keeps (on 40) off off
      ∷ keeps off (on 51) (on 52)
      ∷ []));
  calls = epc_call 0xFF 0x50 ∷ [];
  shows = λ o. o ≡ done (new (on 10) (on 20) (on 30) (on 40) off);
}
-- "Count FFh, LBA 1h: aborted."
example_of *e = record { start = idled 7 fresh; calls = epc_call 0xFF 0x1 ∷ []; shows = λ o. o ≡ aborted fresh }
-- "Count 82h, LBA 21h: aborted."
example_of *f = record { start = idled 7 fresh; calls = epc_call 0x82 0x21 ∷ []; shows = λ o. o ≡ aborted fresh }
-- "Idle_A 20, Standby_z 50: after 19 ticks Active, 20 Idle_A, 49 Idle_A, 50 Standby_z."
example_of *g19 = record { start = new (on 20) off off off (on 50); calls = replicate 19 tick; shows = is_in Active }
example_of *g20 = record { start = new (on 20) off off off (on 50); calls = replicate 20 tick; shows = is_in (Low IdleA Timer) }
example_of *g49 = record { start = new (on 20) off off off (on 50); calls = replicate 49 tick; shows = is_in (Low IdleA Timer) }
example_of *g50 = record { start = new (on 20) off off off (on 50); calls = replicate 50 tick; shows = is_in (Low StandbyZ Timer) }
-- "Standby_y 30, Idle_C 40: after 40 ticks Standby_y."
example_of *h = record { start = new off off (on 40) (on 30) off; calls = replicate 40 tick; shows = is_in (Low StandbyY Timer) }
-- "CDB 1B 00 00 01 20 00: E7h, then EFh 4Ah, Count 82h, LBA 1."
example_of *i1 = record {
  start = fresh;
  calls = cdb_call 0x1B 0x00 0x00 0x01 0x20 0x00 ∷ next 0 ∷ [];
  shows = sends 0xE7 0 0 0;
}
example_of *i2 = record {
  start = fresh;
  calls = cdb_call 0x1B 0x00 0x00 0x01 0x20 0x00 ∷ next 0 ∷ answer 0 Good ∷ next 0 ∷ [];
  shows = sends 0xEF 0x4A 0x82 1;
}
-- "1B 01 00 00 00 00: GOOD at once, E7h, E0h."
example_of *j1 = record {
  start = fresh;
  calls = cdb_call 0x1B 0x01 0x00 0x00 0x00 0x00 ∷ [];
  shows = λ o. o.said ≡ accepted (Ok GoodDue);
}
example_of *j2 = record {
  start = fresh;
  calls = cdb_call 0x1B 0x01 0x00 0x00 0x00 0x00 ∷ next 0 ∷ [];
  shows = sends 0xE7 0 0 0;
}
example_of *j3 = record {
  start = fresh;
  calls = cdb_call 0x1B 0x01 0x00 0x00 0x00 0x00 ∷ next 0 ∷ answer 0 Good ∷ next 0 ∷ [];
  shows = sends 0xE0 0 0 0;
}
-- "1B 00 00 00 02 00: number 8." A refusal returns the record as it came, idle count and all.
example_of *k = record {
  start = idled 7 fresh;
  calls = cdb_call 0x1B 0x00 0x00 0x00 0x02 0x00 ∷ [];
  shows =
      λ o. (o ≡ record { said = accepted (Err BadField); unit = idled 7 fresh; buffer = [] }) × (number_of BadField ≡ 8);
}
-- "Idle_B by command: 70 00 00 00 00 00 00 0A 00 00 00 00 5E 06 00 00 00 00."
example_of *l = record {
  start = with_power (Low IdleB Command) fresh;
  calls = request_sense 0 (replicate 18 0xFF) ∷ [];
  shows =
      λ o. o ≡ record {
        said = plain (Ok tt);
        unit = with_power (Low IdleB Command) fresh;
        buffer =
            0x70 ∷ 0x00 ∷ 0x00 ∷ 0x00 ∷ 0x00 ∷ 0x00 ∷ 0x00 ∷ 0x0A ∷ 0x00
            ∷ 0x00 ∷ 0x00 ∷ 0x00 ∷ 0x5E ∷ 0x06 ∷ 0x00 ∷ 0x00 ∷ 0x00 ∷ 0x00 ∷ [];
      };
}
-- "Host 0 stops, flush good, host 1 writes, host 0 asks: E7h again."
example_of *m = record {
  start = fresh;
  calls = cdb_call 0x1B 0x00 0x00 0x00 0x00 0x00 ∷ next 0 ∷ answer 0 Good ∷ write 1 ∷ next 0 ∷ [];
  shows = sends 0xE7 0 0 0;
}

-- ---- the statement

-- Every marked example holds of the step function.
abbrev pub Examples : StepFunction → Type 0
Examples by = (x : Marked) → IsShown by (example_of x)
