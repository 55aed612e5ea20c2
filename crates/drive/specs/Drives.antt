-- Document 01, "Conditions and settings" and "Ticks, medium calls, resets", as far as they speak of the drive alone; document 02, request (i).
use Rattle.std.specs.Prelude.{Bool, ◌&&◌, cond, List, ℕ, ◌+◌, ◌-◌, leb, ltb, eqb, replicate}
use Rattle.rows.specs.Rows.{fold_at, map_at}
use Rattle.conditions.specs.Conditions.{condition_at, depth}
use Rattle.transitions.specs.Counts.{counts_after}
use Rattle.drive.specs.declared.Setting.{Setting}
use Rattle.drive.specs.declared.Record.{Record}
use Rattle.conditions.specs.declared.Power.{Power}
use Rattle.conditions.specs.declared.Power.TheVariants.{Active, Low}
use Rattle.conditions.specs.declared.Cause.TheVariants.{Timer}
use Rattle.drive.specs.declared.Drive.{Drive}
use Rattle.drive.specs.declared.Made.{Made}

-- ---- the builders: every changed record is made by `with_settings`, and `drive_of` is the one literal of a drive

-- A record with another saved and another current setting.
abbrev pub with_settings : Setting → Setting → Record → Record
with_settings s t r = record {
  supported = r.supported;
  saveable = r.saveable;
  changeable = r.changeable;
  recovery = r.recovery;
  default = r.default;
  saved = s;
  current = t;
}

abbrev pub drive_of : List Record → Power → ℕ → List ℕ → Drive
drive_of rs p n counts = record { records = rs; power = p; idle = record { 0 = n }; counts = counts }

abbrev pub with_records : List Record → Drive → Drive
with_records rs d = drive_of rs d.power d.idle.0 d.counts

abbrev pub with_idle : ℕ → Drive → Drive
with_idle n d = drive_of d.records d.power n d.counts

-- For a record that is set up from parts: no call of the layer changes the counts but by entering a condition.
abbrev pub with_counts : List ℕ → Drive → Drive
with_counts counts d = drive_of d.records d.power d.idle.0 counts

-- Every change of condition is this one. "The unit's record gains six counts, entries into Active and each of the five conditions" (document 02,
-- request (i)): it is counted here.
abbrev pub entered : Power → Drive → Drive
entered p d = drive_of d.records p d.idle.0 (counts_after d.power p d.counts)

-- ---- the idle count

-- "sets the idle count to 0".
abbrev pub restarted : Drive → Drive
restarted d = with_idle 0 d

-- "adds 1 to the idle count, which stays at" the largest timer: 65,535, or of the new edition 39,321,000, "and the idle count stays there".
abbrev pub counted : ℕ → ℕ → ℕ
counted top n = cond (ltb n top) (n + 1) n

-- ---- a tick

-- "whose current setting is enabled with timer at most the count".
abbrev pub ran_out : ℕ → Record → Bool
ran_out count r = r.current.enabled && leb r.current.timer.0 count

-- "the lowest-power condition whose current setting is enabled with timer at most the count", with the cause timer; Active if there is none.
-- The conditions stand in falling power and each has its say in turn, so the last one that has run out is the lowest.
abbrev pub heard : ℕ → ℕ → Record → Power → Power
heard count place r asked = cond (ran_out count r) (Low (condition_at place) Timer) asked

unfoldable pub timers_ask : List Record → ℕ → Power
timers_ask rs count = fold_at (heard count) 0 Active rs

-- The power that a depth stands for, by a timer.
abbrev pub by_timer : ℕ → Power
by_timer n = cond (eqb n 0) Active (Low (condition_at (n - 1)) Timer)

-- "is entered, cause timer, if it is below the present one; else nothing moves".
abbrev pub fallen : Power → Power → Power
fallen asked present = cond (ltb (depth present) (depth asked)) asked present

-- "A tick .. adds 1 to the idle count .. Then the lowest-power condition .. is entered".
unfoldable pub ticked : ℕ → Drive → Drive
ticked top d =
    entered (fallen (timers_ask d.records (counted top d.idle.0)) d.power) (with_idle (counted top d.idle.0) d)

-- ---- the medium, power-on, manufacture

-- "A read or write makes the unit Active, idle count 0"; power-on leaves the drive so too.
unfoldable pub used : Drive → Drive
used d = entered Active (restarted d)

-- "Power-on: current becomes saved for all five; Active; idle count 0"; request (i): "a power-on change to Active counts as use".
abbrev pub saved_restored : ℕ → Record → Record
saved_restored place r = with_settings r.saved r.saved r

unfoldable pub powered_on : Drive → Drive
powered_on d = used (with_records (map_at saved_restored 0 d.records) d)

-- "At manufacture current, saved and default agree": Active, idle count 0. "the history since manufacture": nothing is counted yet.
abbrev pub made_record : ℕ → Made → Record
made_record place m = record {
  supported = m.supported;
  saveable = m.saveable;
  changeable = m.changeable;
  recovery = m.recovery;
  default = m.default;
  saved = m.default;
  current = m.default;
}

unfoldable pub made : List Made → Drive
made ms = drive_of (map_at made_record 0 ms) Active 0 (replicate 12 0)

-- What the maker said of a condition: the part of its record that no call changes.
abbrev pub maker_of : Record → Made
maker_of r = record {
  supported = r.supported;
  saveable = r.saveable;
  changeable = r.changeable;
  recovery = r.recovery;
  default = r.default;
}
