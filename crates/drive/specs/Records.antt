-- Document 01, "Conditions and settings": when the records of the five conditions are well formed.
-- The largest timer is a parameter, `top`, which the edition fixes; recovery times have a bound of their own.
use Rattle.std.specs.Prelude.{Bool, false, not, ◌&&◌, ◌||◌, List, ℕ, leb, eqb, length}
use Rattle.rows.specs.Rows.{every_at}
use Rattle.drive.specs.declared.Edition.{Edition}
use Rattle.drive.specs.declared.Edition.TheVariants.{Draft, Published}
use Rattle.drive.specs.declared.Setting.{Setting}
use Rattle.drive.specs.declared.Record.{Record}
use Rattle.drive.specs.declared.Drive.{Drive}

-- "a timer of 0 to 65,535"; "no timer, recovery time or idle count is above 65,535". Document 02, request (vi): "In the new edition timers reach
-- 39,321,000 and the idle count stays there"; of recovery times it says nothing.
abbrev pub largest_timer : Edition → ℕ
largest_timer Draft = 65535
largest_timer Published = 39321000

abbrev pub largest_recovery : ℕ
largest_recovery = 65535

-- "no timer .. is above" the largest, "an enabled setting has a nonzero timer".
abbrev pub setting_well_formed : ℕ → Setting → Bool
setting_well_formed top s = leb s.timer.0 top && (not s.enabled || not (eqb s.timer.0 0))

-- "an unsupported condition has every other flag and number zero".
abbrev pub setting_zero : Setting → Bool
setting_zero s = not s.enabled && eqb s.timer.0 0

abbrev pub others_zero : Record → Bool
others_zero r =
    not r.saveable && not r.changeable && eqb r.recovery.0 0
    && setting_zero r.default && setting_zero r.saved && setting_zero r.current

-- So this is the record of every unsupported condition.
abbrev pub unsupported : Record
unsupported = record {
  supported = false;
  saveable = false;
  changeable = false;
  recovery = record { 0 = 0 };
  default = record { enabled = false; timer = record { 0 = 0 } };
  saved = record { enabled = false; timer = record { 0 = 0 } };
  current = record { enabled = false; timer = record { 0 = 0 } };
}

-- The numbers and the enabled flags of a record.
abbrev pub numbers_well_formed : ℕ → Record → Bool
numbers_well_formed top r =
    leb r.recovery.0 largest_recovery
    && setting_well_formed top r.default && setting_well_formed top r.saved && setting_well_formed top r.current

-- One condition's record.
unfoldable pub record_well_formed : ℕ → Record → Bool
record_well_formed top r = numbers_well_formed top r && (r.supported || others_zero r)

-- "The five conditions each have a record, five of a kind side by side".
unfoldable pub records_well_formed : ℕ → List Record → Bool
records_well_formed top rs = eqb (length rs) 5 && every_at (λ at r. record_well_formed top r) 0 rs

-- "no .. idle count is above" the largest timer. That the cause is timer or command below Active and none in Active, the
-- type `Power` keeps. Of the transition counts nothing is asked: any 32 bits will do.
unfoldable pub drive_well_formed : ℕ → Drive → Bool
drive_well_formed top d = records_well_formed top d.records && leb d.idle.0 top
