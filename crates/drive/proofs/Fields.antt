-- What a tick leaves of records, power and idle count comes of these three alone, whatever else a drive may carry. (The records stay: Ticks · tick_records.)
use mathlib.Core.Path.{◌≡◌, refl, sym, ◌∙◌}
use Prim.Native.Nat.{ℕ}
use Rattle.drive.specs.Drives.{counted, fallen, timers_ask, ticked}
use Rattle.drive.specs.declared.Drive.{Drive}

module _ (top : ℕ) (d : Drive) where
  pub tick_power : (ticked top d).power ≡ fallen (timers_ask d.records (counted top d.idle.0)) d.power
  unfolding ticked
  tick_power = refl

  pub tick_count : (ticked top d).idle ≡ record { 0 = counted top d.idle.0 }
  unfolding ticked
  tick_count = refl

-- So drives that are alike in the three fall alike and count alike.
pub fall_alike : (top : ℕ) (d e : Drive) → d.records ≡ e.records → d.power ≡ e.power → d.idle ≡ e.idle
    → (ticked top d).power ≡ (ticked top e).power
fall_alike top d e records power idle = tick_power top d ∙ rw (records, power, idle) (sym (tick_power top e))

pub count_alike : (top : ℕ) (d e : Drive) → d.idle ≡ e.idle → (ticked top d).idle ≡ (ticked top e).idle
count_alike top d e idle = tick_count top d ∙ rw idle (sym (tick_count top e))
