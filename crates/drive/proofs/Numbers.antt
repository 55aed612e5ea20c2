-- A record's numbers: timers that are set pass, and zero numbers do.
use mathlib.Core.Path.{◌≡◌, refl}
use mathlib.Core.Bool.{Bool, true, false, not, ◌&&◌, and-true, and-false, or-true, or-false}
use Prim.Native.Nat.{ℕ}
use lib.Dec.{leb, eqb, leb-zero}
use borrow.Author.Tests.{eqb-true, ne_eqb, not-true}
use Rattle.rows.proofs.Places.{and_left, and_right}
use Rattle.drive.specs.Inner.{set_within, timers_set}
use Rattle.drive.specs.Records.{largest_recovery, setting_well_formed, setting_zero, others_zero, numbers_well_formed, record_well_formed}
use Rattle.drive.specs.declared.Setting.{Setting}
use Rattle.drive.specs.declared.Record.{Record}

zero_setting : (top : ℕ) (s : Setting) → setting_zero s ≡ true → setting_well_formed top s ≡ true
zero_setting top s h =
    rw (not-true s.enabled (and_left (not s.enabled) _ h), eqb-true s.timer.0 0 (and_right (not s.enabled) _ h), leb-zero top)

zero_numbers : (top : ℕ) (r : Record) → others_zero r ≡ true → numbers_well_formed top r ≡ true
zero_numbers top r h =
    let head = not r.saveable && not r.changeable && eqb r.recovery.0 0 in
    let d : (head && setting_zero r.default && setting_zero r.saved) ≡ true = and_left _ (setting_zero r.current) h in
    let e : (head && setting_zero r.default) ≡ true = and_left _ (setting_zero r.saved) d in
    let n : head ≡ true = and_left head (setting_zero r.default) e in
    rw (
      eqb-true r.recovery.0 0 (and_right (not r.saveable && not r.changeable) _ n),
      zero_setting top r.default (and_right head _ e),
      zero_setting top r.saved (and_right (head && setting_zero r.default) _ d),
      zero_setting top r.current (and_right (head && setting_zero r.default && setting_zero r.saved) _ h),
    )

-- Where the condition is supported the numbers decide.
pub supported_fine : (top : ℕ) (r : Record) → r.supported ≡ true → record_well_formed top r ≡ numbers_well_formed top r
unfolding record_well_formed
supported_fine top r h = rw (h, and-true)

-- Where it is not, everything must be zero, and then the numbers are fine.
pub unsupported_fine : (top : ℕ) (r : Record) → r.supported ≡ false → record_well_formed top r ≡ others_zero r
unfolding record_well_formed
unsupported_fine top r h = rw h (by (others_zero r) refl)
  where
    by : (b : Bool) → others_zero r ≡ b → (numbers_well_formed top r && others_zero r) ≡ others_zero r
    by true e = rw (e, and-true) (zero_numbers top r e)
    by false e = rw (e, and-false)

-- A timer of zero is within any bound, and its flag decides; of any other the bound does.
pub zero_timer : (top : ℕ) (s : Setting) → s.timer.0 ≡ 0 → not s.enabled ≡ setting_well_formed top s
zero_timer top s e = simp (e, leb-zero, or-false)

pub some_timer : (top : ℕ) (s : Setting) → (s.timer.0 ≡ 0 → ⊥) → leb s.timer.0 top ≡ setting_well_formed top s
some_timer top s other = simp (ne_eqb s.timer.0 0 other, or-true, and-true)

-- A setting whose timer is set within its bound is fine, on or off.
set_fine : (top : ℕ) (s : Setting) → set_within top s ≡ true → setting_well_formed top s ≡ true
set_fine top s h =
    rw (and_right (not (eqb s.timer.0 0)) (leb s.timer.0 top) h, and_left (not (eqb s.timer.0 0)) (leb s.timer.0 top) h, or-true)

-- Where the timers are set the recovery time decides.
pub timers_set_fine : (top : ℕ) (r : Record) → timers_set top r ≡ true → numbers_well_formed top r ≡ leb r.recovery.0 largest_recovery
timers_set_fine top r h =
    let both = and_left (set_within top r.default && set_within top r.saved) (set_within top r.current) h in
    simp (
      set_fine top r.default (and_left (set_within top r.default) (set_within top r.saved) both),
      set_fine top r.saved (and_right (set_within top r.default) (set_within top r.saved) both),
      set_fine top r.current (and_right (set_within top r.default && set_within top r.saved) (set_within top r.current) h),
      and-true,
    )
