-- An accepted subcommand keeps a well-formed drive well formed, whatever the edition: said of a setting, of a record, then carried over the row. All that
-- is asked of the largest timer is that it holds what an accepted 2h sets.
use mathlib.Core.Path.{◌≡◌, refl}
use mathlib.Core.Bool.{Bool, true, false, not, ◌&&◌, ◌||◌, cond}
use mathlib.Core.List.{List}
use Prim.Native.Nat.{ℕ, ◌*◌, ◌≤◌}
use native.Mathlib.Omega.{arith}
use lib.Dec.{leb, eqb}
use lib.ListN.{length}
use borrow.Author.Tests.{eqb-true, eq-eqb, le-leb, not-false}
use Rattle.rows.specs.Rows.{every_at, map_at}
use Rattle.rows.proofs.Places.{and_left, and_right, and_both, length-map_at}
use Rattle.rows.proofs.Some.{or_left}
use Rattle.rows.proofs.Mapped.{test_kept}
use Rattle.drive.specs.Drives.{with_settings}
use Rattle.drive.specs.Records.{largest_timer, setting_well_formed, record_well_formed, records_well_formed, drive_well_formed}
use Rattle.drive.proofs.WellFormed.{record_fine, settings_kept}
use Rattle.drive.specs.declared.Edition.{Edition}
use Rattle.drive.specs.declared.Edition.TheVariants.{Draft, Published}
use Rattle.drive.specs.declared.Setting.{Setting}
use Rattle.drive.specs.declared.Record.{Record}
use Rattle.drive.specs.declared.Drive.{Drive}
use Rattle.epc.specs.Epc.{sub_of, save, enable, minutes, timer_in, reserved_below, from_default, selects, is_go_to, timer_set, flag_set, changed, changed_at, aborts, performed}
use Rattle.bits.specs.Bits.{bits}
use Rattle.registers.specs.Commands.{named}
use Rattle.epc.specs.Inner.{barred, selected_barred}
use Rattle.registers.specs.declared.Registers.{Registers}
use Rattle.epc.specs.declared.Sub.{Sub}
use Rattle.epc.specs.declared.Sub.TheVariants.{Restore, GoTo, SetTimer, SetState, Unknown}
use Rattle.epc.proofs.Clauses.{none_reserved, none_barred}
use Rattle.rows.proofs.Choices.{either}
use Rattle.epc.proofs.Effects.{records_after, idle_after}

-- ---- a setting

-- a flag that is set only with a nonzero timer
flag_ok : (enables nonzero : Bool) → (not (enables && nonzero) || nonzero) ≡ true
flag_ok true true = refl
flag_ok true false = refl
flag_ok false nonzero = refl

-- a condition is changed only if it is selected and does not bar the subcommand, and then it is supported
unbarred_supported : (goes saves : Bool) (r : Record) → barred goes saves r ≡ false → r.supported ≡ true
unbarred_supported goes saves r k =
    not-false r.supported (or_left (not r.supported) _ (or_left (not r.supported || not goes && not r.changeable) _ k))

-- The bits of the timer, in tenths or in minutes.
minutes_small : (lba : ℕ) → timer_in lba ≤ largest_timer Published
minutes_small lba = either (λ (n : ℕ). n ≤ largest_timer Published) (minutes lba) _ _ (omega arith) (omega arith)

-- The most that can be set is the largest timer.
pub minutes_reach : largest_timer Published ≡ 600 * 65535
minutes_reach = refl

-- "the draft still aborts on bit 7", so what it takes are tenths.
tenths_only : (lba : ℕ) → reserved_below Draft lba ≡ false → minutes lba ≡ false
tenths_only lba h =
    let none : bits 7 6 lba ≡ 0 = eqb-true _ _ (not-false _ h) in
    rw (eq-eqb (bits 7 7 lba) 0 (omega arith))

pub timer_fits : (ed : Edition) (lba : ℕ) → reserved_below ed lba ≡ false → timer_in lba ≤ largest_timer ed
timer_fits Draft lba h = rw (tenths_only lba h) (omega arith)
timer_fits Published lba h = minutes_small lba

-- What is set fits, if a timer is set at all.
abbrev Fits : ℕ → Sub → ℕ → Type 0
Fits top sub lba = sub ≡ SetTimer → timer_in lba ≤ top

module _ (top : ℕ) where
  abbrev SettingOk : Setting → Type 0
  SettingOk s = setting_well_formed top s ≡ true

  timer_set_ok : (lba : ℕ) → timer_in lba ≤ top → SettingOk (timer_set lba)
  timer_set_ok lba small = rw (le-leb (timer_in lba) top small) (flag_ok (enable lba) (not (eqb (timer_in lba) 0)))

  flag_set_ok : (lba : ℕ) (s : Setting) → SettingOk s → SettingOk (flag_set lba s)
  flag_set_ok lba s h =
      rw (and_left (leb s.timer.0 top) (not s.enabled || not (eqb s.timer.0 0)) h)
      (flag_ok (enable lba) (not (eqb s.timer.0 0)))

  -- ---- a record

  abbrev RecordOk : Record → Type 0
  RecordOk r = record_well_formed top r ≡ true

  -- a supported condition may take any two settings that are well formed
  settled_ok : (s t : Setting) (r : Record) → RecordOk r → r.supported ≡ true → SettingOk s → SettingOk t → RecordOk (with_settings s t r)
  settled_ok s t r h sup p q = settings_kept top r h s t p q (rw sup)

  -- and so an EPC effect on it keeps its record well formed
  changed_ok : (sub : Sub) (lba : ℕ) (r : Record) → Fits top sub lba → RecordOk r → r.supported ≡ true → RecordOk (changed sub lba r)
  changed_ok Restore lba r fits h sup =
      let fine = (record_fine top r).0 h in
      let t = either SettingOk (from_default lba) _ _ fine.default fine.saved in
      settled_ok _ _ r h sup (either SettingOk (save lba) _ _ t fine.saved) t
  changed_ok GoTo lba r fits h sup = h
  changed_ok SetTimer lba r fits h sup =
      let fine = (record_fine top r).0 h in
      let t = timer_set_ok lba (fits refl) in
      settled_ok _ _ r h sup (either SettingOk (save lba) _ _ t fine.saved) t
  changed_ok SetState lba r fits h sup =
      let fine = (record_fine top r).0 h in
      let saved = either SettingOk (save lba) _ _ (flag_set_ok lba r.saved fine.saved) fine.saved in
      settled_ok _ _ r h sup saved (flag_set_ok lba r.current fine.current)
  changed_ok Unknown lba r fits h sup = h

  changed_at_ok : (selected goes : Bool) (sub : Sub) (lba : ℕ) (r : Record) → Fits top sub lba → RecordOk r
      → (selected && barred goes (save lba) r) ≡ false → RecordOk (cond selected (changed sub lba r) r)
  changed_at_ok true goes sub lba r fits h k = changed_ok sub lba r fits h (unbarred_supported goes (save lba) r k)
  changed_at_ok false goes sub lba r fits h k = h

-- ---- the row and the drive

module _ (ed : Edition) (q : Registers) (d : Drive) (accepted : aborts ed q d.records ≡ false) where
  abbrev top : ℕ
  top = largest_timer ed

  abbrev sub : Sub
  sub = sub_of q.lba

  set_fits : Fits top sub q.lba
  set_fits e = timer_fits ed q.lba (or_left (reserved_below ed q.lba) _ (rw e at (none_reserved ed q d.records accepted)))

  row_ok : records_well_formed top d.records ≡ true → records_well_formed top (map_at (changed_at q) 0 d.records) ≡ true
  unfolding records_well_formed
  row_ok h =
      let n = named q.count in
      rw (length-map_at (changed_at q) d.records, and_left (eqb (length d.records) 5) (every_at (λ at r. record_well_formed top r) 0 d.records) h)
      (test_kept (λ at r. record_well_formed top r) (selected_barred sub n (save q.lba)) (changed_at q) 0 d.records
      (λ i r. changed_at_ok top (selects sub n i r) (is_go_to sub) sub q.lba r set_fits)
      (and_right (eqb (length d.records) 5) _ h)
      (none_barred ed q d.records accepted))

  -- Well formed in, well formed out: a subcommand that is not aborted leaves every timer in its bound, a flag only on a nonzero timer, and nothing set in
  -- an unsupported condition.
  pub stays_well_formed : drive_well_formed top d ≡ true → drive_well_formed top (performed q d) ≡ true
  unfolding drive_well_formed
  stays_well_formed h =
      let row = and_left (records_well_formed top d.records) (leb d.idle.0 top) h in
      rw (idle_after q d, records_after q d)
      (and_both _ _ (either (λ (l : List Record). records_well_formed top l ≡ true) (is_go_to sub) _ _ row (row_ok row)) (le-leb 0 top (omega arith)))
