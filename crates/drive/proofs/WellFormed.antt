-- A well-formed drive is taken apart into its five records and its idle count and put together again; so every change keeps it well formed.
use mathlib.Core.Path.{◌≡◌, refl}
use mathlib.Core.Bool.{Bool, true, false, not, ◌&&◌, ◌||◌, cond, and-true}
use mathlib.Core.List.{List}
use mathlib.Core.Logic.{◌↔◌}
use Prim.Native.Nat.{ℕ, ◌+◌, ◌<◌, ◌≤◌}
use native.Mathlib.Omega.{arith}
use lib.Dec.{leb, ltb, eqb, leb-zero}
use lib.ListN.{length, get_or}
use borrow.Author.Tests.{eqb-true, eqb-false, eq-eqb, ne_eqb, leb-true, le-leb, ltb-true, not-true}
use Rattle.rows.specs.Rows.{every_at, map_at}
use Rattle.rows.proofs.Places.{and_left, and_right, and_both, every_from, every_at_lem, length-map_at}
use Rattle.rows.proofs.Mapped.{every_map_at}
use Rattle.drive.specs.declared.Setting.{Setting}
use Rattle.drive.specs.declared.Record.{Record}
use Rattle.conditions.specs.declared.Power.{Power}
use Rattle.conditions.specs.declared.Power.TheVariants.{Active}
use Rattle.drive.specs.declared.Drive.{Drive}
use Rattle.drive.specs.declared.Made.{Made}
use Rattle.drive.specs.Records.{largest_recovery, setting_well_formed, setting_zero, others_zero, unsupported, record_well_formed, records_well_formed, drive_well_formed}
use Rattle.drive.specs.Drives.{with_settings, with_records, with_idle, entered, restarted, counted, ticked, used, saved_restored, powered_on, made_record, made}
use Rattle.drive.proofs.Ticks.{tick_records, tick_idle}

-- ---- one setting

-- The parts of a well-formed setting: "no timer .. is above" the largest, "an enabled setting has a nonzero timer".
pub record SettingFine (top : ℕ) (s : Setting) : Type 0 where
  pub small : s.timer.0 ≤ top
  pub nonzero : s.enabled ≡ true → s.timer.0 ≡ 0 → ⊥

module _ (top : ℕ) (s : Setting) where
  setting_apart : setting_well_formed top s ≡ true → SettingFine top s
  setting_apart h =
      let timer = and_right (leb s.timer.0 top) (not s.enabled || not (eqb s.timer.0 0)) h in
      record {
        small = leb-true _ _ (and_left (leb s.timer.0 top) _ h);
        nonzero = λ on. eqb-false _ _ (not-true _ (rw on at timer));
      }

  setting_together : SettingFine top s → setting_well_formed top s ≡ true
  setting_together p = rw (le-leb _ _ p.small) (on s.enabled p.nonzero)
    where
      on : (b : Bool) → (b ≡ true → s.timer.0 ≡ 0 → ⊥) → (not b || not (eqb s.timer.0 0)) ≡ true
      on true h = rw (ne_eqb _ _ (h refl))
      on false h = refl

  pub setting_fine : (setting_well_formed top s ≡ true) ↔ SettingFine top s
  setting_fine = (setting_apart, setting_together)

zero_setting : (s : Setting) → setting_zero s ≡ true → s ≡ unsupported.default
zero_setting s h =
    let off : s.enabled ≡ false = not-true _ (and_left (not s.enabled) _ h) in
    let none : s.timer.0 ≡ 0 = eqb-true _ _ (and_right (not s.enabled) _ h) in
    rw (off, none)

-- ---- one record

-- The parts of a well-formed record.
pub record RecordFine (top : ℕ) (r : Record) : Type 0 where
  pub recovery : r.recovery.0 ≤ largest_recovery
  pub default : setting_well_formed top r.default ≡ true
  pub saved : setting_well_formed top r.saved ≡ true
  pub current : setting_well_formed top r.current ≡ true
  pub others : (r.supported || others_zero r) ≡ true

-- a conjunction of five tests, taken apart
five_tests : (a b c d e : Bool) → (a && b && c && d && e) ≡ true → (a ≡ true) × (b ≡ true) × (c ≡ true) × (d ≡ true) × (e ≡ true)
five_tests a b c d e h =
    let four : (a && b && c && d) ≡ true = and_left _ e h in
    let three : (a && b && c) ≡ true = and_left _ d four in
    let two : (a && b) ≡ true = and_left _ c three in
    (and_left a b two, and_right a b two, and_right (a && b) c three, and_right (a && b && c) d four, and_right (a && b && c && d) e h)

-- Where the condition is supported nothing need be zero; else what the maker said (a), and the settings before (b, c) and after (s, t).
zero_kept : (supported a b c s t : Bool) → (supported || a && b && c) ≡ true → (supported || s && t) ≡ true → (supported || a && s && t) ≡ true
zero_kept true a b c s t h k = refl
zero_kept false a b c s t h k =
    and_both _ _ (and_both _ _ (and_left a b (and_left (a && b) c h)) (and_left s t k)) (and_right s t k)

zero_saved : (supported a b c : Bool) → (supported || a && b && c) ≡ true → (supported || b && b) ≡ true
zero_saved true a b c h = refl
zero_saved false a b c h = let b-holds : b ≡ true = and_right a b (and_left (a && b) c h) in and_both b b b-holds b-holds

-- The part of "every other flag and number zero" that the maker said.
abbrev maker_zero : Record → Bool
maker_zero r = not r.saveable && not r.changeable && eqb r.recovery.0 0 && setting_zero r.default

-- "every other flag and number zero": this is that record.
pub zero_record : (r : Record) → r.supported ≡ false → others_zero r ≡ true → r ≡ unsupported
zero_record r none zero =
    let kept = and_left (maker_zero r && setting_zero r.saved) (setting_zero r.current) zero in
    let made = and_left (maker_zero r) (setting_zero r.saved) kept in
    let said = and_left (not r.saveable && not r.changeable && eqb r.recovery.0 0) (setting_zero r.default) made in
    let flags = and_left (not r.saveable && not r.changeable) (eqb r.recovery.0 0) said in
    rw (
      none,
      not-true r.saveable (and_left (not r.saveable) (not r.changeable) flags),
      not-true r.changeable (and_right (not r.saveable) (not r.changeable) flags),
      eqb-true r.recovery.0 0 (and_right (not r.saveable && not r.changeable) (eqb r.recovery.0 0) said),
      zero_setting r.default (and_right (not r.saveable && not r.changeable && eqb r.recovery.0 0) (setting_zero r.default) made),
      zero_setting r.saved (and_right (maker_zero r) (setting_zero r.saved) kept),
      zero_setting r.current (and_right (maker_zero r && setting_zero r.saved) (setting_zero r.current) zero),
    )

module _ (top : ℕ) (r : Record) where
  record_apart : record_well_formed top r ≡ true → RecordFine top r
  unfolding record_well_formed
  record_apart h =
      let parts = five_tests (leb r.recovery.0 largest_recovery) (setting_well_formed top r.default) (setting_well_formed top r.saved)
      (setting_well_formed top r.current) (r.supported || others_zero r) h in
      record { recovery = leb-true _ _ parts.0; default = parts.1; saved = parts.2; current = parts.3; others = parts.4 }

  record_together : RecordFine top r → record_well_formed top r ≡ true
  unfolding record_well_formed
  record_together p = rw (le-leb _ _ p.recovery, p.default, p.saved, p.current, p.others)

  -- "an unsupported condition has every other flag and number zero": it has this record.
  pub unsupported_is : record_well_formed top r ≡ true → r.supported ≡ false → r ≡ unsupported
  unsupported_is h none = zero_record r none (rw none at (record_apart h).others)

  -- A record is well formed exactly if its parts are fine.
  pub record_fine : (record_well_formed top r ≡ true) ↔ RecordFine top r
  record_fine = (record_apart, record_together)

module _ (top : ℕ) (r : Record) (fine : record_well_formed top r ≡ true) where
  -- A well-formed record stays so with any two well-formed settings for the saved and the current one, both zero if the condition is unsupported.
  pub settings_kept : (s t : Setting) → setting_well_formed top s ≡ true → setting_well_formed top t ≡ true
      → (r.supported || setting_zero s && setting_zero t) ≡ true → record_well_formed top (with_settings s t r) ≡ true
  settings_kept s t hs ht zero =
      let p : RecordFine top r = record_apart top r fine in
      record_together top (with_settings s t r) (record {
        recovery = p.recovery;
        default = p.default;
        saved = hs;
        current = ht;
        others = zero_kept r.supported (maker_zero r) (setting_zero r.saved) (setting_zero r.current) (setting_zero s) (setting_zero t) p.others zero;
      })

  -- Power-on keeps a record well formed: the saved setting takes the place of the current one.
  pub saved_kept : (place : ℕ) → record_well_formed top (saved_restored place r) ≡ true
  saved_kept place =
      let p : RecordFine top r = record_apart top r fine in
      settings_kept r.saved r.saved p.saved p.saved
      (zero_saved r.supported (maker_zero r) (setting_zero r.saved) (setting_zero r.current) p.others)

-- ---- the five records

-- The parts of a well-formed row of records. (z stands where a list has no record.)
pub record RecordsFine (top : ℕ) (z : Record) (rs : List Record) : Type 0 where
  pub five : length rs ≡ 5
  pub each : (i : ℕ) → i < 5 → record_well_formed top (get_or rs i z) ≡ true

-- Well-formed records are five.
pub records_five : (top : ℕ) (rs : List Record) → records_well_formed top rs ≡ true → length rs ≡ 5
unfolding records_well_formed
records_five top rs h = eqb-true _ _ (and_left (eqb (length rs) 5) (every_at (λ at r. record_well_formed top r) 0 rs) h)

module _ (top : ℕ) (z : Record) (rs : List Record) where
  records_apart : records_well_formed top rs ≡ true → RecordsFine top z rs
  unfolding records_well_formed
  records_apart h =
      let five : length rs ≡ 5 = records_five top rs h in
      let every = and_right (eqb (length rs) 5) (every_at (λ at r. record_well_formed top r) 0 rs) h in
      record { five = five; each = λ i k. every_at_lem (λ at r. record_well_formed top r) rs z every i (omega arith) }

  records_together : RecordsFine top z rs → records_well_formed top rs ≡ true
  unfolding records_well_formed
  records_together p =
      and_both _ _ (eq-eqb _ _ p.five) (every_from (λ at r. record_well_formed top r) rs z (λ i k. p.each i (omega (arith, p.five))))

  -- The records are well formed exactly if there are five and each is well formed.
  pub records_fine : (records_well_formed top rs ≡ true) ↔ RecordsFine top z rs
  records_fine = (records_apart, records_together)

-- A change that keeps each record well formed keeps the row.
pub records_kept : (top : ℕ) (change : ℕ → Record → Record)
    → ((i : ℕ) (r : Record) → record_well_formed top r ≡ true → record_well_formed top (change i r) ≡ true)
    → (rs : List Record) → records_well_formed top rs ≡ true → records_well_formed top (map_at change 0 rs) ≡ true
unfolding records_well_formed
records_kept top change keeps rs h =
    let every = every_at (λ at r. record_well_formed top r) 0 rs in
    rw (length-map_at change rs)
    (and_both _ _ (and_left (eqb (length rs) 5) every h)
    (every_map_at change (λ at r. record_well_formed top r) (λ at r. record_well_formed top r) keeps rs (and_right (eqb (length rs) 5) every h)))

-- ---- the drive

-- The parts of a well-formed drive.
pub record DriveFine (top : ℕ) (d : Drive) : Type 0 where
  pub records : records_well_formed top d.records ≡ true
  pub idle : d.idle.0 ≤ top

module _ (top : ℕ) (d : Drive) where
  drive_apart : drive_well_formed top d ≡ true → DriveFine top d
  unfolding drive_well_formed
  drive_apart h =
      let records = records_well_formed top d.records in
      let idle = leb d.idle.0 top in
      record { records = and_left records idle h; idle = leb-true _ _ (and_right records idle h) }

  drive_together : DriveFine top d → drive_well_formed top d ≡ true
  unfolding drive_well_formed
  drive_together p = and_both _ _ p.records (le-leb _ _ p.idle)

  -- A drive is well formed exactly if its records and its idle count are.
  pub drive_fine : (drive_well_formed top d ≡ true) ↔ DriveFine top d
  drive_fine = (drive_apart, drive_together)

-- ---- by another largest timer

-- No timer of a record is above a bound.
pub record TimersWithin (bound : ℕ) (r : Record) : Type 0 where
  pub default : r.default.timer.0 ≤ bound
  pub saved : r.saved.timer.0 ≤ bound
  pub current : r.current.timer.0 ≤ bound

module _ (top other : ℕ) where
  setting_within : (s : Setting) → s.timer.0 ≤ other → setting_well_formed top s ≡ true → setting_well_formed other s ≡ true
  setting_within s small h = setting_together other s (record { small = small; nonzero = (setting_apart top s h).nonzero })

  record_within : (r : Record) → TimersWithin other r → record_well_formed top r ≡ true → record_well_formed other r ≡ true
  record_within r small h =
      let p : RecordFine top r = record_apart top r h in
      record_together other r (record {
        recovery = p.recovery;
        default = setting_within r.default small.default p.default;
        saved = setting_within r.saved small.saved p.saved;
        current = setting_within r.current small.current p.current;
        others = p.others;
      })

  -- What is well formed by one largest timer is so by any other that no timer and no idle count is above. (z stands where a list has no record.)
  pub drive_within : (z : Record) (d : Drive) → ((i : ℕ) → i < 5 → TimersWithin other (get_or d.records i z)) → d.idle.0 ≤ other
      → drive_well_formed top d ≡ true → drive_well_formed other d ≡ true
  drive_within z d small idle h =
      let p : RecordsFine top z d.records = records_apart top z d.records (drive_apart top d h).records in
      drive_together other d (record {
        records =
            records_together other z d.records
            (record { five = p.five; each = λ i below. record_within (get_or d.records i z) (small i below) (p.each i below) });
        idle = idle;
      })

-- ---- what changes it keeps it well formed

counted_within : (top n : ℕ) → n ≤ top → counted top n ≤ top
counted_within top n k = either (ltb n top) refl
  where
    either : (b : Bool) → ltb n top ≡ b → cond b (n + 1) n ≤ top
    either true e = omega (arith, ltb-true n top e)
    either false e = k

-- A drive that leaves its maker is well formed exactly if its records are: the idle count is 0.
pub made_fine : (top : ℕ) (ms : List Made) → drive_well_formed top (made ms) ≡ records_well_formed top (map_at made_record 0 ms)
unfolding drive_well_formed made
made_fine top ms = rw (leb-zero top, and-true)

module _ (top : ℕ) (d : Drive) (fine : drive_well_formed top d ≡ true) where
  -- The records of a well-formed drive are well formed.
  pub drive_records : records_well_formed top d.records ≡ true
  drive_records = (drive_apart top d fine).records

  -- They are five.
  pub drive_five : length d.records ≡ 5
  drive_five = records_five top d.records drive_records

  -- The idle count is at most the largest.
  pub drive_idle : d.idle.0 ≤ top
  drive_idle = (drive_apart top d fine).idle

  -- A well-formed drive stays so with other well-formed records.
  pub with_records_fine : (rs : List Record) → records_well_formed top rs ≡ true → drive_well_formed top (with_records rs d) ≡ true
  with_records_fine rs h = drive_together top (with_records rs d) (record { records = h; idle = drive_idle })

  -- It stays so with any idle count up to the largest.
  pub with_idle_fine : (n : ℕ) → n ≤ top → drive_well_formed top (with_idle n d) ≡ true
  with_idle_fine n k = drive_together top (with_idle n d) (record { records = drive_records; idle = k })

  -- A restart of the idle count keeps it well formed.
  pub restarted_fine : drive_well_formed top (restarted d) ≡ true
  restarted_fine = with_idle_fine 0 (omega arith)

  -- A change of condition keeps it well formed.
  pub entered_fine : (p : Power) → drive_well_formed top (entered p d) ≡ true
  entered_fine p = drive_together top (entered p d) (record { records = drive_records; idle = drive_idle })

  -- A tick keeps it well formed: the idle count stops at the largest.
  pub ticked_fine : drive_well_formed top (ticked top d) ≡ true
  ticked_fine = drive_together top (ticked top d) (record {
    records = rw (tick_records top d) drive_records;
    idle = rw (tick_idle top d) (counted_within top d.idle.0 drive_idle);
  })

-- A use of the medium keeps a drive well formed.
pub used_fine : (top : ℕ) (d : Drive) → drive_well_formed top d ≡ true → drive_well_formed top (used d) ≡ true
unfolding used
used_fine top d fine = entered_fine top (restarted d) (restarted_fine top d fine) Active

-- Power-on keeps a drive well formed: a saved setting is as well formed as a current one, and stays zero where the condition is unsupported.
pub powered_on_fine : (top : ℕ) (d : Drive) → drive_well_formed top d ≡ true → drive_well_formed top (powered_on d) ≡ true
unfolding powered_on
powered_on_fine top d fine =
    let restored = records_kept top saved_restored (λ i r h. saved_kept top r h i) d.records (drive_records top d fine) in
    used_fine top _ (with_records_fine top d fine _ restored)
