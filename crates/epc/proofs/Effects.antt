-- What an accepted subcommand changes, field by field, and what it leaves as it was.
use mathlib.Core.Path.{◌≡◌, refl}
use mathlib.Core.Bool.{Bool, true, false, cond}
use mathlib.Core.List.{List, map}
use Prim.Native.Nat.{ℕ}
use lib.ListN.{get_or}
use borrow.Author.Tests.{ne_eqb}
use Rattle.rows.specs.Rows.{map_at}
use Rattle.rows.proofs.Choices.{either}
use Rattle.rows.proofs.Mapped.{map-map_at, place_kept}
use Rattle.conditions.specs.Conditions.{place_of}
use Rattle.drive.specs.Drives.{maker_of, restarted, with_records}
use Rattle.conditions.specs.declared.Condition.{Condition}
use Rattle.drive.specs.declared.Record.{Record}
use Rattle.drive.specs.declared.Drive.{Drive}
use Rattle.epc.specs.Epc.{sub_of, selects, is_go_to, changed, changed_at, gone_to, performed}
use Rattle.registers.specs.Commands.{named}
use Rattle.registers.specs.declared.Registers.{Registers}
use Rattle.epc.specs.declared.Sub.{Sub}
use Rattle.epc.specs.declared.Sub.TheVariants.{Restore, GoTo, SetTimer, SetState, Unknown}
use Rattle.registers.specs.declared.Named.{Named}
use Rattle.registers.specs.declared.Named.TheVariants.{One, Every, Unlisted}

-- ---- the drive after it, field by field

goes_records : (n : Named) (d : Drive) → (gone_to n d).records ≡ d.records
goes_records (One c) d = refl
goes_records Every d = refl
goes_records Unlisted d = refl

goes_idle : (n : Named) (d : Drive) → (gone_to n d).idle ≡ d.idle
goes_idle (One c) d = refl
goes_idle Every d = refl
goes_idle Unlisted d = refl

-- A go to changes no record; any other subcommand changes each by the rule of its place.
pub records_after : (q : Registers) (d : Drive)
    → (performed q d).records ≡ cond (is_go_to (sub_of q.lba)) d.records (map_at (changed_at q) 0 d.records)
unfolding performed
records_after q d = go (is_go_to (sub_of q.lba))
  where
    go : (b : Bool)
        → (cond b (gone_to (named q.count) (restarted d)) (with_records (map_at (changed_at q) 0 d.records) (restarted d))).records
        ≡ cond b d.records (map_at (changed_at q) 0 d.records)
    go true = goes_records (named q.count) (restarted d)
    go false = refl

-- The idle count restarts.
pub idle_after : (q : Registers) (d : Drive) → (performed q d).idle.0 ≡ 0
unfolding performed
idle_after q d =
    either (λ (e : Drive). e.idle.0 ≡ 0) (is_go_to (sub_of q.lba)) _ _ (rw (goes_idle (named q.count) (restarted d))) refl

-- Only a go to changes the power condition.
pub power_stays : (q : Registers) (d : Drive) → is_go_to (sub_of q.lba) ≡ false → (performed q d).power ≡ d.power
unfolding performed
power_stays q d e = rw e

-- ---- what stays

-- EPC on one condition leaves the other four alone: where Count names c, every place but c's holds the record that it held.
pub others_stay : (q : Registers) (d : Drive) (c : Condition) (i : ℕ) (z : Record) → named q.count ≡ One c → (i ≡ place_of c → ⊥)
    → get_or (performed q d).records i z ≡ get_or d.records i z
others_stay q d c i z e other =
    rw (records_after q d)
    (either (λ (l : List Record). get_or l i z ≡ get_or d.records i z) (is_go_to (sub_of q.lba)) _ _ refl
    (place_kept (changed_at q) d.records i z (rw (e, ne_eqb i (place_of c) other))))

changed_maker : (sub : Sub) (lba : ℕ) (r : Record) → maker_of (changed sub lba r) ≡ maker_of r
changed_maker Restore lba r = refl
changed_maker GoTo lba r = refl
changed_maker SetTimer lba r = refl
changed_maker SetState lba r = refl
changed_maker Unknown lba r = refl

-- What the maker said of the conditions (supported, saveable, changeable, recovery time, default) no subcommand changes.
pub maker_stays : (q : Registers) (d : Drive) → map maker_of (performed q d).records ≡ map maker_of d.records
maker_stays q d =
    rw (records_after q d)
    (either (λ (l : List Record). map maker_of l ≡ map maker_of d.records) (is_go_to (sub_of q.lba)) _ _ refl
    (map-map_at (changed_at q) maker_of maker_of
    (λ i r. either (λ (s : Record). maker_of s ≡ maker_of r) (selects (sub_of q.lba) (named q.count) i r) _ _
    (changed_maker (sub_of q.lba) q.lba r)
    refl)
    d.records))
