-- A drive that enters the power it has is kept. One that is powered on unless it is kept: each part's choice between kept and new, taken together, is
-- the choice between the whole drives.
use mathlib.Core.Path.{◌≡◌, refl, ap}
use mathlib.Core.Bool.{Bool, true, false, cond}
use mathlib.Core.List.{List, [], ◌∷◌}
use Prim.Native.Nat.{ℕ, suc}
use Rattle.rows.specs.Rows.{map_at}
use Rattle.transitions.proofs.Counts.{held_kept_lem}
use Rattle.drive.specs.declared.Record.{Record}
use Rattle.drive.specs.declared.Drive.{Drive}
use Rattle.drive.specs.Drives.{with_settings, with_records, entered, used, saved_restored, powered_on}

-- "going to the condition already held counts nothing".
pub entered_kept : (d : Drive) → entered d.power d ≡ d
entered_kept d = rw (held_kept_lem d.power d.counts)

-- A record whose current setting becomes the saved one unless it is kept.
abbrev pub restored_unless : Bool → ℕ → Record → Record
restored_unless kept place r = with_settings r.saved (cond kept r.current r.saved) r

-- Kept, every record is its own; else each is restored.
all_kept : (at : ℕ) (rs : List Record) → map_at (restored_unless true) at rs ≡ rs
all_kept at [] = refl
all_kept at (r ∷ rs) = ap (◌∷◌ r) (all_kept (suc at) rs)

pub restored_kept : (kept : Bool) (rs : List Record) → map_at (restored_unless kept) 0 rs ≡ cond kept rs (map_at saved_restored 0 rs)
restored_kept true rs = all_kept 0 rs
restored_kept false rs = refl

-- Records restored unless kept, then the drive used unless kept.
pub powered_on_kept : (kept : Bool) (d : Drive)
    → cond kept (with_records (cond kept d.records (map_at saved_restored 0 d.records)) d)
    (used (with_records (cond kept d.records (map_at saved_restored 0 d.records)) d))
    ≡ cond kept d (powered_on d)
unfolding powered_on
powered_on_kept true d = refl
powered_on_kept false d = refl
