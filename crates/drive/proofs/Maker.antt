-- What the maker said of the conditions stays, whatever the drive goes through.
use mathlib.Core.Path.{◌≡◌, refl, ap, ◌∙◌}
use mathlib.Core.List.{List, map, map-id}
use Prim.Native.Nat.{ℕ}
use Rattle.rows.proofs.Mapped.{map-map_at}
use Rattle.drive.specs.declared.Drive.{Drive}
use Rattle.drive.specs.declared.Made.{Made}
use Rattle.drive.specs.Drives.{maker_of, ticked, used, saved_restored, powered_on, made_record, made}
use Rattle.drive.proofs.Ticks.{tick_records}

-- A drive that is made shows what its maker said.
pub maker_made : (ms : List Made) → map maker_of (made ms).records ≡ ms
unfolding made
maker_made ms = map-map_at made_record (λ m. m) maker_of (λ i m. refl) ms ∙ map-id ms

-- A tick leaves what the maker said.
pub maker_ticked : (top : ℕ) (d : Drive) → map maker_of (ticked top d).records ≡ map maker_of d.records
maker_ticked top d = ap (map maker_of) (tick_records top d)

-- A use of the medium leaves it.
pub maker_used : (d : Drive) → map maker_of (used d).records ≡ map maker_of d.records
unfolding used
maker_used d = refl

-- Power-on leaves it: only saved settings become current.
pub maker_powered_on : (d : Drive) → map maker_of (powered_on d).records ≡ map maker_of d.records
unfolding powered_on used
maker_powered_on d = map-map_at saved_restored maker_of maker_of (λ i r. refl) d.records
