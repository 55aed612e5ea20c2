-- What the medium's use and a power-on leave of a drive.
use mathlib.Core.Path.{◌≡◌, refl}
use Rattle.rows.specs.Rows.{map_at}
use Rattle.drive.specs.Drives.{used, saved_restored, powered_on}
use Rattle.conditions.specs.declared.Power.TheVariants.{Active}
use Rattle.drive.specs.declared.Drive.{Drive}

-- Used, it has its records, is Active, and its idle count is 0.
pub used_leaves : (d : Drive) → ((used d).records ≡ d.records) × ((used d).power ≡ Active) × ((used d).idle ≡ record { 0 = 0 })
unfolding used
used_leaves d = (refl, refl, refl)

-- Powered on, so too, with each current setting the saved one.
pub powered_on_leaves : (d : Drive)
    → ((powered_on d).records ≡ map_at saved_restored 0 d.records) × ((powered_on d).power ≡ Active) × ((powered_on d).idle ≡ record { 0 = 0 })
unfolding powered_on used
powered_on_leaves d = (refl, refl, refl)
