-- What the maker said of the five conditions stays through every call: what each effect does to the drive keeps it.
use mathlib.Core.Path.{◌≡◌, refl}
use mathlib.Core.List.{map}
use Rattle.drive.specs.Drives.{maker_of}
use Rattle.drive.proofs.Maker.{maker_ticked, maker_used, maker_powered_on}
use Rattle.epc.proofs.Effects.{maker_stays}
use Rattle.unit.specs.declared.Unit.{Unit}
use Rattle.calls.specs.Calls.{Call, outcome}
use Rattle.calls.proofs.Steps.{after_every}
use Rattle.unit.specs.Units.{largest_of}

-- No call changes what the maker said of a condition: whether it is supported, saveable or changeable, its recovery time, its default setting.
pub maker_kept : (u : Unit) (c : Call) → map maker_of (outcome u c).unit.drive.records ≡ map maker_of u.drive.records
maker_kept u = after_every (λ c v. map maker_of v.drive.records ≡ map maker_of u.drive.records) u (record {
  none = λ c. refl;
  aborts = λ q. refl;
  epc = λ q e. maker_stays q u.drive;
  ticks = λ e. maker_ticked (largest_of u) u.drive;
  reads = λ host. maker_used u.drive;
  writes = λ host. maker_used u.drive;
  powers_on = maker_powered_on u.drive;
  resets_hard = refl;
  resets_soft = refl;
  accepts = λ host cdb t e w. refl;
  sends = λ host e. refl;
  flushes = λ host reply q e f. refl;
  fails = λ host reply. refl;
  defers = λ host reply f. refl;
  succeeds = λ host reply q e. refl;
  tells = λ host buffer. refl;
})
