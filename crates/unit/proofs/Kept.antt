-- A record made of picked fields is the record that was picked: by the flag, whether it is kept.
use Rattle.std.proofs.Common.{None, Option}
use mathlib.Core.Path.{◌≡◌, refl}
use mathlib.Core.Bool.{Bool, true, false, cond}
use Prim.Native.Nat.{ℕ}
use lib.ListN.{set, replicate}
use Rattle.drive.specs.Drives.{with_idle}
use Rattle.unit.specs.Units.{unit_of, with_drive, with_slot, with_out, without_hosts, rested}
use Rattle.unit.specs.declared.Slot.{Slot}
use Rattle.unit.specs.declared.Unit.{Unit}
use Rattle.unit.specs.declared.Slot.TheVariants.{Empty}

pub rest_kept : (kept : Bool) (u : Unit) → with_drive (with_idle (cond kept u.drive.idle.0 0) u.drive) u ≡ cond kept u (rested u)
rest_kept true u = refl
rest_kept false u = refl

pub slot_kept : (kept : Bool) (host : ℕ) (s : Slot) (u : Unit)
    → unit_of u.edition u.drive u.stopped u.unsaved (cond kept u.slots (set u.slots host s)) u.held u.out
    ≡ cond kept u (with_slot host s u)
slot_kept true host s u = refl
slot_kept false host s u = refl

pub out_kept : (kept : Bool) (next : Option ℕ) (u : Unit) → with_out (cond kept u.out next) u ≡ cond kept u (with_out next u)
out_kept true next u = refl
out_kept false next u = refl

abbrev fewer : Bool → Unit → Unit
fewer kept u =
    unit_of u.edition u.drive u.stopped u.unsaved (cond kept u.slots (replicate 4 Empty)) (cond kept u.held (replicate 4 None))
    u.out

pub hosts_kept : (kept : Bool) (u : Unit) → cond kept (fewer kept u) (with_out None (fewer kept u)) ≡ cond kept u (without_hosts u)
hosts_kept true u = refl
hosts_kept false u = refl
