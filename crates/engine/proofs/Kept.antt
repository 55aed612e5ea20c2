-- A record made of picked fields is the one that was picked: by the flag, whether it is kept.
use mathlib.Core.Path.{◌≡◌, refl, ap}
use mathlib.Core.Bool.{Bool, true, false, not, ◌&&◌, ◌||◌, cond, and-true, and-false, or-true, or-false}
use Prim.Native.Nat.{ℕ}
use Rattle.drive.proofs.Kept.{entered_kept}
use Rattle.drive.specs.Drives.{with_idle, entered, counted, timers_ask, fallen, ticked, used, powered_on}
use Rattle.unit.specs.Units.{is_out, largest_of, with_drive, with_marks, without_hosts}
use Rattle.unit.specs.declared.Unit.{Unit}
use Rattle.engine.specs.Engine.{tick_effect, read_effect, write_effect, power_on_effect}

-- The idle count that a tick reaches.
abbrev next_count : Unit → ℕ
next_count u = counted (largest_of u) u.drive.idle.0

-- Count and power each picked by whether they are still.
abbrev moved_unless : Bool → Unit → Unit
moved_unless still u =
    with_drive
    (entered (cond still u.drive.power (fallen (timers_ask u.drive.records (next_count u)) u.drive.power))
    (with_idle (cond still u.drive.idle.0 (next_count u)) u.drive))
    u

-- They move together, or neither does.
moved : (still : Bool) (u : Unit) → moved_unless still u ≡ cond still u (with_drive (ticked (largest_of u) u.drive) u)
unfolding ticked
moved true u = ap (λ d. with_drive d u) (entered_kept u.drive)
moved false u = refl

-- Still where the tick is refused or a command is out.
pub tick_kept : (kept : Bool) (u : Unit) → moved_unless (kept || is_out u.out) u ≡ cond kept u (tick_effect u)
tick_kept true u = moved true u
tick_kept false u = moved (is_out u.out) u

pub read_kept : (kept : Bool) (u : Unit) → with_drive (cond kept u.drive (used u.drive)) u ≡ cond kept u (read_effect u)
read_kept true u = refl
read_kept false u = refl

-- "a write also sets the unsaved mark."
pub write_kept : (kept : Bool) (u : Unit)
    → with_marks u.stopped (u.unsaved || not kept) (cond kept u (read_effect u)) ≡ cond kept u (write_effect u)
write_kept true u = rw or-false
write_kept false u = rw or-true

abbrev on : Bool → Unit → Unit
on kept u = with_marks (u.stopped && kept) (u.unsaved && kept) (with_drive (cond kept u.drive (powered_on u.drive)) u)

pub power_on_kept : (kept : Bool) (u : Unit) → cond kept (on kept u) (without_hosts (on kept u)) ≡ cond kept u (power_on_effect u)
power_on_kept true u = rw (and-true u.stopped, and-true u.unsaved)
power_on_kept false u = rw (and-false u.stopped, and-false u.unsaved)
