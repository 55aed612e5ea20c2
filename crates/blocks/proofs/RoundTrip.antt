-- Each part goes back to its place: what the block sets are the lists' own values, place by place.
use Rattle.std.proofs.Common.{None, Option}
use mathlib.Core.Path.{◌≡◌}
use mathlib.Core.List.{List}
use Prim.Native.Nat.{ℕ}
use lib.ListN.{get_or}
use Rattle.drive.specs.Drives.{made, drive_of}
use Rattle.drive.specs.Records.{unsupported}
use Rattle.drive.specs.declared.Record.{Record}
use Rattle.transitions.specs.Counts.{table_of, flat_of}
use Rattle.unit.specs.Units.{unit_of}
use Rattle.unit.specs.declared.Unit.{Unit}
use Rattle.blocks.specs.RoundTrip.{SetsTheSame}
use Rattle.rows.proofs.Values.{values, own_values}
use Rattle.requests.specs.declared.Failure.{Failure}
use Rattle.unit.specs.declared.Slot.{Slot}
use Rattle.unit.specs.declared.Slot.TheVariants.{Empty}

with_lists : (u : Unit) (rs : List Record) (cs : List ℕ) (ss : List Slot) (hs : List (Option Failure))
    → rs ≡ u.drive.records → cs ≡ u.drive.counts → ss ≡ u.slots → hs ≡ u.held
    → unit_of u.edition (drive_of rs u.drive.power u.drive.idle.0 cs) u.stopped u.unsaved ss hs u.out ≡ u
with_lists u rs cs ss hs e f g h = rw (e, f, g, h)

pub round_trip : SetsTheSame
unfolding made table_of flat_of
round_trip u w =
    with_lists u
    (values (λ i. get_or u.drive.records i unsupported) 5)
    (values (λ i. get_or u.drive.counts i 0) 12)
    (values (λ i. get_or u.slots i Empty) 4)
    (values (λ i. get_or u.held i None) 4)
    (own_values _ _ 5 w.records) (own_values _ _ 12 w.counts) (own_values _ _ 4 w.slots) (own_values _ _ 4 w.held)
