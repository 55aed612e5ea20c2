-- A value set at a host's place is there, every other host has what it had, and where it was there already nothing changes.
use Rattle.std.proofs.Common.{None, Option}
use mathlib.Core.Path.{◌≡◌, ap, sym, ◌∙◌}
use mathlib.Core.List.{List}
use Prim.Native.Nat.{ℕ, ◌<◌}
use lib.ListN.{length, set}
use lib.Seq.{get_or-set_same, get_or-set_other, set-get_or}
use Rattle.unit.specs.Units.{slot_of, held_of}
use Rattle.unit.specs.declared.Slot.{Slot}
use Rattle.requests.specs.declared.Failure.{Failure}
use Rattle.unit.specs.declared.Slot.TheVariants.{Empty}

pub own_slot : (slots : List Slot) (host : ℕ) (s : Slot) → host < length slots → slot_of (set slots host s) host ≡ s
own_slot slots host s h = get_or-set_same slots host s Empty h

pub own_held : (helds : List (Option Failure)) (host : ℕ) (h : Option Failure) → host < length helds → held_of (set helds host h) host ≡ h
own_held helds host h below = get_or-set_same helds host h None below

module _ (host k : ℕ) (other : k ≡ host → ⊥) where
  pub other_slot : (slots : List Slot) (s : Slot) → slot_of (set slots host s) k ≡ slot_of slots k
  other_slot slots s = get_or-set_other slots host k s Empty other

  pub other_held : (helds : List (Option Failure)) (h : Option Failure) → held_of (set helds host h) k ≡ held_of helds k
  other_held helds h = get_or-set_other helds host k h None other

pub held_again : (helds : List (Option Failure)) (host : ℕ) (h : Option Failure) → held_of helds host ≡ h → set helds host h ≡ helds
held_again helds host h e = ap (set helds host) (sym e) ∙ set-get_or helds host None
