-- Laws about the held senses: how many there are, and what a failure leaves held.
use Rattle.std.proofs.Common.{Some, Option}
use mathlib.Core.Path.{◌≡◌, refl}
use mathlib.Core.Bool.{Bool, true, false, cond}
use mathlib.Core.List.{List}
use Prim.Native.Nat.{ℕ, ◌<◌}
use native.Mathlib.Omega.{arith}
use lib.Dec.{ltb}
use lib.ListN.{length, set}
use borrow.Author.Tests.{ltb-false}
use Rattle.conditions.specs.declared.Power.TheVariants.{Active}
use Rattle.unit.specs.Units.{well_formed, with_slot, with_power}
use Rattle.requests.specs.declared.Request.{Request}
use Rattle.unit.specs.declared.Slot.TheVariants.{Empty}
use Rattle.requests.specs.declared.Failure.{Failure}
use Rattle.operations.specs.Operations.{failure_of}
use Rattle.unit.specs.declared.Unit.{Unit}
use Rattle.exchange.specs.Answered.{taken, held_if, failed}
use Rattle.unit.proofs.WellFormed.{unit_fine}

pub held_inside : (u : Unit) (host : ℕ) → well_formed u ≡ true → ltb 3 host ≡ false → host < length u.held
held_inside u host fine h = omega (arith, ((unit_fine u).0 fine).held, ltb-false 3 host h)

-- A failure is held with IMMED, and only then.
abbrev pub held_after : List (Option Failure) → ℕ → Bool → Failure → List (Option Failure)
held_after helds host immediate f = cond immediate (set helds host (Some f)) helds

pub failed_held : (u : Unit) (host : ℕ) (q : Request) (n : ℕ) → (failed u host q n).unit.held ≡ held_after u.held host q.immed (failure_of q.target)
failed_held u host q n = on q.immed (with_slot host Empty (with_power Active (taken u)))
  where
    on : (b : Bool) (v : Unit) → (held_if b host (failure_of q.target) v).held ≡ held_after v.held host b (failure_of q.target)
    on true v = refl
    on false v = refl
