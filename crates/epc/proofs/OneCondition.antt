-- A Count that names one condition: what the walk of all records finds is the word of the record at that condition's place.
use mathlib.Core.Path.{◌≡◌, refl}
use mathlib.Core.Bool.{Bool, true, false, ◌&&◌, and-false}
use mathlib.Core.List.{List}
use Prim.Native.Nat.{ℕ, ◌<◌}
use native.Mathlib.Omega.{arith}
use lib.Dec.{eqb}
use lib.ListN.{length, get_or}
use borrow.Author.Tests.{eq-eqb, eqb-true}
use Rattle.rows.specs.Rows.{some_at}
use Rattle.rows.proofs.Some.{none_from, some_from}
use Rattle.conditions.specs.Conditions.{place_of}
use Rattle.conditions.specs.declared.Condition.{Condition}
use Rattle.conditions.proofs.Conditions.{place_below}
use Rattle.drive.specs.Records.{unsupported}
use Rattle.drive.specs.declared.Record.{Record}
use Rattle.registers.specs.declared.Named.TheVariants.{One}
use Rattle.epc.specs.Epc.{selects, is_go_to}
use Rattle.epc.specs.Inner.{barred, unfit}
use Rattle.epc.specs.declared.Sub.{Sub}

-- A test that is asked at one place alone. (z stands where a list has no record.)
only_at_lem : (f : Record → Bool) (p : ℕ) (rs : List Record) (z : Record) → p < length rs → some_at (λ i r. eqb i p && f r) 0 rs ≡ f (get_or rs p z)
only_at_lem f p rs z k = on (f (get_or rs p z)) refl
  where
    other : (i : ℕ) (b : Bool) → eqb i p ≡ b → f (get_or rs p z) ≡ false → (b && f (get_or rs i z)) ≡ false
    other i true e h = rw (eqb-true i p e) h
    other i false e h = refl

    on : (b : Bool) → f (get_or rs p z) ≡ b → some_at (λ i r. eqb i p && f r) 0 rs ≡ b
    on true h = some_from (λ i r. eqb i p && f r) rs z p k (rw (eq-eqb p p refl, h))
    on false h = none_from (λ i r. eqb i p && f r) rs z (λ i _. other i (eqb i p) refl h)

-- Count is listed, is not FFh, and selects a condition: all that is left to ask is whether that one bars the subcommand.
pub one_unfit : (sub : Sub) (c : Condition) (saves : Bool) (rs : List Record) → length rs ≡ 5
    → unfit sub (One c) saves rs ≡ barred (is_go_to sub) saves (get_or rs (place_of c) unsupported)
one_unfit sub c saves rs five =
    let within : place_of c < length rs = omega (arith, place_below c) in
    rw (
      and-false (is_go_to sub),
      some_from (selects sub (One c)) rs unsupported (place_of c) within (eq-eqb (place_of c) (place_of c) refl),
      only_at_lem (barred (is_go_to sub) saves) (place_of c) rs unsupported within,
    )
