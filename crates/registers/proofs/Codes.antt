-- The Count codes, read and written.
use mathlib.Core.Path.{◌≡◌, refl}
use Prim.Native.Nat.{ℕ}
use borrow.Author.Tests.{ne_eqb}
use Rattle.conditions.specs.declared.Condition.{Condition}
use Rattle.conditions.specs.declared.Condition.TheVariants.{IdleA, IdleB, IdleC, StandbyY, StandbyZ}
use Rattle.registers.specs.Commands.{count_code, named}
use Rattle.registers.specs.declared.Named.TheVariants.{One, Unlisted}

-- The Count code of a condition names that condition and no other.
pub code_names : (c : Condition) → named (count_code c) ≡ One c
code_names IdleA = refl
code_names IdleB = refl
code_names IdleC = refl
code_names StandbyY = refl
code_names StandbyZ = refl

-- A code that is none of the six is not listed: the six stand as a `match` hands them over.
pub not_listed : (count : ℕ)
    → (((((Unit {0} × (count ≡ 0x00 → ⊥)) × (count ≡ 0x01 → ⊥)) × (count ≡ 0x81 → ⊥)) × (count ≡ 0x82 → ⊥)) × (count ≡ 0x83 → ⊥)) × (count ≡ 0xFF → ⊥)
    → named count ≡ Unlisted
not_listed count r =
    rw (
      ne_eqb count 0x00 r.0.0.0.0.0.1,
      ne_eqb count 0x01 r.0.0.0.0.1,
      ne_eqb count 0x81 r.0.0.0.1,
      ne_eqb count 0x82 r.0.0.1,
      ne_eqb count 0x83 r.0.1,
      ne_eqb count 0xFF r.1,
    )
