-- What a turn answers lies in the buffer, case by case.
use Rattle.std.proofs.Common.{Option, Some, None}
use mathlib.Core.Bool.{Bool, true, false, cond, ◌&&◌}
use Prim.Native.Nat.{ℕ, ◌≤◌}
use native.Mathlib.Omega.{arith}
use lib.Dec.{ltb}
use Rattle.intake.specs.Intake.{clamped, is_answered, pace_next}
use Rattle.intake.specs.declared.Pace.{Pace}

pub clamped_within : (got : Option ℕ) (most : ℕ) → clamped got most ≤ most
clamped_within (Some n) most = omega arith
clamped_within None most = omega arith

pub pace_within : (from to : ℕ) (written : Bool) (n most : ℕ) → to ≤ most → n ≤ most → (pace_next from to written n).to ≤ most
pace_within from to written n most h k = on (is_answered from to)
  where
    on : (t : Bool)
        → (cond {A = Pace} t (record { from = 0; to = n; goes = written && ltb 0 n }) (record { from = from; to = to; goes = written })).to ≤ most
    on true = k
    on false = h
