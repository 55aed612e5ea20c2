-- What the timers ask for is the last place that has run out: the first that a search from below comes to. The code hands on its depth.
use mathlib.Core.Path.{◌≡◌, refl}
use mathlib.Core.Bool.{Bool, true, false}
use mathlib.Core.List.{List}
use Prim.Native.Nat.{ℕ, ◌-◌, ◌<◌, ◌≤◌}
use native.Mathlib.Omega.{arith}
use lib.Dec.{eqb}
use borrow.Author.Tests.{eqb-true, eqb-false, ne_eqb}
use Rattle.rows.proofs.Last.{LastAt, NoneAt, fold_last, fold_none}
use Rattle.conditions.specs.declared.Power.TheVariants.{Active, Low}
use Rattle.conditions.specs.declared.Cause.TheVariants.{Timer}
use Rattle.drive.specs.declared.Record.{Record}
use Rattle.conditions.specs.Conditions.{condition_at, depth}
use Rattle.drive.specs.Drives.{ran_out, timers_ask, by_timer}
use Rattle.conditions.proofs.Conditions.{place_at}

-- "enabled with timer at most the count", as a test of a row's places.
abbrev pub ran_out_at : ℕ → ℕ → Record → Bool
ran_out_at count place r = ran_out count r

-- (z stands where a list has no record.)
module _ (rs : List Record) (count : ℕ) (z : Record) where
  -- The timers ask for the last place that has run out,
  pub last_asked : (i : ℕ) → LastAt (ran_out_at count) rs z i → timers_ask rs count ≡ Low (condition_at i) Timer
  unfolding timers_ask
  last_asked = fold_last (ran_out_at count) (λ i. Low (condition_at i) Timer) Active rs z

  -- and for Active where none has.
  pub none_asked : NoneAt (ran_out_at count) rs z → timers_ask rs count ≡ Active
  unfolding timers_ask
  none_asked = fold_none (ran_out_at count) (λ i. Low (condition_at i) Timer) Active rs z

  -- "Look from Standby_z upwards and stop at the first that has run out": with none below it that has, it is the lowest, and asked for. Its depth is n,
  -- its place the one before.
  pub first_from_below : (n : ℕ) → 0 < n → LastAt (ran_out_at count) rs z (n - 1) → timers_ask rs count ≡ by_timer n
  first_from_below n k h = rw (ne_eqb n 0 (λ e. omega arith)) (last_asked (n - 1) h)

-- The depth of the power at a depth is that depth.
pub depth_by_timer : (n : ℕ) → n ≤ 5 → depth (by_timer n) ≡ n
depth_by_timer n h = by (eqb n 0) refl
  where
    by : (b : Bool) → eqb n 0 ≡ b → depth (by_timer n) ≡ n
    by true e = rw e (omega (arith, eqb-true n 0 e))
    by false e = rw (e, place_at (n - 1) (omega (arith, eqb-false n 0 e))) (omega (arith, eqb-false n 0 e))
