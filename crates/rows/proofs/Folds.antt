-- The end of a loop over a row that asks `every_at`: the code looks at the place i, and what is left to see is `drop i`.
use mathlib.Core.Path.{◌≡◌}
use mathlib.Core.Bool.{Bool, ◌&&◌, and-true}
use mathlib.Core.List.{List}
use Prim.Native.Nat.{ℕ, ◌≤◌}
use lib.ListN.{length, drop, drop_of_length-le}
use Rattle.rows.specs.Rows.{every_at}

module _ {A : Type 0} where
  pub every_end : (f : ℕ → A → Bool) (l : List A) (i : ℕ) (ok : Bool) → length l ≤ i → (ok && every_at f i (drop i l)) ≡ ok
  every_end f l i ok h = rw (drop_of_length-le l h, and-true)
