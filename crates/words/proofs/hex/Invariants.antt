-- At each turn the value so far and the digits that are left make the word's value, and what is left are digits if all are.
-- Eight digits at most keep the value below 2^32.
use mathlib.Core.Path.{◌≡◌}
use Prim.Native.Nat.{◌*◌, ◌^◌, ◌<◌, ◌≤◌}
use lib.ListN.{length, drop}
use Rattle.words.specs.Numbers.{are_digits, value_after, value_of}
use Rattle.words.proofs.hex.Given as goal

abbrev pub invariant-loop-b : goal.invariant-loop-b
invariant-loop-b l = (length l.w ≤ 8)
    × (l.value < 2 ^ (4 * l.b-index))
    × (are_digits l.w ≡ are_digits (drop l.b-index l.w))
    × (value_of l.w ≡ value_after l.value (drop l.b-index l.w))
