-- A copy over the whole of a buffer of the same length leaves just what was copied.
use mathlib.Core.Path.{◌≡◌}
use mathlib.Core.List.{List, append-nil}
use Prim.Native.Nat.{ℕ}
use native.Mathlib.Nat.{zero-add}
use native.Mathlib.Omega.{arith}
use lib.ListN.{length, drop_of_length-le}
use lib.Seq.{paste, take-length}

pub copied_whole : (d s : List ℕ) → length s ≡ length d → paste d 0 s (length s) ≡ s
copied_whole d s e = rw (zero-add (length s), take-length s, drop_of_length-le d {i = length s} (omega arith), append-nil)
