-- At each turn the words of the rest, which is a tail of the line, are those after the first.
use mathlib.Core.Path.{◌≡◌}
use Prim.Native.Nat.{ℕ}
use lib.ListN.{drop}
use Rattle.words.specs.Words.{words}
use Rattle.words.proofs.after_words.Given as goal

abbrev pub invariant-loop : goal.invariant-loop
invariant-loop l = (words l.rest ≡ drop l.counter (words l.line)) × ((n : ℕ) × (l.rest ≡ drop n l.line))
