-- At each turn the pairs read so far and the words that the iterator has left make the page.
use mathlib.Core.Path.{◌≡◌}
use lib.ListN.{drop}
use Rattle.words.specs.Words.{words}
use Rattle.pairs.specs.Pairs.{zeros, with_pairs}
use Rattle.pairs.proofs.read_pairs.Given as goal

abbrev pub invariant-loop-w : goal.invariant-loop-w
invariant-loop-w l = with_pairs (zeros 0x400) (drop l.k (words l.line)) ≡ with_pairs l.bytes (words l.w-iterator.0.now)
