-- At each turn the pairs read so far and the words that the iterator has left make the page.
use mathlib.Core.Path.{sym}
use Prim.Native.Nat.{◌*◌, ◌+◌, ◌-◌}
use native.Mathlib.Omega.{arith}
use Rattle.std.proofs.Common.{rules}
use Rattle.std.proofs.lemmas.Slice.{put_mid-paste}
use Rattle.pairs.specs.Pairs.{with_pairs, zeros}
use Rattle.pairs.proofs.Pages.{one_more_lem}
use Rattle.pairs.proofs.read_pairs.Goals as goal

pub loop-w-init : goal.loop-w-init
unfolding zeros
loop-w-init c = rw (c.into_iter-w-iterator.ensures.into_iter_gives, c.after_words.ensures.others)

pub loop-w-preserved : goal.loop-w-preserved
loop-w-preserved c =
    let at = 2 * c.unwrap_or.result in
    let bytes = c.to_le_bytes-value.result in
    let put = put_mid-paste at (at + 2 - at) c.loop-w.bytes c.copy_from_slice.new.self bytes 2 (search rules) (omega arith) (search rules) in
    rw (put, c.to_le_bytes-value.ensures)
    (one_more_lem _ c.loop-w.bytes _ _ _ c.pair_in-p.result c.unwrap_or.result c.unwrap_or-in-loop-w.result
    c.in-Some.ensures.steps c.pair_in-p.ensures.0 c.unwrap_or.ensures c.unwrap_or-in-loop-w.ensures c.to_le_bytes-value.array_long c.loop-w.invariant)

pub returns : goal.returns
unfolding with_pairs
returns c = sym (rw c.in-None.ensures.steps.0 at c.loop-w.invariant)
