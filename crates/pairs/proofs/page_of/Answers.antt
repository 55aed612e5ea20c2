-- The pairs are those of the line without its CR; they count if the page has its right length.
use Rattle.pairs.specs.Pairs.{zeros}
use Rattle.pairs.proofs.Pages.{page_set, page_unset}
use Rattle.pairs.proofs.page_of.Goals as goal

pub returns-then-len-eq512 : goal.returns-then-len-eq512
returns-then-len-eq512 c = let n = c.buffer_len-len.ensures in
    let end = c.without_return-end.ensures.0 in
    (rw (c.read_pairs-bytes.ensures, end, ← n.0) (page_set _ _ c.if-len-eq512.true), n.1)

pub returns-else-len-eq512 : goal.returns-else-len-eq512
unfolding zeros
returns-else-len-eq512 c = let n = c.buffer_len-len.ensures in
    (rw (← n.0) (page_unset _ _ c.if-len-eq512.false n.1), n.1)
