-- The chain finds the first `=`.
use borrow.Author.Tests.{tests}
use Prim.Native.Char.{code}
use lib.Dec.{eqb}
use Rattle.std.proofs.Common.{rules}
use Rattle.std.proofs.lemmas.Iterator.{YieldsList-from_slice}
use Rattle.std.proofs.lemmas.Iterator.Search.{position_from_yields_List}
use Rattle.words.proofs.Scans.{found}
use Rattle.pairs.proofs.Pages.{equals}
use Rattle.pairs.proofs.equals_at.Goals as goal

pub returns : goal.returns
returns c = let w = c.args.w.now in
    let place = position_from_yields_List (λ b. eqb b (code "=")) _ _ c.position.result c.position.ensures.ran
    (YieldsList-from_slice w c.iter.ensures.rest) (λ x b q k. search (rules, tests)) in
    rw c.unwrap_or.ensures (found equals w c.position.result place)
