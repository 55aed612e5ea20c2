-- The chain finds the first byte at which the scan ends.
use borrow.Author.Tests.{tests}
use mathlib.Core.Path.{◌≡◌, ap, ◌∙◌}
use Prim.Native.Char.{code}
use Prim.Native.Nat.{◌+◌}
use lib.Dec.{eqb}
use lib.ListN.{drop}
use Rattle.std.proofs.Common.{rules, MatchOption}
use Rattle.std.proofs.lemmas.Iterator.{YieldsList-from_slice}
use Rattle.std.proofs.lemmas.Iterator.Adapters.{YieldsList-from_skip}
use Rattle.std.proofs.lemmas.Iterator.Search.{position_from_yields_List}
use Rattle.words.proofs.Scans.{feed, found, moved}
use Rattle.words.proofs.line_end.Goals as goal

pub returns : goal.returns
returns c = let place = position_from_yields_List (λ b. eqb b (code "\n")) _ _ c.position.result c.position.ensures.ran
    (YieldsList-from_skip c.args.from (YieldsList-from_slice c.args.text.now (search rules)) (search rules)) (λ x b q k. search (rules, tests)) in
    let given : MatchOption c.position.result (c.map_or.result ≡ c.max.result) (λ x. c.map_or.result ≡ c.args.from + x) = search (rules, tests) in
    moved c.args.text.now c.args.from c.position.result c.map_or.result (rw c.max.ensures at given)
    ∙ ap (◌+◌ c.args.from) (found feed (drop c.args.from c.args.text.now) c.position.result place).0
