-- The chain gives the line's words in order.
use mathlib.Core.Path.{refl}
use Rattle.std.proofs.lemmas.Iterator.Consumers.{YieldsList-from_first, nth_from_yields_List}
use Rattle.words.specs.Words.{words, word_at}
use Rattle.words.proofs.Places.{item_at}
use Rattle.words.proofs.word_at.Goals as goal

pub returns : goal.returns
unfolding word_at
returns c = let all = words c.args.line.now in
    let item = nth_from_yields_List c.nth.result c.nth.new.self c.args.k c.nth.ensures.ran
    (YieldsList-from_first (λ x. x.now) (λ s. words s.0.now) all refl) in
    rw c.unwrap_or.ensures (item_at c.nth.result _ all c.args.k item)
