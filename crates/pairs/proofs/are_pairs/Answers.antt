-- The chain asks each of the words from k on.
use borrow.Author.Tests.{tests}
use Rattle.std.proofs.Common.{rules}
use Rattle.std.proofs.lemmas.Iterator.Adapters.{YieldsList-from_skip}
use Rattle.std.proofs.lemmas.Iterator.Consumers.{YieldsList-from_first}
use Rattle.std.proofs.lemmas.Iterator.Search.{all_from_yields_List}
use Rattle.words.specs.Words.{words}
use Rattle.pairs.specs.Pairs.{is_pair, are_pairs}
use Rattle.pairs.proofs.are_pairs.Goals as goal

pub returns : goal.returns
unfolding are_pairs
returns c = all_from_yields_List is_pair c.all.new.self _ c.all.result c.all.ensures.ran
    (YieldsList-from_skip c.args.k (YieldsList-from_first (λ x. x.now) (λ s. words s.0.now) (words c.args.line.now) (search rules)) (search rules))
    (λ x b q k. search (rules, tests))
