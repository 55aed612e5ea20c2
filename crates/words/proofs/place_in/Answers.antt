-- The chain finds the first name that is the word.
use borrow.Author.Tests.{tests}
use mathlib.Core.Logic.{inl}
use mathlib.Core.Path.{refl, ◌∙◌}
use Rattle.std.proofs.Common.{rules}
use Rattle.std.proofs.lemmas.Iterator.Consumers.{YieldsList-from_first}
use Rattle.std.proofs.lemmas.Iterator.Search.{position_from_yields_List}
use Rattle.words.specs.Words.{same, words}
use Rattle.words.proofs.Cuts.{words_within}
use Rattle.words.proofs.Places.{placed}
use Rattle.words.proofs.place_in.Goals as goal

pub returns : goal.returns
returns c =
    let place = position_from_yields_List (same c.args.w.now) c.position.new.self _ c.position.result c.position.ensures.ran
    (YieldsList-from_first (λ x. x.now) (λ s. words s.0.now) (words c.args.names.now) refl) (λ x b q k. search (rules, tests)) in
    place ∙ placed c.args.w.now (words c.args.names.now)

pub position-requires-clause-fits : goal.position-requires-clause-fits
position-requires-clause-fits c = let few = words_within c.args.names.now in inl (search rules)
