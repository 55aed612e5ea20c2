-- At each turn the words of the rest, which is a tail of the line, are those after the first.
use mathlib.Core.Path.{sym, ◌∙◌}
use native.Mathlib.Omega.{arith}
use Rattle.words.specs.Words.{words}
use Rattle.words.proofs.Cuts.{none_after, others_after, tail_of}
use Rattle.words.proofs.after_words.Goals as goal

pub returns-in_default-clause-others : goal.returns-in_default-clause-others
returns-in_default-clause-others c = let none = c.in_default.ensures.cases in
    none ∙ sym (none_after (words c.args.line.now) c.loop.counter c.args.k (omega arith) (sym c.loop.invariant.0 ∙ none))

pub loop-preserved : goal.loop-preserved
loop-preserved c = let line = c.args.line.now in
    let ensured = c.in-Some.ensures in (
      others_after (words line) _ _ c.loop.counter (sym c.loop.invariant.0 ∙ ensured.cases),
      (_, ensured.places.1 ∙ tail_of line c.loop.rest.now c.loop.invariant.1.0 c.loop.invariant.1.1),
    )
