-- The first and second row, and the third behind them.
use mathlib.Core.Path.{ap, ◌∙◌}
use mathlib.Core.List.{[], ◌∷◌}
use Rattle.std.specs.Result.{result_and}
use Rattle.refusals.specs.Refusals.{lowest, ◌gives◌}
use Rattle.refusals.proofs.Lowest.{lowest_append}
use Rattle.refusals.proofs.first_of.Goals as goal

pub returns : goal.returns
returns c = rw (c.and-2.ensures, c.and.ensures, c.refused_if-3.ensures, c.refused_if-2.ensures, c.refused_if.ensures)
    (ap (λ v. result_and v (lowest ((c.args.c gives c.args.z) ∷ []))) (lowest_append _ _) ∙ lowest_append _ _)
