-- Kept where a number is given: the one record is the one that the verdict asks for.
use mathlib.Core.Path.{◌∙◌}
use Rattle.engine.specs.Engine.{power_on_effect, power_on_outcome}
use Rattle.engine.proofs.power_on.Goals as goal

pub returns : goal.returns
unfolding power_on_outcome
returns c = let u = c.args.u in
    c.settle.ensures u (power_on_effect u) (rw (c.power_on_unless.ensures, c.is_err.ensures.value))
    ∙ rw (c.record_verdict-v.ensures, c.unit_ok-ok.ensures)
