-- Kept where a number is given: the one record is the one that the verdict asks for.
use mathlib.Core.Path.{◌∙◌}
use Rattle.engine.specs.Engine.{hard_reset_effect, reset_outcome}
use Rattle.engine.proofs.hard_reset.Goals as goal

pub returns : goal.returns
unfolding reset_outcome
returns c = let u = c.args.u in
    c.settle.ensures u (hard_reset_effect u) (rw (c.hard_reset_unless.ensures, c.is_err.ensures.value))
    ∙ rw (c.record_verdict-v.ensures, c.unit_ok-ok.ensures)
