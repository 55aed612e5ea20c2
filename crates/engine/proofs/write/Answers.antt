-- Kept where a number is given: the one record is the one that the verdict asks for.
use mathlib.Core.Path.{◌∙◌}
use Rattle.engine.specs.Engine.{write_effect, write_outcome}
use Rattle.engine.proofs.write.Goals as goal

pub returns : goal.returns
unfolding write_outcome
returns c = let u = c.args.u in
    c.settle.ensures u (write_effect u) (rw (c.write_unless.ensures, c.is_err.ensures.value))
    ∙ rw (c.medium_verdict-v.ensures, c.is_out.ensures, c.unit_ok-ok.ensures)
