-- Kept where a number is given: the one record is the one that the verdict asks for.
use mathlib.Core.Path.{◌∙◌}
use Rattle.engine.specs.Engine.{read_effect, read_outcome}
use Rattle.engine.proofs.read.Goals as goal

pub returns : goal.returns
unfolding read_outcome
returns c = let u = c.args.u in
    c.settle.ensures u (read_effect u) (rw (c.read_unless.ensures, c.is_err.ensures.value))
    ∙ rw (c.medium_verdict-v.ensures, c.is_out.ensures, c.unit_ok-ok.ensures)
