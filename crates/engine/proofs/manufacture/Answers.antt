-- What is made is tested; beside a refusal stands the blank unit.
use mathlib.Core.Path.{◌∙◌}
use Rattle.unit.specs.Units.{made_unit, blank}
use Rattle.engine.specs.Engine.{manufacture_outcome}
use Rattle.engine.proofs.manufacture.Goals as goal

pub returns : goal.returns
unfolding manufacture_outcome
returns c = c.settle.ensures (blank c.args.edition) (made_unit c.args.edition c.args.made)
    (rw (c.blank_if.ensures, c.is_err.ensures.value, c.made_unit-u.ensures))
    ∙ rw (c.record_verdict-v.ensures, c.unit_ok-ok.ensures, c.made_unit-u.ensures)
