-- Still where a number is given or a command is out: the one record is the one that the verdict asks for.
use mathlib.Core.Path.{◌∙◌}
use Rattle.std.specs.Result.{is_err}
use Rattle.engine.specs.Engine.{tick_effect, tick_outcome}
use Rattle.engine.proofs.Kept.{tick_kept}
use Rattle.engine.proofs.tick.Goals as goal

pub returns : goal.returns
unfolding tick_outcome
returns c = let u = c.args.u in
    c.settle.ensures u (tick_effect u)
    (rw (
      c.with_drive.ensures,
      c.move_to.ensures,
      c.ticked_power-p.ensures,
      c.ticked_idle-n.ensures,
      ← c.depth_asked-asked.ensures.0,
      c.count-next.ensures,
      c.largest_of.ensures,
      c.is_out.ensures,
      c.is_err.ensures.value,
    ) (tick_kept (is_err c.record_verdict-v.result) u))
    ∙ rw (c.record_verdict-v.ensures, c.unit_ok-ok.ensures)
