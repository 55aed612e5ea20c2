-- The ticks that are left complete the run at every turn; a refusal ends it.
use Rattle.std.proofs.Common.{sym, ◌∙◌}
use Rattle.answers.proofs.Ticking.{tick_made, all_made, ticks_end, not_refused}
use Rattle.answers.proofs.ticks.Goals as goal

pub loop-preserved : goal.loop-preserved
loop-preserved c =
    let made = tick_made c.args.n c.loop.counter c.loop.called c.tick-called.result c.loop-test.true c.loop.invariant.1 c.tick-called.ensures in
    (sym made ∙ c.loop.invariant.0, not_refused _ (sym c.is_err.ensures.value ∙ c.if-is_err.false))

pub returns-after-loop : goal.returns-after-loop
returns-after-loop c = sym (all_made c.args.n c.loop.counter c.loop.called c.loop-test.false) ∙ c.loop.invariant.0

pub returns-then-is_err : goal.returns-then-is_err
returns-then-is_err c =
    let t = c.tick-called.result in
    let made = tick_made c.args.n c.loop.counter c.loop.called t c.loop-test.true c.loop.invariant.1 c.tick-called.ensures in
    sym (ticks_end _ t (sym c.is_err.ensures.value ∙ c.if-is_err.true)) ∙ sym made ∙ c.loop.invariant.0
