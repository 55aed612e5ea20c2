-- The ticks that are left complete the run at every turn, and every tick so far was done.
use Rattle.std.proofs.Common.{◌≡◌, ◌-◌, Ok}
use Rattle.answers.specs.Answers
use Rattle.answers.specs.Answers.{ticks_after}
use Rattle.answers.proofs.ticks.Given as goal

abbrev pub invariant-loop : goal.invariant-loop
invariant-loop l = (ticks_after (l.fn.n - l.counter) l.called ≡ Answers.ticks l.fn.n l.fn.u) × (l.called.answer ≡ Ok tt)
