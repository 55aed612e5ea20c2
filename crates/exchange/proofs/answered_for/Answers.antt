-- By the command that is out.
use Rattle.exchange.specs.Answered.{answered_for}
use Rattle.exchange.proofs.answered_for.Goals as goal

pub returns-then-is_flush : goal.returns-then-is_flush
unfolding answered_for
returns-then-is_flush c = λ host. rw (← c.due_from.ensures, ← c.is_flush.ensures, c.if-is_flush.true) (c.flush_answered.ensures host)

pub returns-else-is_flush : goal.returns-else-is_flush
unfolding answered_for
returns-else-is_flush c = λ host. rw (← c.due_from.ensures, ← c.is_flush.ensures, c.if-is_flush.false) (c.last_answered.ensures host)
