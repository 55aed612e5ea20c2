-- What is left for the verdict is the outcome.
use mathlib.Core.Path.{sym}
use Rattle.exchange.specs.Exchange.{answer_outcome}
use Rattle.exchange.proofs.answer.Goals as goal

pub returns : goal.returns
unfolding answer_outcome
returns c = rw (
  c.leave.ensures,
  c.answer_settled.ensures c.args.host (sym c.slot_of.ensures),
  c.answer_verdict-v.ensures,
  c.is_out_for.ensures,
  c.unit_ok-ok.ensures,
)
