-- Only the condition's own place is selected.
use Rattle.std.proofs.Common.{sym, ◌∙◌, arith}
use Rattle.epc.proofs.OneCondition.{one_unfit}
use Rattle.epc.proofs.one_unfit.Goals as goal

pub returns : goal.returns
returns c = c.barred.ensures ∙ rw (c.place_of.ensures.0, c.is_go_to.ensures) (sym (one_unfit c.args.sub c.args.c c.args.save c.args.records (omega arith)))
