-- Where nothing need be zero the numbers decide; where everything must be, zero numbers are fine.
use mathlib.Core.Path.{sym, ◌∙◌}
use Rattle.drive.proofs.Numbers.{supported_fine, unsupported_fine}
use Rattle.drive.proofs.record_ok.Goals as goal

pub returns-then-r : goal.returns-then-r
returns-then-r c = c.numbers_ok.ensures ∙ sym (supported_fine c.args.top.0 c.args.r c.if-r.true)

pub returns-else-r : goal.returns-else-r
returns-else-r c = c.others_zero.ensures ∙ sym (unsupported_fine c.args.top.0 c.args.r c.if-r.false)
