-- The code is below 256; the four bytes of the count are cut from it.
use Rattle.std.proofs.Common.{arith}
use Rattle.transitions.specs.Page.{parameter_bytes}
use Rattle.transitions.proofs.parameter.Goals as goal

pub returns : goal.returns
unfolding parameter_bytes
returns c = grind (arith, c.to_be_bytes.ensures)
