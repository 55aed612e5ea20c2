-- A line that ends with a CR is one byte longer than what is left of it.
use mathlib.Core.Path.{refl}
use Rattle.words.proofs.Ends.{without}
use Rattle.words.proofs.without_return.Goals as goal

pub returns : goal.returns
returns c = rw c.unwrap_or.ensures (without c.args.line.now c.strip_suffix.result c.args.line refl c.strip_suffix.ensures.cases)
