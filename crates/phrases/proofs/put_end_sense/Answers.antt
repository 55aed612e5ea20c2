-- By the sense; what a text says is cut already.
use borrow.Author.Rules.{rules}
use Rattle.digits.proofs.Digits.{cut_said}
use Rattle.phrases.proofs.put_end_sense.Goals as goal

pub returns-in-None : goal.returns-in-None
returns-in-None c = rw c.in-None.is (cut_said c.args.t (search rules))
