-- Its array has 128 bytes, so as many as `len` are those up to the smaller of the two.
use borrow.Author.Rules.{rules}
use Rattle.digits.proofs.Digits.{said_min}
use Rattle.digits.proofs.Text.as_bytes.Goals as goal

pub returns : goal.returns
returns c = rw c.min.ensures (said_min c.args.self.now (search rules))
