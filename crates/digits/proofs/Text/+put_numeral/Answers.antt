-- A number below the base is one digit; any other has its last digit after the numeral of the rest. It calls itself at k - 1, so its measure is k.
use borrow.Author.Rules.{rules}
use Rattle.digits.specs.Numerals.{numeral}
use Rattle.digits.proofs.Digits.{cut_more, cut_said, numeral_one, numeral_more}
use Rattle.digits.proofs.Text.+put_numeral.Goals as goal

pub returns-then-k-eq0 : goal.returns-then-k-eq0
unfolding numeral
returns-then-k-eq0 t c = rw c.if-k-eq0.true (cut_said c.args.self (search rules))

pub returns-then-n-base : goal.returns-then-n-base
returns-then-n-base t c = rw (numeral_one c.args.base c.args.k c.args.n c.if-k-eq0.false c.if-n-base.true) c.put_digit.ensures

pub returns : goal.returns
returns t c =
    rw (
      c.put_digit-2.ensures,
      c.put_numeral.ensures,
      cut_more,
      numeral_more c.args.base c.args.k c.args.n c.if-k-eq0.false c.if-n-base.false,
    )
