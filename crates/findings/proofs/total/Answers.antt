-- The word and the number; together they have room.
use mathlib.Core.Path.{◌∙◌}
use native.Mathlib.Omega.{arith}
use Rattle.digits.proofs.Digits.{cut_once, cut_short}
use Rattle.findings.proofs.Entries.{total_within}
use Rattle.findings.proofs.total.Goals as goal

pub returns : goal.returns
returns c = let n = c.args.n in
    (rw (c.of.ensures, cut_once) at c.put_number.ensures) ∙ cut_short _ (omega (arith, (total_within n).bound))
