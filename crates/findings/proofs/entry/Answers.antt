-- The kind's number, the sign and the place, one after another; together they have room.
use mathlib.Core.Path.{◌∙◌}
use native.Mathlib.Omega.{arith}
use Rattle.digits.proofs.Digits.{cut_once, cut_short}
use Rattle.findings.proofs.Entries.{entry_within}
use Rattle.findings.proofs.entry.Goals as goal

pub returns : goal.returns
returns c = let f = c.args.f in
    let first = rw (c.empty.ensures, c.kind_number.ensures) at c.put_number-number.ensures in
    let second = rw (first, cut_once) at c.put.ensures in
    (rw (second, cut_once) at c.put_hex.ensures) ∙ cut_short _ (omega (arith, (entry_within f).bound))
