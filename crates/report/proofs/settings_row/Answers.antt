-- The name, which has room, then the columns, one after another.
use mathlib.Core.List.{[]}
use native.Mathlib.Omega.{arith}
use Rattle.digits.proofs.Digits.{cut_short, put_after}
use Rattle.table.specs.Rows.{name_text}
use Rattle.table.proofs.Rows.{name}
use Rattle.report.proofs.settings_row.Goals as goal

pub returns : goal.returns
returns c = let is = c.args.c in
    let named = rw (c.name_of.ensures, cut_short (name_text is) (omega (arith, (name is).bound))) at c.of.ensures in
    put_after [] _ _ (put_after [] _ _ (rw named at c.pad_to-name.ensures) c.put_record.ensures) c.put_recovery.ensures
