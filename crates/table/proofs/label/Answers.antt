-- A mark and a name have room, so that nothing of them is cut before the blanks are put.
use Rattle.digits.proofs.Digits.{cut_once}
use Rattle.table.proofs.Rows.{label_whole}
use Rattle.table.proofs.label.Goals as goal

pub returns : goal.returns
returns c = let named = rw (c.of.ensures, c.mark.ensures, c.name_of.ensures, cut_once, label_whole c.args.present c.args.c) at c.put_all.ensures in
    rw (c.pad_to.ensures, named)
