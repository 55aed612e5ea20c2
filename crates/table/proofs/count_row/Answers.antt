-- A name has room, so that nothing of it is cut before the blanks are put; then the columns.
use mathlib.Core.List.{[]}
use Rattle.digits.proofs.Digits.{put_after}
use Rattle.table.proofs.Rows.{row_name_whole}
use Rattle.table.proofs.count_row.Goals as goal

pub returns : goal.returns
returns c = let named = rw (c.of.ensures, c.row_name.ensures, row_name_whole c.args.row) at c.pad_to-name.ensures in
    put_after [] _ _ named (rw c.table_of.ensures at c.put_columns.ensures)
