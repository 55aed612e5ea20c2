-- The counts are twelve, so what is counted in their table is counted in the row; the other fields are as given.
use mathlib.Core.Path.{◌≡◌, ap}
use lib.ListN.{length}
use Rattle.transitions.proofs.Counts.{flat_after}
use Rattle.drive.specs.Drives.{drive_of}
use borrow.Author.Rules.{rules}
use Rattle.drive.proofs.enter.Goals as goal

pub returns : goal.returns
returns c = let d = c.args.d in
    let twelve : length d.counts ≡ 12 = search rules in
    rw (c.flat_of.ensures, c.count_entry-counted.ensures, c.table_of.ensures)
    (ap (drive_of d.records c.args.p d.idle.0) (flat_after d.power c.args.p d.counts twelve))
