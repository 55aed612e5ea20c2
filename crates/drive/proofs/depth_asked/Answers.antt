-- The search from the end of the row comes first to the last place that has run out. (`unsupported` stands where the row has no record.)
use Rattle.std.proofs.Common.{◌+◌, rules, arith}
use Rattle.drive.specs.Records.{unsupported}
use Rattle.drive.proofs.Depths.{none_asked, first_from_below}
use Rattle.drive.proofs.depth_asked.Goals as goal

pub returns-in-Some : goal.returns-in-Some
returns-in-Some c = (
  first_from_below c.args.records c.args.count.0 unsupported (c.in-Some.place + 1) (omega arith)
      (record { inside = search rules; passes = search rules; none_after = search rules }),
  search rules,
)

pub returns-in-None : goal.returns-in-None
returns-in-None c = (none_asked c.args.records c.args.count.0 unsupported (search rules), omega arith)
