-- After so many turns the flag and what is left to test say what the whole test says.
use Rattle.std.proofs.Common.{◌≡◌, drop}
use mathlib.Core.Bool.{◌&&◌}
use Rattle.rows.specs.Rows.{every_at}
use Rattle.drive.specs.Records.{record_well_formed}
use Rattle.drive.proofs.records_ok.Given as goal

abbrev pub invariant-loop-r : goal.invariant-loop-r
invariant-loop-r l = (l.ok && every_at (λ at r. record_well_formed l.top.0 r) l.r-index (drop l.r-index l.fn.records))
    ≡ every_at (λ at r. record_well_formed l.top.0 r) 0 l.fn.records
