-- After so many turns the flag and what is left to test say what the whole test says.
use Rattle.std.proofs.Common.{◌≡◌, drop}
use mathlib.Core.Bool.{◌&&◌}
use Rattle.rows.specs.Rows.{every_at}
use Rattle.unit.specs.Units.{host_well_formed}
use Rattle.unit.proofs.hosts_ok.Given as goal

abbrev pub invariant-loop-s : goal.invariant-loop-s
invariant-loop-s l = (l.ok && every_at (host_well_formed l.records) l.s-index (drop l.s-index l.fn.slots)) ≡ every_at (host_well_formed l.records) 0 l.fn.slots
