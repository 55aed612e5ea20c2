-- After so many turns the flag and what is left to test say what the whole test says.
use Rattle.std.proofs.Common.{sym, ◌∙◌, length, arith}
use borrow.Author.Tests.{eq-eqb}
use Rattle.rows.proofs.Folds.{every_end}
use Rattle.unit.specs.Units.{host_well_formed, hosts_well_formed}
use Rattle.unit.proofs.hosts_ok.Goals as goal

pub returns : goal.returns
unfolding hosts_well_formed
returns c = rw (eq-eqb (length c.args.slots) 4 (omega arith), eq-eqb (length c.args.held) 4 (omega arith))
    (sym (every_end (host_well_formed c.args.records) c.args.slots c.loop-s.s-index c.loop-s.ok (omega arith)) ∙ c.loop-s.invariant)
