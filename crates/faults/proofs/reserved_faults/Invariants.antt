-- After each turn the words so far that are not zero are noted: one turn is `nonzero_more`.
use Rattle.std.proofs.Common.{◌≡◌, ◌+◌, ◌-◌, ◌≤◌}
use Rattle.faults.specs.Inner.{noted, nonzero_from}
use Rattle.faults.proofs.reserved_faults.Given as goal

abbrev pub invariant-loop-w : goal.invariant-loop-w
invariant-loop-w l = record { within : l.w - l.from ≤ l.last + 1 - l.from; so_far : l.faults ≡ noted l.initial.faults (nonzero_from l.page l.from (l.w - l.from)) }
