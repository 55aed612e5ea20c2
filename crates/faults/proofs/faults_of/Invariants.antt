-- After each turn the list is that of the conditions so far.
use Rattle.std.proofs.Common.{◌≡◌, ◌*◌}
use Rattle.faults.specs.Listing.{faults_from, listing}
use Rattle.faults.proofs.faults_of.Given as goal

abbrev pub invariant-loop-place : goal.invariant-loop-place
invariant-loop-place l = l.faults ≡ listing (faults_from l.page 0 (16 * l.place))
