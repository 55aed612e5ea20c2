-- No more bytes came than the buffer has. The measure is the room that is left.
use Rattle.std.proofs.Common.{◌-◌, ◌≤◌, length}
use Rattle.logcheck.proofs.read_full.Given as goal

abbrev pub invariant-loop-done : goal.invariant-loop-done
invariant-loop-done g l = l.done ≤ length l.page

abbrev pub decreases-loop-done : goal.decreases-loop-done
decreases-loop-done g l = 4096 - l.done
