-- What is to be written and what was read lie in their buffers.
use Rattle.std.proofs.Common.{◌≤◌, length}
use Rattle.replay.proofs.replay.Given as goal

abbrev pub invariant-loop : goal.invariant-loop
invariant-loop g l = (l.turn.to ≤ 65536) × (l.turn.run.at ≤ length l.out)
