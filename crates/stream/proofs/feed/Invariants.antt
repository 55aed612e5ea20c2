-- At each turn the run has been fed what stands from the start to `run.from`, at least a byte of it once something is printed: so a run that
-- stops for want of room has gone on. The measure is what is left of the input: a turn goes on by a byte or more.
use mathlib.Core.Path.{◌≡◌}
use Prim.Native.Nat.{◌+◌, ◌-◌, ◌≤◌, min}
use lib.ListN.{length}
use Rattle.stream.specs.Streams.{stream_of, fed_all, bytes_between}
use Rattle.stream.proofs.feed.Given as goal

abbrev pub invariant-loop-run : goal.invariant-loop-run
invariant-loop-run l = (stream_of l.run l.line l.out ≡ fed_all (stream_of l.initial.run l.initial.line l.initial.out) (bytes_between l.initial.run.from l.run.from l.input))
    × (l.initial.run.from + min 1 l.run.at ≤ l.run.from)
    × (l.run.at ≤ length l.out)
    × (length l.line ≡ length l.initial.line)
    × (length l.out ≡ length l.initial.out)

abbrev pub decreases-loop-run : goal.decreases-loop-run
decreases-loop-run l = length l.input - l.run.from
