-- At each turn the run has been fed what stands from the start to `run.from`, at least a byte of it once something is printed: so a run that
-- stops for want of room has gone on. The measure is what is left of the input: a turn goes on by a byte or more.
use native.Mathlib.Nat.{sub_self}
use native.Mathlib.Omega.{arith}
use Rattle.stream.specs.Streams.{stream_of, fed_all}
use Rattle.stream.proofs.Streams.{fed_on}
use Rattle.stream.proofs.feed.Goals as goal

pub loop-run-init : goal.loop-run-init
unfolding fed_all
loop-run-init c = (rw sub_self, omega arith, omega arith, omega arith, omega arith)

pub loop-run-preserved : goal.loop-run-preserved
loop-run-preserved c = let next = c.feed_line-run in
    let input = c.args.input.now in
    let s = stream_of c.args.r c.args.line.now c.args.out.now in (
      fed_on s input c.args.r.from c.loop-run.run.from next.result.from (omega arith) (omega arith) c.loop-run.invariant.0 next.ensures.0,
      omega arith,
      omega arith,
      omega arith,
      omega arith,
    )
