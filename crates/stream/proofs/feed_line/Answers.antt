-- The bytes before the LF only grow what is kept; if there is an LF behind them, the line is answered.
use mathlib.Core.Path.{◌≡◌, sym, ap, ◌∙◌}
use mathlib.Core.List.{List, ◌++◌}
use Prim.Native.Nat.{ℕ, ◌+◌, ◌≤◌}
use native.Mathlib.Omega.{arith}
use borrow.Author.Rules.{rules}
use lib.ListN.{length, length-take, take, drop}
use Rattle.words.specs.Lines.{before_feed}
use Rattle.words.proofs.Scans.{feed, scan_within}
use Rattle.stream.specs.Streams.{Stream, stream_of, answered, fed_all, bytes_between}
use Rattle.stream.specs.declared.Run.{Run}
use Rattle.stream.proofs.Streams.{up_to_feed, past_feed}
use Rattle.stream.proofs.feed_line.Goals as goal

-- what is kept is what the bytes before the line's end leave
grows : (r : Run) (input line more out : List ℕ) (end n : ℕ) → length line ≡ 4001 → end ≡ r.from + before_feed (drop r.from input)
    → take n more ≡ take (length line) (take r.len line ++ bytes_between r.from end input)
    → ◌≡◌ {A = Stream}
    (record { session = r.session; kept = take n more; printed = take r.at out })
    (fed_all (stream_of r line out) (bytes_between r.from end input))
grows r input line more out end n full ends appended =
    let s = stream_of r line out in
    let kept : take n more ≡ take 4001 (s.kept ++ bytes_between r.from end input) = rw full at appended in
    let small : length s.kept ≤ 4001 = rw length-take (omega arith) in
    rw kept (sym (up_to_feed s input r.from end ends small))

pub slice_bounds-append-end-2 : goal.slice_bounds-append-end-2
slice_bounds-append-end-2 c =
    let end = c.line_end-end in
    let within : end.result ≤ length c.args.input.now = rw end.ensures (scan_within feed c.args.input.now c.args.r.from (omega arith)) in
    omega (arith, within)

pub returns-then-end-input : goal.returns-then-end-input
returns-then-end-input c =
    let input = c.args.input.now in
    let grown = grows c.args.r input c.args.line.now c.append.new.line c.args.out.now c.line_end-end.result c.append.result
    (search rules) c.line_end-end.ensures c.append.ensures.0 in
    (grown, omega arith, omega arith, omega arith)

pub returns : goal.returns
returns c =
    let ended = c.end_line.ensures in
    let end = c.line_end-end in
    let r = c.args.r in
    let input = c.args.input.now in
    let s = stream_of r c.args.line.now c.args.out.now in
    let grown = grows r input c.args.line.now c.append.new.line c.args.out.now end.result c.append.result
    (search rules) end.ensures c.append.ensures.0 in
    let within : end.result ≤ length input = rw end.ensures (scan_within feed input r.from (omega arith)) in (
      rw ended.1 (ended.0 ∙ ap answered grown ∙ sym (past_feed s input r.from end.result end.ensures (omega arith))),
      omega arith,
      omega arith,
      omega arith,
    )
