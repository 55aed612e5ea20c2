-- The first bytes are lent, and come back as the call left them.
use mathlib.Core.Path.{sym}
use Prim.Native.Nat.{◌≤◌}
use lib.ListN.{length}
use Rattle.answers.proofs.Buffers.{has_room_lem, lent_front, ComesBack, comes_back}
use Rattle.answers.proofs.LogPage.{page_keeps}
use Rattle.answers.proofs.log.Goals as goal

pub returns : goal.returns
returns c =
    let whole = c.unwritten-buffer in
    let n = c.buffer_len-n in
    let a = c.read_page-a in
    let within : n.result ≤ length whole.result = has_room_lem _ _ whole.ensures n.ensures.1 in
    let back : ComesBack whole.result a.new.buffer n.result = comes_back _ _ _ within a.auto.buffer in
    let front = lent_front whole.result n.result c.args.len whole.ensures n.ensures.0 n.ensures.1 in
    rw (← front) (sym (page_keeps c.args.page c.args.u _), rw (c.put_filled.ensures, back.front, a.ensures.0, a.ensures.1))
