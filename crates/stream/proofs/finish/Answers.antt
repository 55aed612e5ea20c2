-- The last line is answered, and a block that is open gets its `error`, for which there is room.
use mathlib.Core.Path.{sym, ap, ◌∙◌}
use mathlib.Core.Bool.{false}
use native.Mathlib.Omega.{arith}
use Rattle.digits.specs.Sheets.{Written, written, wrote_all}
use Rattle.digits.proofs.Sheets.{room, same_buffer}
use Rattle.replies.specs.Lines.{ok_or_error}
use Rattle.replies.proofs.Sizes.{ok_fits}
use Rattle.stream.specs.Streams.{closed_off}
use Rattle.stream.proofs.finish.Goals as goal

pub shape_of-out-then-is_open : goal.shape_of-out-then-is_open
shape_of-out-then-is_open c =
    let lent = ap (λ (w : Written). w.lent) c.put_ok.ensures ∙ same_buffer (written c.on-sheet.result) (ok_or_error false) in
    sym (lent ∙ ap (λ (w : Written). w.lent) c.on-sheet.ensures)

pub returns-then-is_open : goal.returns-then-is_open
returns-then-is_open c = let last = c.end_line-last in
    let done = c.put_ok.ensures ∙ ap (λ s. wrote_all s (ok_or_error false)) c.on-sheet.ensures in
    let has = room _ (ok_or_error false) done (omega (arith, ok_fits false)) in
    (rw (← ap closed_off last.ensures.0, ← c.is_open.ensures, c.if-is_open.true) has.2, omega (arith, ok_fits false, has.0, has.1))
