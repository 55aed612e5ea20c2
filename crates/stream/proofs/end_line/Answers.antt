-- The line's answer is what `respond` gives to the bytes that are kept; it has room, so it stands behind what was printed.
use mathlib.Core.Path.{◌≡◌, refl, sym, ap, ◌∙◌}
use native.Mathlib.Omega.{arith}
use borrow.Author.Rules.{rules}
use lib.ListN.{length, take}
use Rattle.digits.specs.Sheets.{Written, written, wrote_all}
use Rattle.digits.proofs.Sheets.{room, same_buffer}
use Rattle.words.proofs.Room.{take_min}
use Rattle.replies.specs.Lines.{response}
use Rattle.replies.proofs.Sizes.{answer_fits}
use Rattle.stream.proofs.end_line.Goals as goal

pub shape_of-out : goal.shape_of-out
shape_of-out c =
    let lent = ap (λ (w : Written). w.lent) c.respond-session.ensures.1 ∙ same_buffer (written c.on-sheet.result) _ in
    sym (lent ∙ ap (λ (w : Written). w.lent) c.on-sheet.ensures)

pub returns : goal.returns
returns c = let r = c.args.r in
    let line = c.args.line.now in
    let full : length line ≡ 4001 = search rules in
    let kept : take c.min-n.result line ≡ take r.len line = rw c.min-n.ensures (rw full at (sym (take_min r.len line))) in
    let step = rw kept at c.respond-session.ensures in
    let pieces = (response r.session (take r.len line)).pieces in
    let small = answer_fits r.session (take r.len line) in
    let has = room _ pieces (step.1 ∙ ap (λ s. wrote_all s pieces) c.on-sheet.ensures) (omega (arith, small, c.requires)) in
    (rw (step.0, has.2), refl, omega (arith, small, has.0))
