-- A report has room in the buffer, so that it stands there whole; the sheet is on that buffer to the end.
use mathlib.Core.Path.{sym, ap, ◌∙◌}
use Prim.Native.Nat.{◌≤◌}
use native.Mathlib.Omega.{arith}
use lib.ListN.{length}
use lib.Seq.{length-take-le}
use Rattle.digits.specs.Sheets.{Written, written, wrote_all}
use Rattle.digits.proofs.Sheets.{room, same_buffer}
use Rattle.report.specs.Report.{report_lines}
use Rattle.report.proofs.Sizes.{report_fits}
use Rattle.report.proofs.put_report.Goals as goal

pub shape_of-out : goal.shape_of-out
shape_of-out c =
    let lent = ap (λ (w : Written). w.lent) c.put_lines.ensures ∙ same_buffer (written c.on-sheet.result) (report_lines c.args.page.now) in
    sym (lent ∙ ap (λ (w : Written). w.lent) c.on-sheet.ensures)

pub returns : goal.returns
returns c = let page = c.args.page.now in
    let out = c.put_lines.new.out in
    let done = c.put_lines.ensures ∙ ap (λ s. wrote_all s (report_lines page)) c.on-sheet.ensures in
    let has = room _ (report_lines page) done (omega (arith, report_fits page)) in
    let fits : out.len ≤ length out.bytes.now = omega (arith, report_fits page, has.0, has.1) in
    record { fits = fits; counted = sym (length-take-le _ _ fits); stands = has.2 }
