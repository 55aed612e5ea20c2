-- A read of the page whose bytes are those of the five records.
use native.Mathlib.Omega.{arith}
use Rattle.pages.specs.Logs.{log_bytes}
use Rattle.refusals.specs.Verdicts.{rows_of_record}
use Rattle.readouts.specs.Readouts.{log_outcome}
use Rattle.std.proofs.Common.{◌≡◌, Err, rules}
use Rattle.refusals.specs.Refusals.{Verdict}
use Rattle.readouts.proofs.Pages.{page_fits, page_fills, page_refuses}
use Rattle.readouts.proofs.log_page.Goals as goal

pub copy_in-requires : goal.copy_in-requires
copy_in-requires c = let full = page_fits 512 rows_of_record c.args.u c.args.buffer.now _ _ (c.unit_ok-ok.ensures, c.page_verdict.ensures)
    c.in_ok-page_verdict.was in
    omega arith

pub returns : goal.returns
unfolding log_outcome
returns c = page_fills 512 rows_of_record c.args.u (log_bytes c.args.u.drive.records) c.args.buffer.now _ _
    (c.unit_ok-ok.ensures, c.page_verdict.ensures)
    c.in_ok-page_verdict.was c.log_page-page.result _ c.log_page-page.ensures (omega (arith, c.log_page-page.type_inv)) c.copy_in.ensures

pub returns-in_err-page_verdict : goal.returns-in_err-page_verdict
unfolding log_outcome
returns-in_err-page_verdict c = let told : ◌≡◌ {A = Verdict} c.from_residual.result (Err c.in_err-page_verdict.field-0.0) = search rules in
    rw told (
    page_refuses 512 rows_of_record c.args.u (log_bytes c.args.u.drive.records) c.args.buffer.now _ _
    (c.unit_ok-ok.ensures, c.page_verdict.ensures) _
    c.in_err-page_verdict.was
    )
