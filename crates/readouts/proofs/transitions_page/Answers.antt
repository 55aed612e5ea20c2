-- A read of the page whose bytes are those of the counts that the record has.
use mathlib.Core.Path.{ap, ◌∙◌}
use native.Mathlib.Omega.{arith}
use Rattle.transitions.specs.Page.{transition_bytes}
use Rattle.refusals.specs.Verdicts.{rows_of_record}
use Rattle.readouts.specs.Readouts.{counts_handed, transitions_outcome}
use Rattle.std.proofs.Common.{◌≡◌, Err, rules}
use Rattle.refusals.specs.Refusals.{Verdict}
use Rattle.readouts.proofs.Pages.{page_fits, page_fills, page_refuses}
use Rattle.readouts.proofs.transitions_page.Goals as goal

pub copy_in-requires : goal.copy_in-requires
copy_in-requires c = let full = page_fits 52 rows_of_record c.args.u c.args.buffer.now _ _ (c.unit_ok-ok.ensures, c.page_verdict.ensures)
    c.in_ok-page_verdict.was in
    omega arith

pub returns : goal.returns
unfolding transitions_outcome
returns c = page_fills 52 rows_of_record c.args.u (transition_bytes (counts_handed c.args.u)) c.args.buffer.now _ _
    (c.unit_ok-ok.ensures, c.page_verdict.ensures)
    c.in_ok-page_verdict.was c.page_of-page.result _ (c.page_of-page.ensures ∙ ap transition_bytes c.transition_counts.ensures)
    (omega (arith, c.page_of-page.type_inv)) c.copy_in.ensures

pub returns-in_err-page_verdict : goal.returns-in_err-page_verdict
unfolding transitions_outcome
returns-in_err-page_verdict c = let told : ◌≡◌ {A = Verdict} c.from_residual.result (Err c.in_err-page_verdict.field-0.0) = search rules in
    rw told (
    page_refuses 52 rows_of_record c.args.u (transition_bytes (counts_handed c.args.u)) c.args.buffer.now _ _
    (c.unit_ok-ok.ensures, c.page_verdict.ensures) _
    c.in_err-page_verdict.was
    )
