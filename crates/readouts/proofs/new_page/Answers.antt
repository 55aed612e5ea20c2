-- A read of the page of that number, whose bytes are the conditions' descriptors; whether the unit has it is a row more.
use mathlib.Core.Bool.{Bool}
use mathlib.Core.List.{List, [], ◌∷◌}
use native.Mathlib.Omega.{arith}
use Rattle.published.specs.Descriptors.{descriptor_page, lacks_page}
use Rattle.refusals.specs.Refusals.{Row, ◌gives◌}
use Rattle.refusals.specs.Verdicts.{bad_record_row}
use Rattle.refusals.specs.declared.Refusal.TheVariants.{NoSuchPage}
use Rattle.readouts.specs.Readouts.{new_page_outcome}
use Rattle.std.proofs.Common.{◌≡◌, Err, rules}
use Rattle.refusals.specs.Refusals.{Verdict}
use Rattle.readouts.proofs.Pages.{page_fits, page_fills, page_refuses}
use Rattle.readouts.proofs.new_page.Goals as goal

-- 3, then 11.
abbrev others : Bool → Bool → List Row
others lacking ok = bad_record_row ok ∷ (lacking gives NoSuchPage) ∷ []

pub copy_in-requires : goal.copy_in-requires
copy_in-requires c = let full = page_fits 512 (others _) c.args.u c.args.buffer.now _ _ (c.unit_ok-ok.ensures, c.new_page_verdict.ensures)
    c.in_ok-new_page_verdict.was in
    omega arith

pub returns : goal.returns
unfolding new_page_outcome
returns c = let given = rw c.lacks_page-lacking.ensures at c.new_page_verdict.ensures in
    page_fills 512 (others (lacks_page c.args.u.edition c.args.number)) c.args.u (descriptor_page c.args.number c.args.u.drive.records)
    c.args.buffer.now _ _ (c.unit_ok-ok.ensures, given) c.in_ok-new_page_verdict.was c.descriptor_page-page.result _
    c.descriptor_page-page.ensures (omega (arith, c.descriptor_page-page.type_inv)) c.copy_in.ensures

pub returns-in_err-new_page_verdict : goal.returns-in_err-new_page_verdict
unfolding new_page_outcome
returns-in_err-new_page_verdict c = let given = rw c.lacks_page-lacking.ensures at c.new_page_verdict.ensures in
    let told : ◌≡◌ {A = Verdict} c.from_residual.result (Err c.in_err-new_page_verdict.field-0.0) = search rules in
    rw told (
    page_refuses 512 (others (lacks_page c.args.u.edition c.args.number)) c.args.u (descriptor_page c.args.number c.args.u.drive.records)
    c.args.buffer.now _ _ (c.unit_ok-ok.ensures, given) _ c.in_err-new_page_verdict.was
    )
