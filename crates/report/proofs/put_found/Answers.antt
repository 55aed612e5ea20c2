-- The heading, the rows, the faults and the total, one after another.
use mathlib.Core.Path.{◌≡◌}
use native.Mathlib.Omega.{arith}
use lib.Seq.{take_all}
use Rattle.conditions.specs.Conditions.{condition_at}
use Rattle.digits.specs.Sheets.{written}
use Rattle.digits.proofs.Sheets.{adds, adds_next, adds_item}
use Rattle.report.specs.Report.{page_head, row_of, row_texts, fault_text, fault_texts, total_text}
use Rattle.report.proofs.Lines.{all_written}
use Rattle.report.proofs.put_found.Goals as goal

pub loop-place-preserved : goal.loop-place-preserved
loop-place-preserved c =
    adds_next _ (λ k. row_of c.args.page.now (condition_at k)) c.loop-place.place c.loop-place.invariant c.put_line-in-loop-place.ensures c.row_at.ensures

pub loop-fault-preserved : goal.loop-fault-preserved
loop-fault-preserved c =
    adds_item _ fault_text _ c.loop-fault.fault-index _ (omega arith) c.loop-fault.invariant c.put_line-in-loop-fault.ensures c.fault_line.ensures

pub returns : goal.returns
returns c = let page = c.args.page.now in
    let f = c.args.f in
    let places : c.loop-place.place ≡ 5 = omega arith in
    all_written (written c.args.out.now) page_head (row_texts page) (fault_texts f) (total_text f.total)
    (adds _ _ c.put_line.ensures c.of.ensures)
    (rw places at c.loop-place.invariant)
    (rw (take_all _ _ c.loop-fault-test.false, c.listed_count.ensures.0) at c.loop-fault.invariant)
    (adds _ _ c.put_line-2.ensures c.total_line.ensures)
