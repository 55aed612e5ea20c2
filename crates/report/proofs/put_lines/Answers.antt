-- By what the page's check answered.
use Rattle.std.proofs.Common.{Ok, Err}
use Rattle.digits.specs.Sheets.{wrote_all}
use Rattle.digits.proofs.Sheets.{line_once}
use Rattle.report.proofs.Lines.{of_checked}
use Rattle.report.proofs.put_lines.Goals as goal

pub returns-in-Ok : goal.returns-in-Ok
returns-in-Ok c = let page = c.args.page.now in
    rw (← of_checked page c.page_faults.result (Ok _) c.page_faults.ensures c.in-Ok.is) c.put_found.ensures

pub returns-in-Err : goal.returns-in-Err
unfolding wrote_all
returns-in-Err c = let page = c.args.page.now in
    let refused = of_checked page c.page_faults.result (Err _) c.page_faults.ensures c.in-Err.is in
    rw (← refused) (rw (c.not_read.ensures, line_once) at c.put_line.ensures)
