-- After k turns the first k of a loop's lines are written.
use mathlib.Core.Path.{◌≡◌}
use mathlib.Core.List.{map}
use lib.ListN.{take}
use Rattle.conditions.specs.Conditions.{condition_at}
use Rattle.digits.specs.Sheets.{written, wrote_all, line_text}
use Rattle.digits.proofs.Sheets.{AddsAll}
use Rattle.report.specs.Report.{row_of, fault_text}
use Rattle.report.proofs.put_found.Given as goal

abbrev pub invariant-loop-place : goal.invariant-loop-place
invariant-loop-place l = AddsAll (written l.initial.out) (λ k. row_of l.page (condition_at k)) l.place (written l.out)

abbrev pub invariant-loop-fault : goal.invariant-loop-fault
invariant-loop-fault l = written l.out ≡ wrote_all (written l.initial.out) (map line_text (map fault_text (take l.fault-index l.listed)))
