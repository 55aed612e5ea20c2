-- After k turns the first k of a loop's lines are written.
use Rattle.digits.specs.Sheets.{written}
use Rattle.digits.proofs.Sheets.{AddsAll}
use Rattle.table.specs.Below.{host_text}
use Rattle.table.specs.Counts.{count_row}
use Rattle.table.proofs.Lines.{condition_row}
use Rattle.table.proofs.put_table.Given as goal

abbrev pub invariant-loop-place : goal.invariant-loop-place
invariant-loop-place l = AddsAll (written l.initial.out) (condition_row l.fn.u) l.place (written l.out)

abbrev pub invariant-loop-host : goal.invariant-loop-host
invariant-loop-host l = AddsAll (written l.initial.out) (host_text l.u) l.host (written l.out)

abbrev pub invariant-loop-row : goal.invariant-loop-row
invariant-loop-row l = AddsAll (written l.initial.out) (count_row l.u) l.row (written l.out)
