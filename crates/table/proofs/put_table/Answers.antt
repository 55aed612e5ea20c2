-- Each line is written behind those before it, and a loop's lines one behind the other.
use mathlib.Core.Path.{◌≡◌}
use native.Mathlib.Omega.{arith}
use Rattle.digits.specs.Sheets.{written}
use Rattle.digits.proofs.Sheets.{adds, adds_next}
use Rattle.table.specs.Below.{host_text}
use Rattle.table.specs.Counts.{count_row}
use Rattle.table.proofs.Lines.{condition_row, table_by}
use Rattle.table.proofs.put_table.Goals as goal

pub loop-place-preserved : goal.loop-place-preserved
loop-place-preserved c =
    adds_next _ (condition_row c.args.u) c.loop-place.place c.loop-place.invariant c.put_line-in-loop-place.ensures c.record_row.ensures

pub loop-host-preserved : goal.loop-host-preserved
loop-host-preserved c =
    adds_next _ (host_text c.args.u) c.loop-host.host c.loop-host.invariant c.put_line-in-loop-host.ensures c.host_line.ensures

pub loop-row-preserved : goal.loop-row-preserved
loop-row-preserved c =
    adds_next _ (count_row c.args.u) c.loop-row.row c.loop-row.invariant c.put_line-in-loop-row.ensures c.count_row.ensures

pub returns : goal.returns
returns c =
    let places : c.loop-place.place ≡ 5 = omega arith in
    let hosts : c.loop-host.host ≡ 4 = omega arith in
    let rows : c.loop-row.row ≡ 6 = omega arith in
    table_by c.args.u (written c.args.out.now)
    (adds _ _ c.put_line.ensures c.of.ensures)
    (adds _ _ c.put_line-2.ensures c.of-2.ensures)
    (adds _ _ c.put_line-3.ensures c.active_row.ensures)
    (rw places at c.loop-place.invariant)
    (adds _ _ c.put_line-4.ensures c.edition_line.ensures)
    (adds _ _ c.put_line-5.ensures c.flag_line.ensures)
    (adds _ _ c.put_line-6.ensures c.flag_line-2.ensures)
    (adds _ _ c.put_line-7.ensures c.idle_line.ensures)
    (adds _ _ c.put_line-8.ensures c.out_line.ensures)
    (rw hosts at c.loop-host.invariant)
    (adds _ _ c.put_line-9.ensures c.of-3.ensures)
    (rw rows at c.loop-row.invariant)
