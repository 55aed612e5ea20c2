-- The table is its lines, one behind the other.
use mathlib.Core.Path.{◌≡◌}
use mathlib.Core.List.{List}
use Prim.Native.Nat.{ℕ, suc}
use Rattle.unit.specs.declared.Unit.{Unit}
use Rattle.digits.specs.Sheets.{Written}
use Rattle.digits.specs.Sheets.{wrote_all}
use Rattle.digits.proofs.Sheets.{Adds, AddsAll}
use Rattle.table.specs.Below.{edition_text, stopped_text, unsaved_text, idle_text, out_text, host_text}
use Rattle.table.specs.Counts.{count_head, count_row}
use Rattle.table.specs.Rows.{active_row, row_text}
use Rattle.table.specs.Table.{head_text, rule_text, texts, table_lines}

abbrev pub condition_row : Unit → ℕ → List ℕ
condition_row u place = row_text u.drive (suc place)

module _ (u : Unit) where
  pub table_by : (a : Written) {b c d e f g h i j k l m : Written}
      → Adds a head_text b → Adds b rule_text c → Adds c (active_row u.drive) d → AddsAll d (condition_row u) 5 e
      → Adds e (edition_text u.edition) f → Adds f (stopped_text u) g → Adds g (unsaved_text u) h → Adds h (idle_text u) i → Adds i (out_text u.out) j
      → AddsAll j (host_text u) 4 k → Adds k count_head l → AddsAll l (count_row u) 6 m
      → m ≡ wrote_all a (table_lines u)
  unfolding wrote_all table_lines texts
  table_by a e1 e2 e3 e4 e5 e6 e7 e8 e9 e10 e11 e12 = rw (e12, e11, e10, e9, e8, e7, e6, e5, e4, e3, e2, e1)
