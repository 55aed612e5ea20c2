-- A report has at most 71 lines: the heading, five rows, 64 faults and the total. A line is cut at 128 bytes, so that 9,088 hold any report.
use Rattle.std.proofs.Common.{Ok, Err, Result}
use mathlib.Core.List.{List, [], ◌∷◌}
use Prim.Native.Nat.{ℕ, ◌≤◌}
use native.Mathlib.Omega.{arith}
use lib.ListN.{length, length-append, length-map, length-take}
use Rattle.digits.specs.Sheets.{joined, line_text}
use Rattle.digits.proofs.Lengths.{lines_small}
use Rattle.faults.specs.declared.Faults.{Faults}
use Rattle.reader.specs.PageCalls.{faults_outcome}
use Rattle.report.specs.Report.{fault_texts, total_text, texts_by, report_texts, report_lines}
use Rattle.refusals.specs.declared.Refusal.{Refusal}

faults_most : (f : Faults) → length (fault_texts f) ≤ 64
faults_most f = rw (length-map, length-take) (omega arith)

texts_most : (page : List ℕ) (checked : Result Faults Refusal) → length (texts_by page checked) ≤ 71
texts_most page (Ok f) = omega (arith, length-append (fault_texts f) (total_text f.total ∷ []), faults_most f)
texts_most page (Err r) = omega arith

pub report_fits : (page : List ℕ) → length (joined (report_lines page)) ≤ 9088
unfolding report_lines report_texts
report_fits page =
    let most = texts_most page (faults_outcome page) in
    omega (arith, lines_small (report_texts page), length-map (report_texts page) line_text)
