-- The heading, the rows, the faults and the total, one after another, are the report of a page that is read.
use mathlib.Core.Path.{◌≡◌, ◌∙◌}
use mathlib.Core.List.{List, [], ◌∷◌, ◌++◌, map, map-append}
use Prim.Native.Nat.{ℕ}
use Rattle.digits.specs.Sheets.{Written}
use Rattle.digits.specs.Sheets.{wrote_all, line_text}
use Rattle.digits.proofs.Sheets.{Adds, wrote_then}
use Rattle.reader.specs.PageCalls.{faults_outcome}
use Rattle.std.proofs.Common.{Result}
use Rattle.faults.specs.declared.Faults.{Faults}
use Rattle.refusals.specs.declared.Refusal.{Refusal}
use Rattle.report.specs.Report.{texts_by, report_texts, report_lines}

pub all_written : {headed rowed listed end : Written} (s : Written) (head : List ℕ) (rows faults : List (List ℕ)) (total : List ℕ)
    → Adds s head headed → rowed ≡ wrote_all headed (map line_text rows) → listed ≡ wrote_all rowed (map line_text faults)
    → Adds listed total end → end ≡ wrote_all s (map line_text (head ∷ rows ++ faults ++ total ∷ []))
unfolding wrote_all
all_written s head rows faults total e f g h = h ∙ rw (g, f, e) (simp (map-append, wrote_then))

pub of_checked : (page : List ℕ) (checked found : Result Faults Refusal) → checked ≡ faults_outcome page → checked ≡ found
    → map line_text (texts_by page found) ≡ report_lines page
unfolding report_lines report_texts
of_checked page checked found e is = rw (← e, is)
