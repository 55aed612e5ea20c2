-- The power log for the eye, whole. Assumes nothing.
use Rattle.std.specs.Prelude.{cond, List, [], ◌∷◌, map, ℕ, eqb}
use Rattle.unit.specs.declared.Unit.{Unit}
use Rattle.words.specs.Codes.{codes}
use Rattle.digits.specs.Sheets.{line_text}
use Rattle.table.specs.Below.{edition_text, stopped_text, unsaved_text, idle_text, out_text, host_text}
use Rattle.table.specs.Counts.{count_at}
use Rattle.table.specs.Rows.{row_text}

abbrev pub head_text : List ℕ
head_text = codes "  condition supp save chng       default s         saved s       current s   time left s  recovery ms"

abbrev pub rule_text : List ℕ
rule_text = codes "> present ---------------------------------------------------------------- * runs -------------------"

abbrev pub head_at : ℕ → List ℕ
head_at k = cond (eqb k 0) head_text rule_text

abbrev pub mark_at : Unit → ℕ → List ℕ
mark_at u k =
    cond (eqb k 0) (edition_text u.edition)
    (cond (eqb k 1) (stopped_text u) (cond (eqb k 2) (unsaved_text u) (cond (eqb k 3) (idle_text u) (out_text u.out))))

-- The head and its rule, Active and the five conditions, the edition, the marks with the idle count and the command out,
-- the four hosts, the counts.
unfoldable pub texts : Unit → List (List ℕ)
texts u =
    head_at 0 ∷ head_at 1
    ∷ row_text u.drive 0 ∷ row_text u.drive 1 ∷ row_text u.drive 2
    ∷ row_text u.drive 3 ∷ row_text u.drive 4 ∷ row_text u.drive 5
    ∷ mark_at u 0 ∷ mark_at u 1 ∷ mark_at u 2 ∷ mark_at u 3 ∷ mark_at u 4
    ∷ host_text u 0 ∷ host_text u 1 ∷ host_text u 2 ∷ host_text u 3
    ∷ count_at u 0 ∷ count_at u 1 ∷ count_at u 2 ∷ count_at u 3 ∷ count_at u 4 ∷ count_at u 5 ∷ count_at u 6 ∷ []

unfoldable pub table_lines : Unit → List (List ℕ)
table_lines u = map line_text (texts u)
