-- The power log for the eye, below the hosts: how often the disk went into each condition, by a timer and otherwise, and the sum as page 1Ah has
-- it. Service staff read the wear of a disk from it. Assumes nothing.
use Rattle.std.specs.Prelude.{List, ◌++◌, ℕ, zero, suc}
use Rattle.conditions.specs.Conditions.{condition_at}
use Rattle.transitions.specs.Counts.{table_of, cell}
use Rattle.transitions.specs.Page.{row_sum}
use Rattle.unit.specs.declared.Unit.{Unit}
use Rattle.words.specs.Codes.{codes}
use Rattle.digits.specs.Numerals.{decimal_text, padded, right_in}
use Rattle.table.specs.Rows.{name_text}

-- 13 places for the name and 12 for each column.
abbrev pub count_head : List ℕ
count_head = codes "entries          by timer   otherwise    page 1Ah"

-- 4294967295, the largest count, has 10 places.
abbrev pub count_text : ℕ → List ℕ
count_text n = right_in 12 (decimal_text n)

-- Row 0 is Active.
abbrev pub row_name : ℕ → List ℕ
row_name zero = codes "Active"
row_name (suc place) = name_text (condition_at place)

abbrev pub columns_text : ℕ → List (List ℕ) → List ℕ
columns_text row t = count_text (cell row 0 t) ++ count_text (cell row 1 t) ++ count_text (row_sum row t)

abbrev pub count_row : Unit → ℕ → List ℕ
count_row u row = padded 13 (row_name row) ++ columns_text row (table_of u.drive.counts)

-- The head, then the six rows.
abbrev pub count_at : Unit → ℕ → List ℕ
count_at u zero = count_head
count_at u (suc row) = count_row u row
