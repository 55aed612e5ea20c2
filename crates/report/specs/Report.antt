-- What the test bench prints of another maker's log page (document 02, request (v)): the settings as replay's `table` has them, the faults in words, and
-- how many there are. Assumes nothing.
use Rattle.std.specs.Prelude.{cond, List, [], ◌∷◌, ◌++◌, map, ◌≡◌, ℕ, ◌/◌, ◌%◌, ◌≤◌, min, eqb, ltb, length, take, Ok, Err, Result}
use Rattle.conditions.specs.Conditions.{falling}
use Rattle.conditions.specs.declared.Condition.{Condition}
use Rattle.refusals.specs.Refusals.{number_of}
use Rattle.refusals.specs.declared.Refusal.{Refusal}
use Rattle.faults.specs.Tests.{owner_of}
use Rattle.faults.specs.declared.Fault.{Fault}
use Rattle.faults.specs.declared.FaultKind.{FaultKind}
use Rattle.faults.specs.declared.FaultKind.TheVariants.{ReservedWord, ReservedBits, SetUnsupported, NoTimer, SavedOff}
use Rattle.faults.specs.declared.Faults.{Faults}
use Rattle.reader.specs.PageCalls.{record_outcome, faults_outcome}
use Rattle.words.specs.Codes.{codes}
use Rattle.digits.specs.Numerals.{hex_text, decimal_text, padded}
use Rattle.digits.specs.Sheets.{joined, line_text}
use Rattle.table.specs.Rows.{name_text, record_text, recovery_text}
use Rattle.drive.specs.declared.Record.{Record}

-- "Refusals: number 1 for a page not 512 bytes": the reader gives no other number.
abbrev pub not_read_text : Refusal → List ℕ
not_read_text r = codes "refused " ++ decimal_text (number_of r) ++ codes ": the page is not 512 bytes"

-- ---- the settings

-- The columns of `table`, but for those that a page knows nothing of: the present condition and the time left.
abbrev pub page_head : List ℕ
page_head = codes "condition supp save chng       default s         saved s       current s  recovery ms"

abbrev pub page_row : Condition → Result Record Refusal → List ℕ
page_row c (Ok r) = padded 9 (name_text c) ++ record_text r ++ recovery_text r
page_row c (Err r) = not_read_text r

abbrev pub row_of : List ℕ → Condition → List ℕ
row_of page c = page_row c (record_outcome page c)

abbrev pub row_texts : List ℕ → List (List ℕ)
row_texts page = map (row_of page) falling

-- ---- the faults

-- The place of a word as the papers write it, in hex, with two digits at least.
abbrev pub place_text : ℕ → List ℕ
place_text w = hex_text (w / 16) ++ hex_text (w % 16)

-- Which word of which condition that is.
abbrev pub owner_text : ℕ → List ℕ
owner_text w = cond (ltb w 0x50) (name_text (owner_of w) ++ codes " +" ++ decimal_text (w % 16)) (codes "after the conditions")

-- "nonzero reserved word, flag word with reserved bits, unsupported condition with another named bit or number set .., enabled setting with timer
-- zero .., saved different from default on a condition not saveable ..".
abbrev pub kind_text : FaultKind → List ℕ
kind_text ReservedWord = codes "a reserved word is not zero"
kind_text ReservedBits = codes "a flag word has reserved bits set"
kind_text SetUnsupported = codes "the condition is not supported, yet another of its bits or numbers is set"
kind_text NoTimer = codes "enabled with timer zero"
kind_text SavedOff = codes "saved differs from default, yet not saveable"

abbrev pub fault_text : Fault → List ℕ
fault_text f = codes "word " ++ place_text f.place ++ codes "h, " ++ owner_text f.place ++ codes ": " ++ kind_text f.kind

-- "At most 64 faults are listed, the total is given".
abbrev pub fault_texts : Faults → List (List ℕ)
fault_texts f = map fault_text (take (min f.total 64) f.listed)

abbrev pub many_text : ℕ → List ℕ
many_text n = decimal_text n ++ codes " faults" ++ cond (ltb 64 n) (codes ", of which the first 64 are listed") []

abbrev pub total_text : ℕ → List ℕ
total_text n = cond (eqb n 0) (codes "no fault") (cond (eqb n 1) (codes "1 fault") (many_text n))

-- ---- the whole

abbrev pub texts_by : List ℕ → Result Faults Refusal → List (List ℕ)
texts_by page (Ok f) = page_head ∷ row_texts page ++ fault_texts f ++ total_text f.total ∷ []
texts_by page (Err r) = not_read_text r ∷ []

unfoldable pub report_texts : List ℕ → List (List ℕ)
report_texts page = texts_by page (faults_outcome page)

unfoldable pub report_lines : List ℕ → List (List ℕ)
report_lines page = map line_text (report_texts page)

-- The first n bytes of a buffer are the whole report. The second part follows from the first, and is what `&out[..n]` asks of a caller.
pub record Reported (page : List ℕ) (n : ℕ) (out : List ℕ) : Type 0 where
  pub fits : n ≤ length out
  pub counted : n ≡ length (take n out)
  pub stands : take n out ≡ joined (report_lines page)
