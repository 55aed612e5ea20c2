-- The replay lines of request (v), `faults LEN [W=V ...]` and `record X LEN [W=V ...]`: what they print, piece by piece. Assumes nothing.
use Rattle.std.specs.Prelude.{List, [], ◌∷◌, ◌++◌, map, ℕ, min, take, Ok, Err, Result}
use Rattle.conditions.specs.declared.Condition.{Condition}
use Rattle.faults.specs.Tests.{kind_number}
use Rattle.faults.specs.declared.Fault.{Fault}
use Rattle.faults.specs.declared.Faults.{Faults}
use Rattle.reader.specs.PageCalls.{faults_outcome, record_outcome}
use Rattle.words.specs.Codes.{codes}
use Rattle.digits.specs.Numerals.{hex_text}
use Rattle.digits.specs.Pieces.{number_word}
use Rattle.digits.specs.Sheets.{line_text}
use Rattle.pairs.specs.Pairs.{page_of}
use Rattle.spelling.specs.Spelling.{record_words}
use Rattle.phrases.specs.Phrases.{refused_text}
use Rattle.refusals.specs.declared.Refusal.{Refusal}
use Rattle.drive.specs.declared.Record.{Record}

-- ---- faults: "`ok TOTAL K@W K@W ...`", or "`refused 1 -`"

abbrev pub ok_total : ℕ → List ℕ
ok_total total = codes "ok" ++ number_word total

-- "in hex, K the kind 0 to 4", with its space before it.
abbrev pub entry_text : Fault → List ℕ
entry_text f = number_word (kind_number f.kind) ++ codes "@" ++ hex_text f.place

-- "at most 40 entries".
abbrev pub entries_of : Faults → List Fault
entries_of f = take (min f.total 0x40) f.listed

abbrev pub listed_pieces : Faults → List (List ℕ)
listed_pieces f = ok_total f.total ∷ map entry_text (entries_of f) ++ (line_text [] ∷ [])

abbrev pub checked_pieces : Result Faults Refusal → List (List ℕ)
checked_pieces (Ok f) = listed_pieces f
checked_pieces (Err r) = line_text (refused_text r) ∷ []

-- Of the page that the line's pairs make, from word 2 on.
unfoldable pub faults_pieces : ℕ → List ℕ → List (List ℕ)
faults_pieces len text = checked_pieces (faults_outcome (page_of 2 len text))

-- ---- record: "`ok SUP SAV CHG REC DE DT SE ST CE CT`, or `refused 1 -`"

abbrev pub found_text : Result Record Refusal → List ℕ
found_text (Ok r) = codes "ok" ++ record_words r
found_text (Err r) = refused_text r

-- Of the page that the line's pairs make, from word 3 on.
unfoldable pub record_pieces : Condition → ℕ → List ℕ → List (List ℕ)
record_pieces c len text = line_text (found_text (record_outcome (page_of 3 len text) c)) ∷ []
