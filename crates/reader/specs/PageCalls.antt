-- The whole outcome of the calls on a page that another maker wrote: document 02, request (v).
use Rattle.std.specs.Prelude.{List, ℕ, length, Ok, Err, Result}
use Rattle.conditions.specs.declared.Condition.{Condition}
use Rattle.pages.specs.Readings.{page_record}
use Rattle.faults.specs.Listing.{faults_of, listing}
use Rattle.refusals.specs.Refusals.{Row, lowest}
use Rattle.refusals.specs.Verdicts.{rows_of_reader}
use Rattle.refusals.specs.Refusals.{Verdict}
use Rattle.refusals.specs.declared.Refusal.{Refusal}
use Rattle.drive.specs.declared.Record.{Record}
use Rattle.faults.specs.declared.Faults.{Faults}

-- "Refusals: number 1 for a page not 512 bytes."
abbrev pub reader_rows : List ℕ → List Row
reader_rows page = rows_of_reader (length page)

-- "gives any condition's record back".
abbrev pub record_by : List ℕ → Condition → Verdict → Result Record Refusal
record_by page c (Ok _) = Ok (page_record page c)
record_by page c (Err r) = Err r

unfoldable pub record_outcome : List ℕ → Condition → Result Record Refusal
record_outcome page c = record_by page c (lowest (reader_rows page))

-- "and a list of faults".
abbrev pub checked_by : List ℕ → Verdict → Result Faults Refusal
checked_by page (Ok _) = Ok (listing (faults_of page))
checked_by page (Err r) = Err r

unfoldable pub faults_outcome : List ℕ → Result Faults Refusal
faults_outcome page = checked_by page (lowest (reader_rows page))
