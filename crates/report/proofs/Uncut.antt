-- No line of a report is cut: each piece of it has a bound, whatever its number, and the bounds of a line's pieces add up to less than a text's room.
use Rattle.std.proofs.Common.{Ok, Err, Result}
use mathlib.Core.Path.{◌≡◌}
use mathlib.Core.List.{List, [], ◌∷◌, ◌++◌, map}
use Prim.Native.Nat.{ℕ, ◌/◌, ◌%◌, min}
use native.Mathlib.Omega.{arith}
use lib.Dec.{eqb, ltb}
use lib.ListN.{take}
use Rattle.conditions.specs.Conditions.{falling}
use Rattle.conditions.specs.declared.Condition.{Condition}
use Rattle.faults.specs.Tests.{owner_of}
use Rattle.faults.specs.declared.Fault.{Fault}
use Rattle.faults.specs.declared.FaultKind.{FaultKind}
use Rattle.faults.specs.declared.FaultKind.TheVariants.{ReservedWord, ReservedBits, SetUnsupported, NoTimer, SavedOff}
use Rattle.faults.specs.declared.Faults.{Faults}
use Rattle.reader.specs.PageCalls.{record_outcome, faults_outcome}
use Rattle.refusals.specs.Refusals.{number_of}
use Rattle.refusals.specs.declared.Refusal.{Refusal}
use Rattle.words.specs.Codes.{codes}
use Rattle.digits.proofs.Lengths.{Within, whole, looser, ◌then◌, either, hex, decimal, at_left, ended, Uncut, none, ◌and◌}
use Rattle.table.proofs.Rows.{name}
use Rattle.table.proofs.Uncut.{settings, recovery}
use Rattle.report.specs.Report.{not_read_text, page_head, page_row, owner_text, kind_text, fault_text, many_text, total_text, texts_by, report_texts, report_lines}
use Rattle.drive.specs.declared.Record.{Record}

not_read : (r : Refusal) → Within (not_read_text r) 127
not_read r = looser (omega arith) (whole (codes "refused ") then decimal (number_of r) then whole (codes ": the page is not 512 bytes"))

row : (c : Condition) (found : Result Record Refusal) → Within (page_row c found) 127
row c (Ok r) = looser (omega arith) (at_left (name c) then settings r then recovery r)
row c (Err r) = not_read r

owner : (w : ℕ) → Within (owner_text w) 21
owner w =
    either (ltb w 0x50) (name (owner_of w) then whole (codes " +") then decimal (w % 16))
    (looser (omega arith) (whole (codes "after the conditions")))

kind : (k : FaultKind) → Within (kind_text k) 73
kind ReservedWord = looser (omega arith) (whole (kind_text ReservedWord))
kind ReservedBits = looser (omega arith) (whole (kind_text ReservedBits))
kind SetUnsupported = whole (kind_text SetUnsupported)
kind NoTimer = looser (omega arith) (whole (kind_text NoTimer))
kind SavedOff = looser (omega arith) (whole (kind_text SavedOff))

fault : (f : Fault) → Within (fault_text f) 127
fault f =
    looser (omega arith)
    (whole (codes "word ") then (hex (f.place / 16) then hex (f.place % 16)) then whole (codes "h, ")
    then owner f.place then whole (codes ": ") then kind f.kind)

many : (n : ℕ) → Within (many_text n) 127
many n =
    looser (omega arith)
    (decimal n then whole (codes " faults")
    then either (ltb 64 n) (whole (codes ", of which the first 64 are listed")) (looser (omega arith) (whole [])))

total : (n : ℕ) → Within (total_text n) 127
total n =
    either (eqb n 0) (looser (omega arith) (whole (codes "no fault")))
    (either (eqb n 1) (looser (omega arith) (whole (codes "1 fault"))) (many n))

mapped : {A : Type 0} {f : A → List ℕ} {ls : List (List ℕ)} (l : List A) → ((x : A) → Within (f x) 127) → Uncut ls → Uncut (map f l ++ ls)
mapped [] w ls = ls
mapped (x ∷ l) w ls = w x and mapped l w ls

texts : (page : List ℕ) (checked : Result Faults Refusal) → Uncut (texts_by page checked)
texts page (Ok f) =
    looser (omega arith) (whole page_head)
    and mapped falling (λ c. row c (record_outcome page c)) (mapped (take (min f.total 64) f.listed) fault (total f.total and none))
texts page (Err r) = not_read r and none

pub uncut : (page : List ℕ) → report_lines page ≡ map ended (report_texts page)
unfolding report_lines report_texts
uncut page = (texts page (faults_outcome page)).lines
