-- Document 01, "Numbers given back": the rows that each call is held to, in their order, by what they look at. No unit is needed:
-- `ok` is that the record is well formed, `out` that a command is out.
use Rattle.std.specs.Prelude.{Bool, not, List, [], ◌∷◌, ◌++◌, ℕ, eqb, ltb}
use Rattle.refusals.specs.Refusals.{Row, ◌gives◌}
use Rattle.refusals.specs.declared.Refusal.TheVariants.{BadLength, BadHost, BadRecord, CommandOut, NoSuchPage, HasNone, OwnWaiting, BadOpcode, BadField, IsStopped, Aborted}

-- ---- rows that calls share

-- 1: "CDB not 6 bytes, sense buffer not 18, log buffer not 512", a new page's buffer too; document 02, request (i): "a page buffer not 52 bytes", and
-- request (v): "a page not 512 bytes".
abbrev pub bad_length_row : ℕ → ℕ → Row
bad_length_row size due = not (eqb size due) gives BadLength

-- 2: "host above 3".
abbrev pub bad_host_row : ℕ → Row
bad_host_row host = ltb 3 host gives BadHost

-- 3: "record not well formed".
abbrev pub bad_record_row : Bool → Row
bad_record_row ok = not ok gives BadRecord

-- 4: "a command is out (host calls other than the answer; EPC; not ticks, resets or the log page)". Page 1Ah and the new pages are log pages too:
-- request (i) names 1 and 3 alone.
abbrev pub command_out_row : Bool → Row
command_out_row out = out gives CommandOut

-- Every call of a host but the answer: 2, 3, 4.
abbrev pub rows_of_host : ℕ → Bool → Bool → List Row
rows_of_host host ok out = bad_host_row host ∷ bad_record_row ok ∷ command_out_row out ∷ []

-- ---- the rows of each call

-- "Ticks are never refused but for 3." "Resets are refused only by 3." So is manufacture, by what it would make.
abbrev pub rows_of_record : Bool → List Row
rows_of_record ok = bad_record_row ok ∷ []

-- EPC: 3, 4, and 10: "EPC abort". "These calls name no host."
abbrev pub rows_of_epc : Bool → Bool → Bool → List Row
rows_of_epc ok out aborted = bad_record_row ok ∷ command_out_row out ∷ (aborted gives Aborted) ∷ []

-- Read and write: 2, 3, 4, and 9: "read or write with the stopped mark".
abbrev pub rows_of_medium : ℕ → Bool → Bool → Bool → List Row
rows_of_medium host ok out stopped = rows_of_host host ok out ++ (stopped gives IsStopped) ∷ []

-- REQUEST SENSE: 1, 2, 3, 4.
abbrev pub rows_of_sense : ℕ → ℕ → Bool → Bool → List Row
rows_of_sense size host ok out = bad_length_row size 18 ∷ rows_of_host host ok out

-- The log page and page 1Ah, which are so many bytes: 1, 3.
abbrev pub rows_of_page : ℕ → ℕ → Bool → List Row
rows_of_page due size ok = bad_length_row size due ∷ bad_record_row ok ∷ []

-- A new page: 1, 3, and 11: "for a new page asked of a draft unit or a page above 1" (document 02, request (vi)). It is a log page, so not 4.
abbrev pub rows_of_new_page : ℕ → Bool → Bool → List Row
rows_of_new_page size ok lacking = bad_length_row size 512 ∷ bad_record_row ok ∷ (lacking gives NoSuchPage) ∷ []

-- A page that another maker wrote: 1.
abbrev pub rows_of_reader : ℕ → List Row
rows_of_reader size = bad_length_row size 512 ∷ []

-- 7: "opcode not 1Bh".
abbrev pub bad_opcode_row : ℕ → Row
bad_opcode_row opcode = not (eqb opcode 0x1B) gives BadOpcode

-- Of a CDB, 6: "START STOP from a host whose own operation waits"; 7; 8: "CDB not in the list above".
abbrev pub rows_of_cdb : Bool → ℕ → Bool → List Row
rows_of_cdb own opcode listed = (own gives OwnWaiting) ∷ bad_opcode_row opcode ∷ (not listed gives BadField) ∷ []

-- START STOP UNIT: 1, 2, 3, 4, 6, 7, 8.
abbrev pub rows_of_start_stop : ℕ → ℕ → Bool → Bool → Bool → ℕ → Bool → List Row
rows_of_start_stop size host ok out own opcode listed =
    (bad_length_row size 6 ∷ rows_of_host host ok out) ++ rows_of_cdb own opcode listed

-- The next command: 2, 3, 4, and 5: "next asked by a host with none waiting".
abbrev pub rows_of_next : ℕ → Bool → Bool → Bool → List Row
rows_of_next host ok out waiting = rows_of_host host ok out ++ (not waiting gives HasNone) ∷ []

-- The answer: 2, 3, and 5: "answer for a host that has none out". Number 4 is not for the answer.
abbrev pub rows_of_answer : ℕ → Bool → Bool → List Row
rows_of_answer host ok own = bad_host_row host ∷ bad_record_row ok ∷ (not own gives HasNone) ∷ []
