-- Document 01, "Numbers given back": the table, number by number, over all calls, with document 02's numbers. Each call's own rows are those of the
-- table that name it.
use Rattle.std.specs.Prelude.{Bool, true, false, not, ◌&&◌, ◌||◌, [], ◌≡◌, ◌↔◌, eqb, ltb, length, Ok, Err}
use Rattle.refusals.specs.Refusals.{IsLowest}
use Rattle.refusals.specs.declared.Refusal.{Refusal}
use Rattle.refusals.specs.declared.Refusal.TheVariants.{BadLength, BadHost, BadRecord, CommandOut, NoSuchPage, HasNone, OwnWaiting, BadOpcode, BadField, IsStopped, Aborted}
use Rattle.unit.specs.Units.{waits, is_out, is_out_for, well_formed}
use Rattle.unit.specs.declared.Unit.{Unit}
use Rattle.published.specs.Descriptors.{lacks_page}
use Rattle.epc.specs.Epc.{aborts}
use Rattle.cdb.specs.Cdb.{byte, is_listed}
use Rattle.registers.specs.Commands.{ata_command}
use Rattle.operations.specs.declared.Acceptance.TheVariants.{GoodDue, Pending}
use Rattle.operations.specs.declared.Progress.TheVariants.{More, Ended}
use Rattle.requests.specs.declared.Reply.TheVariants.{Good}
use Rattle.calls.specs.Calls.{Call, set_features, read, write, start_stop, next, answer, Said, plain, accepted, sent, progressed, StepFunction}
use Rattle.calls.specs.Described.{describe, same_kind, is_new_page, reach_of, of_host, is_call_of, is_answer_for}
use Rattle.refusals.specs.Refusals.{Verdict}

-- ---- which calls a row names

abbrev pub is_epc : Call → Bool
is_epc c = same_kind c (set_features (ata_command 0 0 0 0))

abbrev pub is_start_stop : Call → Bool
is_start_stop c = same_kind c (start_stop 0 [])

-- "(host calls other than the answer; EPC; not ticks, resets or the log page)"; nor page 1Ah or a new page.
abbrev pub waits_for_drive : Call → Bool
waits_for_drive c = of_host (λ host. true) (reach_of c) && not (same_kind c (answer 0 Good)) || is_epc c

abbrev pub uses_medium : Call → Bool
uses_medium c = same_kind c (read 0) || same_kind c (write 0)

-- ---- the table: when the row of each number applies to a call on a record

abbrev pub applies_to : Unit → Call → Refusal → Bool
-- 1: "CDB not 6 bytes, sense buffer not 18, log buffer not 512", a new page's too; request (i): "a page buffer not 52 bytes".
applies_to u c BadLength = not (eqb (length (describe c).bytes) (describe c).size)
-- 2: "host above 3". EPC, ticks, resets and the log pages name no host.
applies_to u c BadHost = of_host (λ host. ltb 3 host) (reach_of c)
-- 3: "record not well formed".
applies_to u c BadRecord = not (well_formed u)
-- 4: "a command is out (host calls other than the answer; EPC; ..)".
applies_to u c CommandOut = is_out u.out && waits_for_drive c
-- Document 02, request (vi): "11, between 4 and 5, for a new page asked of a draft unit or a page above 1".
applies_to u c NoSuchPage = is_new_page c && lacks_page u.edition (describe c).page
-- 5: "next asked by a host with none waiting; answer for a host that has none out".
applies_to u c HasNone = is_call_of (next 0) (λ host. not (waits u host)) c || is_answer_for (λ host. not (is_out_for host u.out)) c
-- 6: "START STOP from a host whose own operation waits".
applies_to u c OwnWaiting = is_call_of (start_stop 0 []) (waits u) c
-- 7: "opcode not 1Bh".
applies_to u c BadOpcode = is_start_stop c && not (eqb (byte 0 (describe c).bytes) 0x1B)
-- 8: "CDB not in the list above".
applies_to u c BadField = is_start_stop c && not (is_listed u.drive.records (describe c).bytes)
-- 9: "read or write with the stopped mark".
applies_to u c IsStopped = u.stopped && uses_medium c
-- 10: "EPC abort".
applies_to u c Aborted = is_epc c && aborts u.edition (describe c).registers u.drive.records

-- What an answer says of the verdict.
abbrev pub verdict_in : Said → Verdict
verdict_in (plain (Ok _)) = Ok tt
verdict_in (plain (Err r)) = Err r
verdict_in (accepted (Ok GoodDue)) = Ok tt
verdict_in (accepted (Ok Pending)) = Ok tt
verdict_in (accepted (Err r)) = Err r
verdict_in (sent (Ok q)) = Ok tt
verdict_in (sent (Err r)) = Err r
verdict_in (progressed (Ok More)) = Ok tt
verdict_in (progressed (Ok (Ended report))) = Ok tt
verdict_in (progressed (Err r)) = Err r

-- The call is not refused.
abbrev pub is_clear : Verdict → Bool
is_clear (Ok _) = true
is_clear (Err r) = false

-- ---- the statement

-- "The lowest number that applies is given", by a step function: exactly then, on every record and call.
abbrev pub Numbers : StepFunction → Type 0
Numbers by = (u : Unit) (c : Call) (r : Refusal) → verdict_in (by u c).said ≡ Err r ↔ IsLowest (applies_to u c) r
