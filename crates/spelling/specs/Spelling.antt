-- The format page: how `show` spells a record. Assumes nothing.
use Rattle.std.specs.Prelude.{true, false, List, [], ◌∷◌, ◌++◌, ℕ, get_or, Some, None, Option}
use Prim.Native.Char.{code}
use Rattle.conditions.specs.declared.Cause.{Cause}
use Rattle.conditions.specs.declared.Cause.TheVariants.{Timer, Command}
use Rattle.conditions.specs.declared.Condition.{Condition}
use Rattle.conditions.specs.declared.Condition.TheVariants.{IdleA, IdleB, IdleC, StandbyY, StandbyZ}
use Rattle.conditions.specs.declared.Power.{Power}
use Rattle.conditions.specs.declared.Power.TheVariants.{Active, Low}
use Rattle.drive.specs.declared.Edition.{Edition}
use Rattle.drive.specs.declared.Edition.TheVariants.{Draft, Published}
use Rattle.drive.specs.declared.Record.{Record}
use Rattle.drive.specs.declared.Setting.{Setting}
use Rattle.senses.specs.declared.Sense.{Sense}
use Rattle.requests.specs.Requests.{failure_sense}
use Rattle.requests.specs.declared.Request.{Request}
use Rattle.unit.specs.declared.Slot.{Slot}
use Rattle.unit.specs.declared.Slot.TheVariants.{Empty, Waiting}
use Rattle.requests.specs.declared.Stage.{Stage}
use Rattle.requests.specs.declared.Stage.TheVariants.{Straight, Flushing}
use Rattle.requests.specs.declared.Target.{Target}
use Rattle.requests.specs.declared.Target.TheVariants.{Stop, Start, GoTo}
use Rattle.unit.specs.declared.Unit.{Unit}
use Rattle.words.specs.Codes.{codes}
use Rattle.asked.specs.declared.Part.{Part}
use Rattle.asked.specs.declared.Part.TheVariants.{IsOf, Settings, Stands, HasSlot, HasHeld, HasOut, HasCounts}
use Rattle.asked.specs.declared.State.{State}
use Rattle.asked.specs.Records.{parts_of}
use Rattle.digits.specs.Sheets.{line_text}
use Rattle.digits.specs.Pieces.{sense_text, flag_word, number_word}
use Rattle.requests.specs.declared.Failure.{Failure}

-- "single spaces, no space at a line's end": each word but the first has its space before it.
abbrev pub letter_of : Condition → ℕ
letter_of IdleA = code "A"
letter_of IdleB = code "B"
letter_of IdleC = code "C"
letter_of StandbyY = code "Y"
letter_of StandbyZ = code "Z"

abbrev pub letter_word : Condition → List ℕ
letter_word c = code " " ∷ letter_of c ∷ []

-- ed E, "`ed 0` or `ed 1` (published)"
abbrev pub edition_word : Edition → List ℕ
edition_word Draft = flag_word false
edition_word Published = flag_word true

-- c X SUP SAV CHG REC DE DT SE ST CE CT
abbrev pub setting_words : Setting → List ℕ
setting_words s = flag_word s.enabled ++ number_word s.timer.0

abbrev pub settings_words : Record → List ℕ
settings_words r = setting_words r.default ++ setting_words r.saved ++ setting_words r.current

abbrev pub record_words : Record → List ℕ
record_words r =
    flag_word r.supported ++ flag_word r.saveable ++ flag_word r.changeable ++ number_word r.recovery.0 ++ settings_words r

-- state COND CAUSE IDLE STOPPED UNSAVED
abbrev pub cause_word : Cause → List ℕ
cause_word Timer = codes " timer"
cause_word Command = codes " command"

abbrev pub power_words : Power → List ℕ
power_words Active = codes " active none"
power_words (Low c why) = letter_word c ++ cause_word why

abbrev pub state_words : State → List ℕ
state_words s = power_words s.power ++ number_word s.idle.0 ++ flag_word s.stopped ++ flag_word s.unsaved

-- slot H -, slot H TARGET IMMED FLUSH PROGRESS
abbrev pub target_word : Target → List ℕ
target_word Stop = codes " stop"
target_word Start = codes " start"
target_word (GoTo c) = letter_word c

abbrev pub stage_words : Stage → List ℕ
stage_words Straight = flag_word false ++ number_word 0
stage_words (Flushing n) = flag_word true ++ number_word n

abbrev pub request_words : Request → List ℕ
request_words q = target_word q.target ++ flag_word q.immed ++ stage_words q.stage

abbrev pub slot_words : Slot → List ℕ
slot_words Empty = codes " -"
slot_words (Waiting q) = request_words q

-- held H -, held H KK AA QQ
abbrev pub spaced_text : Sense → List ℕ
spaced_text s = sense_text (code " ") (code " ") s.key s.asc s.ascq

abbrev pub held_words : Option Failure → List ℕ
held_words None = codes " -"
held_words (Some f) = spaced_text (failure_sense f)

-- out -, out H
abbrev pub out_words : Option ℕ → List ℕ
out_words None = codes " -"
out_words (Some host) = number_word host

-- counts and twelve numbers, "rows in power order, each timer then other"
abbrev pub row_words : List ℕ → List ℕ
row_words row = number_word (get_or row 0 0) ++ number_word (get_or row 1 0)

abbrev pub counts_words : List (List ℕ) → List ℕ
counts_words t =
    row_words (get_or t 0 []) ++ row_words (get_or t 1 []) ++ row_words (get_or t 2 [])
    ++ row_words (get_or t 3 []) ++ row_words (get_or t 4 []) ++ row_words (get_or t 5 [])

unfoldable pub part_text : Part → List ℕ
part_text (IsOf e) = codes "ed" ++ edition_word e
part_text (Settings c r) = codes "c" ++ letter_word c ++ record_words r
part_text (Stands s) = codes "state" ++ state_words s
part_text (HasSlot host s) = codes "slot" ++ number_word host ++ slot_words s
part_text (HasHeld host h) = codes "held" ++ number_word host ++ held_words h
part_text (HasOut out) = codes "out" ++ out_words out
part_text (HasCounts t) = codes "counts" ++ counts_words t

abbrev pub part_lines : List Part → List (List ℕ)
part_lines [] = []
part_lines (p ∷ ps) = line_text (part_text p) ∷ part_lines ps

-- "`show` prints the lines of a `unit` block, all present, in this order".
unfoldable pub shown : Unit → List (List ℕ)
shown u = line_text (codes "unit") ∷ part_lines (parts_of u) ++ (line_text (codes "end") ∷ [])
