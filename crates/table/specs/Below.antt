-- The power log for the eye: "then the marks, the idle count and each host's operation on lines of their own", and above them the unit's edition.
-- Assumes nothing.
use Rattle.std.specs.Prelude.{Bool, cond, List, [], ◌++◌, ℕ, Some, None, Option}
use Prim.Native.Char.{code}
use Rattle.drive.specs.declared.Edition.{Edition}
use Rattle.drive.specs.declared.Edition.TheVariants.{Draft, Published}
use Rattle.senses.specs.declared.Sense.{Sense}
use Rattle.requests.specs.Requests.{failure_sense}
use Rattle.unit.specs.Units.{slot_of, held_of}
use Rattle.requests.specs.declared.Request.{Request}
use Rattle.unit.specs.declared.Slot.{Slot}
use Rattle.unit.specs.declared.Slot.TheVariants.{Empty, Waiting}
use Rattle.requests.specs.declared.Stage.{Stage}
use Rattle.requests.specs.declared.Stage.TheVariants.{Straight, Flushing}
use Rattle.requests.specs.declared.Target.{Target}
use Rattle.requests.specs.declared.Target.TheVariants.{Stop, Start, GoTo}
use Rattle.unit.specs.declared.Unit.{Unit}
use Rattle.words.specs.Codes.{codes}
use Rattle.digits.specs.Numerals.{decimal_text, tenths_text}
use Rattle.digits.specs.Pieces.{sense_text}
use Rattle.table.specs.Rows.{name_text}
use Rattle.requests.specs.declared.Failure.{Failure}

abbrev pub edition_text : Edition → List ℕ
edition_text Draft = codes "edition      draft"
edition_text Published = codes "edition      published ACS-2"

abbrev pub flag_text : Bool → List ℕ
flag_text b = cond b (codes "yes") (codes "no")

abbrev pub stopped_text : Unit → List ℕ
stopped_text u = codes "stopped      " ++ flag_text u.stopped

abbrev pub unsaved_text : Unit → List ℕ
unsaved_text u = codes "unsaved      " ++ flag_text u.unsaved

abbrev pub idle_text : Unit → List ℕ
idle_text u = codes "idle count   " ++ tenths_text u.drive.idle.0 ++ codes " s"

abbrev pub out_text : Option ℕ → List ℕ
out_text None = codes "command out  none"
out_text (Some host) = codes "command out  host " ++ decimal_text host

-- ---- a host's operation

abbrev pub target_text : Target → List ℕ
target_text Stop = codes "stop"
target_text Start = codes "start"
target_text (GoTo c) = codes "go to " ++ name_text c

abbrev pub immed_text : Bool → List ℕ
immed_text b = cond b (codes ", IMMED") []

abbrev pub stage_text : Stage → List ℕ
stage_text Straight = codes ", no flush"
stage_text (Flushing n) = codes ", flushes answered " ++ decimal_text n

abbrev pub request_text : Request → List ℕ
request_text q = target_text q.target ++ immed_text q.immed ++ stage_text q.stage

abbrev pub slot_text : Slot → List ℕ
slot_text Empty = codes "nothing waiting"
slot_text (Waiting q) = request_text q

-- Which failure a host has still to hear of.
abbrev pub sense_held_text : Sense → List ℕ
sense_held_text s = codes ", deferred sense" ++ sense_text (code " ") (code "/") s.key s.asc s.ascq ++ codes " held"

abbrev pub held_text : Option Failure → List ℕ
held_text None = []
held_text (Some f) = sense_held_text (failure_sense f)

abbrev pub host_text : Unit → ℕ → List ℕ
host_text u host =
    codes "host " ++ decimal_text host ++ codes "       " ++ slot_text (slot_of u.slots host) ++ held_text (held_of u.held host)
