-- No line of a block is cut: each piece of it has a bound, whatever its number, and the bounds of a line's pieces add up to less than a text's room.
use Rattle.std.proofs.Common.{Some, None, Option}
use mathlib.Core.Path.{◌≡◌}
use mathlib.Core.Bool.{Bool, true, false}
use mathlib.Core.List.{List, [], ◌∷◌, ◌++◌, map}
use Prim.Native.Nat.{ℕ}
use native.Mathlib.Omega.{arith}
use lib.ListN.{get_or}
use Rattle.conditions.specs.declared.Cause.TheVariants.{Timer, Command}
use Rattle.conditions.specs.declared.Condition.{Condition}
use Rattle.conditions.specs.declared.Power.{Power}
use Rattle.conditions.specs.declared.Power.TheVariants.{Active, Low}
use Rattle.drive.specs.declared.Edition.{Edition}
use Rattle.drive.specs.declared.Edition.TheVariants.{Draft, Published}
use Rattle.drive.specs.declared.Record.{Record}
use Rattle.drive.specs.declared.Setting.{Setting}
use Rattle.requests.specs.declared.Failure.{Failure}
use Rattle.unit.specs.declared.Slot.{Slot}
use Rattle.unit.specs.declared.Slot.TheVariants.{Empty, Waiting}
use Rattle.requests.specs.declared.Failure.{Failure}
use Rattle.requests.specs.declared.Stage.{Stage}
use Rattle.requests.specs.declared.Stage.TheVariants.{Straight, Flushing}
use Rattle.requests.specs.declared.Target.{Target}
use Rattle.requests.specs.declared.Target.TheVariants.{Stop, Start, GoTo}
use Rattle.unit.specs.declared.Unit.{Unit}
use Rattle.words.specs.Codes.{codes}
use Rattle.digits.specs.Numerals.{pairs}
use Rattle.digits.proofs.Lengths.{Within, whole, looser, ◌then◌, either, hex, ended, Uncut, none, ◌and◌}
use Rattle.asked.specs.declared.Part.{Part}
use Rattle.asked.specs.declared.Part.TheVariants.{IsOf, Settings, Stands, HasSlot, HasHeld, HasOut, HasCounts}
use Rattle.asked.specs.Records.{parts_of}
use Rattle.digits.specs.Pieces.{flag_word, number_word}
use Rattle.spelling.specs.Spelling.{edition_word, letter_word, setting_words, record_words, power_words, target_word, stage_words, slot_words, held_words, out_words, row_words, counts_words, part_text, shown}

-- ---- the pieces

flag : (b : Bool) → Within (flag_word b) 2
flag b = either b (whole (codes " 1")) (whole (codes " 0"))

number : (n : ℕ) → Within (number_word n) 9
number n = whole (codes " ") then hex n

edition : (e : Edition) → Within (edition_word e) 2
edition Draft = flag false
edition Published = flag true

letter : (c : Condition) → Within (letter_word c) 2
letter c = whole (letter_word c)

setting : (s : Setting) → Within (setting_words s) 11
setting s = flag s.enabled then number s.timer.0

settings : (r : Record) → Within (record_words r) 48
settings r =
    flag r.supported then flag r.saveable then flag r.changeable then number r.recovery.0
    then (setting r.default then setting r.saved then setting r.current)

power : (p : Power) → Within (power_words p) 12
power Active = whole (codes " active none")
power (Low c Timer) = looser (omega arith) (letter c then whole (codes " timer"))
power (Low c Command) = looser (omega arith) (letter c then whole (codes " command"))

target : (t : Target) → Within (target_word t) 6
target Stop = looser (omega arith) (whole (codes " stop"))
target Start = whole (codes " start")
target (GoTo c) = looser (omega arith) (letter c)

stage : (s : Stage) → Within (stage_words s) 11
stage Straight = flag false then number 0
stage (Flushing n) = flag true then number n

slot : (s : Slot) → Within (slot_words s) 19
slot Empty = looser (omega arith) (whole (codes " -"))
slot (Waiting q) = target q.target then flag q.immed then stage q.stage

held : (h : Option Failure) → Within (held_words h) 9
unfolding pairs
held None = looser (omega arith) (whole (codes " -"))
held (Some f) = whole (held_words (Some f))

out : (o : Option ℕ) → Within (out_words o) 9
out None = looser (omega arith) (whole (codes " -"))
out (Some host) = number host

row : (r : List ℕ) → Within (row_words r) 18
row r = number (get_or r 0 0) then number (get_or r 1 0)

counts : (t : List (List ℕ)) → Within (counts_words t) 108
counts t =
    row (get_or t 0 []) then row (get_or t 1 []) then row (get_or t 2 []) then row (get_or t 3 []) then row (get_or t 4 []) then row (get_or t 5 [])

-- ---- the line: the longest is that of the counts

part : (p : Part) → Within (part_text p) 114
unfolding part_text
part (IsOf e) = looser (omega arith) (whole (codes "ed") then edition e)
part (Settings c r) = looser (omega arith) (whole (codes "c") then letter c then settings r)
part (Stands s) =
    looser (omega arith)
    (whole (codes "state") then (power s.power then number s.idle.0 then flag s.stopped then flag s.unsaved))
part (HasSlot host s) = looser (omega arith) (whole (codes "slot") then number host then slot s)
part (HasHeld host h) = looser (omega arith) (whole (codes "held") then number host then held h)
part (HasOut o) = looser (omega arith) (whole (codes "out") then out o)
part (HasCounts t) = whole (codes "counts") then counts t

-- ---- the block

-- `unit`, the parts and `end`, a line each.
abbrev pub texts : Unit → List (List ℕ)
texts u = codes "unit" ∷ map part_text (parts_of u) ++ (codes "end" ∷ [])

parts : (ps : List Part) → Uncut (map part_text ps ++ (codes "end" ∷ []))
parts [] = looser (omega arith) (whole (codes "end")) and none
parts (p ∷ ps) = looser (omega arith) (part p) and parts ps

pub uncut : (u : Unit) → shown u ≡ map ended (texts u)
unfolding shown
uncut u = (looser (omega arith) (whole (codes "unit")) and parts (parts_of u)).lines
