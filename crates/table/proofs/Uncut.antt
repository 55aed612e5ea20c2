-- No line of the table is cut: each piece of it has a bound, whatever its number, and the bounds of a line's pieces add up to less than a text's room.
use Rattle.std.proofs.Common.{Some, None, Option}
use mathlib.Core.Path.{◌≡◌}
use mathlib.Core.Bool.{Bool}
use mathlib.Core.List.{[], map}
use Prim.Native.Nat.{ℕ, zero, suc, ◌+◌, ◌-◌}
use native.Mathlib.Omega.{arith}
use lib.Dec.{eqb}
use lib.ListN.{get_or}
use Rattle.conditions.specs.Conditions.{condition_at, depth}
use Rattle.drive.specs.Records.{unsupported}
use Rattle.drive.specs.declared.Drive.{Drive}
use Rattle.drive.specs.declared.Edition.{Edition}
use Rattle.drive.specs.declared.Edition.TheVariants.{Draft, Published}
use Rattle.drive.specs.declared.Record.{Record}
use Rattle.drive.specs.declared.Setting.{Setting}
use Rattle.unit.specs.Units.{slot_of, held_of}
use Rattle.unit.specs.declared.Slot.{Slot}
use Rattle.unit.specs.declared.Slot.TheVariants.{Empty, Waiting}
use Rattle.requests.specs.declared.Stage.{Stage}
use Rattle.requests.specs.declared.Stage.TheVariants.{Straight, Flushing}
use Rattle.requests.specs.declared.Target.{Target}
use Rattle.requests.specs.declared.Target.TheVariants.{Stop, Start, GoTo}
use Rattle.unit.specs.declared.Unit.{Unit}
use Rattle.words.specs.Codes.{codes}
use Rattle.digits.specs.Numerals.{pairs}
use Rattle.digits.proofs.Lengths.{Within, whole, looser, ◌then◌, either, decimal, tenths, at_right, at_left, ended, none, each}
use Rattle.table.specs.Rows.{yes_text, seconds_text, setting_text, record_text, recovery_text, is_running, left_text, record_row, row_text}
use Rattle.table.specs.Below.{edition_text, flag_text, out_text, target_text, immed_text, stage_text, slot_text, held_text, host_text}
use Rattle.table.specs.Counts.{count_head, count_text, count_at}
use Rattle.table.specs.Table.{head_text, rule_text, head_at, mark_at, texts, table_lines}
use Rattle.table.proofs.Rows.{mark, name, label, row_name_lem}
use Rattle.requests.specs.declared.Failure.{Failure}

-- ---- a row

yes : (b : Bool) → Within (yes_text b) 5
yes b = either b (whole (codes "  yes")) (whole (codes "   no"))

seconds : (n : ℕ) → Within (seconds_text n) 12
seconds n = at_right (tenths n)

setting : (s : Setting) → Within (setting_text s) 16
setting s = either s.enabled (whole (codes "  on")) (whole (codes " off")) then seconds s.timer.0

pub settings : (r : Record) → Within (record_text r) 63
settings r =
    yes r.supported then yes r.saveable then yes r.changeable
    then setting r.default then setting r.saved then setting r.current

left : (s : Setting) (place : ℕ) (d : Drive) → Within (left_text s place d) 14
left s place d = either (is_running s place d) (whole (codes " *") then seconds (s.timer.0 - d.idle.0)) (whole (codes "             -"))

pub recovery : (r : Record) → Within (recovery_text r) 13
recovery r = at_right (looser (omega arith) (decimal r.recovery.0))

record_row_lem : (d : Drive) (place : ℕ) (r : Record) → Within (record_row d place r) 101
record_row_lem d place r =
    at_left (label (eqb (depth d.power) (place + 1)) (condition_at place))
    then settings r then left r.current place d then recovery r

row : (d : Drive) (k : ℕ) → Within (row_text d k) 127
row d zero = looser (omega arith) (mark (eqb (depth d.power) 0) then whole (codes "Active"))
row d (suc place) = looser (omega arith) (record_row_lem d place (get_or d.records place unsupported))

-- ---- a line below the rows

edition : (e : Edition) → Within (edition_text e) 28
edition Draft = looser (omega arith) (whole (codes "edition      draft"))
edition Published = whole (codes "edition      published ACS-2")

flag : (b : Bool) → Within (flag_text b) 3
flag b = either b (whole (codes "yes")) (looser (omega arith) (whole (codes "no")))

out : (o : Option ℕ) → Within (out_text o) 28
out None = looser (omega arith) (whole (codes "command out  none"))
out (Some host) = whole (codes "command out  host ") then decimal host

target : (t : Target) → Within (target_text t) 15
target Stop = looser (omega arith) (whole (codes "stop"))
target Start = looser (omega arith) (whole (codes "start"))
target (GoTo c) = whole (codes "go to ") then name c

stage : (s : Stage) → Within (stage_text s) 29
stage Straight = looser (omega arith) (whole (codes ", no flush"))
stage (Flushing n) = whole (codes ", flushes answered ") then decimal n

immed : (b : Bool) → Within (immed_text b) 7
immed b = either b (whole (codes ", IMMED")) (looser (omega arith) (whole []))

slot : (s : Slot) → Within (slot_text s) 51
slot Empty = looser (omega arith) (whole (codes "nothing waiting"))
slot (Waiting q) = target q.target then immed q.immed then stage q.stage

held : (h : Option Failure) → Within (held_text h) 30
unfolding pairs
held None = looser (omega arith) (whole [])
held (Some f) = whole (held_text (Some f))

-- ---- the lines, by their groups

head : (k : ℕ) → Within (head_at k) 127
head k = looser (omega arith) (either (eqb k 0) (whole head_text) (whole rule_text))

below : (u : Unit) (k : ℕ) → Within (mark_at u k) 127
below u k =
    either (eqb k 0) (looser (omega arith) (edition u.edition))
    (either (eqb k 1) (looser (omega arith) (whole (codes "stopped      ") then flag u.stopped))
    (either (eqb k 2) (looser (omega arith) (whole (codes "unsaved      ") then flag u.unsaved))
    (either (eqb k 3) (looser (omega arith) (whole (codes "idle count   ") then tenths u.drive.idle.0 then whole (codes " s")))
    (looser (omega arith) (out u.out)))))

host : (u : Unit) (k : ℕ) → Within (host_text u k) 127
host u k =
    looser (omega arith)
    (whole (codes "host ") then decimal k then whole (codes "       ")
    then slot (slot_of u.slots k) then held (held_of u.held k))

column : (n : ℕ) → Within (count_text n) 12
column n = at_right (looser (omega arith) (decimal n))

count : (u : Unit) (k : ℕ) → Within (count_at u k) 127
count u zero = looser (omega arith) (whole count_head)
count u (suc row) = looser (omega arith) (at_left (looser (omega arith) (row_name_lem row)) then (column _ then column _ then column _))

pub uncut : (u : Unit) → table_lines u ≡ map ended (texts u)
unfolding table_lines texts
uncut u = (each 2 head (each 6 (row u.drive) (each 5 (below u) (each 4 (host u) (each 7 (count u) none))))).lines
