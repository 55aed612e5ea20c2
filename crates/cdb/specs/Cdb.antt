-- Document 01, "START STOP UNIT": the CDB and the decision over the power condition number.
use Rattle.std.specs.Prelude.{Bool, true, false, not, ◌&&◌, ◌||◌, cond, List, ℕ, eqb, get_or, Some, None, Option}
use Rattle.conditions.specs.declared.Condition.TheVariants.{IdleA, IdleB, IdleC, StandbyY, StandbyZ}
use Rattle.drive.specs.declared.Record.{Record}
use Rattle.bits.specs.Bits.{bits, bit, some_one}
use Rattle.requests.specs.Requests.{supported_in}
use Rattle.requests.specs.declared.Target.{Target}
use Rattle.requests.specs.declared.Target.TheVariants.{Stop, Start, GoTo}
use Rattle.requests.specs.declared.Stage.{Stage}
use Rattle.requests.specs.declared.Stage.TheVariants.{Straight, Flushing}
use Rattle.requests.specs.declared.Request.{Request}

-- "CDB of 6 bytes (003)". A byte that is not there reads as 0; number 1 is given before one is looked at.
abbrev pub byte : ℕ → List ℕ → ℕ
byte k cdb = get_or cdb k 0

-- "byte 1 bit 0 IMMED;"
abbrev pub immed : List ℕ → Bool
immed cdb = bit 0 (byte 1 cdb)

-- "byte 3 bits 3:0 modifier;"
abbrev pub modifier : List ℕ → ℕ
modifier cdb = bits 3 0 (byte 3 cdb)

-- "byte 4 bits 7:4 power condition, bit 2 NO_FLUSH, bit 1 LOEJ, bit 0 START; byte 5 ignored."
abbrev pub power_condition : List ℕ → ℕ
power_condition cdb = bits 7 4 (byte 4 cdb)

abbrev pub no_flush : List ℕ → Bool
no_flush cdb = bit 2 (byte 4 cdb)

abbrev pub loej : List ℕ → Bool
loej cdb = bit 1 (byte 4 cdb)

abbrev pub start : List ℕ → Bool
start cdb = bit 0 (byte 4 cdb)

-- "Reserved bits must be zero (H)."
abbrev pub reserved_in_cdb : List ℕ → Bool
reserved_in_cdb cdb =
    some_one 7 1 (byte 1 cdb) || not (eqb (byte 2 cdb) 0) || some_one 7 4 (byte 3 cdb) || some_one 3 3 (byte 4 cdb)

-- ---- "The decision runs over the power condition number:"

-- "0h, modifier 0, LOEJ 0, START 0: stop." "0h, modifier 0, LOEJ 0, START 1: start."
abbrev pub stop_or_start : ℕ → Bool → Bool → Option Target
stop_or_start m ejects starts = cond (eqb m 0) (cond ejects None (Some (cond starts Start Stop))) None

-- "1h, modifier 0: as start (H)."
abbrev pub as_start : ℕ → Option Target
as_start m = cond (eqb m 0) (Some Start) None

-- "2h, modifiers 0, 1, 2: flush, then go to Idle_A, Idle_B, Idle_C."
abbrev pub idles : ℕ → Option Target
idles m =
    cond (eqb m 0) (Some (GoTo IdleA)) (cond (eqb m 1) (Some (GoTo IdleB)) (cond (eqb m 2) (Some (GoTo IdleC)) None))

-- "3h, modifiers 0, 1: flush, then go to Standby_z, Standby_y."
abbrev pub standbys : ℕ → Option Target
standbys m = cond (eqb m 0) (Some (GoTo StandbyZ)) (cond (eqb m 1) (Some (GoTo StandbyY)) None)

-- "Anything else is refused. For 1h to 3h LOEJ and START are ignored."
abbrev pub decided : ℕ → ℕ → Bool → Bool → Option Target
decided number m ejects starts =
    cond (eqb number 0) (stop_or_start m ejects starts)
    (cond (eqb number 1) (as_start m)
    (cond (eqb number 2) (idles m)
    (cond (eqb number 3) (standbys m) None)))

unfoldable pub wanted : List ℕ → Option Target
wanted cdb = decided (power_condition cdb) (modifier cdb) (loej cdb) (start cdb)

-- "The condition must be supported."
abbrev pub fits : List Record → Option Target → Bool
fits rs None = false
fits rs (Some Stop) = true
fits rs (Some Start) = true
fits rs (Some (GoTo c)) = supported_in rs c

-- In "the list above".
unfoldable pub is_listed : List Record → List ℕ → Bool
is_listed rs cdb = not (reserved_in_cdb cdb) && fits rs (wanted cdb)

-- "With NO_FLUSH 1 it is left out, and so is any later one. NO_FLUSH has no effect on start." No flush is answered yet.
abbrev pub stage_for : Target → Bool → Stage
stage_for Stop without = cond without Straight (Flushing 0)
stage_for Start without = Straight
stage_for (GoTo c) without = cond without Straight (Flushing 0)

abbrev pub request_for : Target → List ℕ → Request
request_for t cdb = record { target = t; immed = immed cdb; stage = stage_for t (no_flush cdb) }
