-- Document 01, "Sense and log bytes": the bytes of sense data and the sense of a power condition.
use Rattle.std.specs.Prelude.{Bool, cond, List, [], ◌∷◌, ℕ}
use Rattle.conditions.specs.declared.Condition.{Condition}
use Rattle.conditions.specs.declared.Condition.TheVariants.{IdleA, IdleB, IdleC, StandbyY, StandbyZ}
use Rattle.conditions.specs.declared.Cause.{Cause}
use Rattle.conditions.specs.declared.Cause.TheVariants.{Timer, Command}
use Rattle.conditions.specs.declared.Power.{Power}
use Rattle.conditions.specs.declared.Power.TheVariants.{Active, Low}
use Rattle.senses.specs.declared.Sense.{Sense}

-- "REQUEST SENSE writes 18 bytes: 70h (71h if deferred) at 0, key at 2, 0Ah at 7, ASC at 12, ASCQ at 13, zeros elsewhere."
abbrev pub response_code : Bool → ℕ
response_code deferred = cond deferred 0x71 0x70

unfoldable pub sense_bytes : Bool → Sense → List ℕ
sense_bytes deferred s =
    response_code deferred ∷ 0 ∷ s.key ∷ 0
    ∷ 0 ∷ 0 ∷ 0 ∷ 0x0A
    ∷ 0 ∷ 0 ∷ 0 ∷ 0
    ∷ s.asc ∷ s.ascq ∷ 0 ∷ 0
    ∷ 0 ∷ 0 ∷ []

-- What is given "by timer and by command".
abbrev pub by_cause : Cause → ℕ → ℕ → ℕ
by_cause Timer timer command = timer
by_cause Command timer command = command

-- "5Eh with, by timer and by command, Idle_A 01h/03h, Idle_B 05h/06h, Idle_C 07h/08h, Standby_y 09h/0Ah (SPC-4), Standby_z 02h/04h."
abbrev pub ascq_of : Condition → Cause → ℕ
ascq_of IdleA why = by_cause why 0x01 0x03
ascq_of IdleB why = by_cause why 0x05 0x06
ascq_of IdleC why = by_cause why 0x07 0x08
ascq_of StandbyY why = by_cause why 0x09 0x0A
ascq_of StandbyZ why = by_cause why 0x02 0x04

-- "else key 0 with the condition: Active 00h/00h; else 5Eh with .."
abbrev pub power_sense : Power → Sense
power_sense Active = record { key = 0; asc = 0x00; ascq = 0x00 }
power_sense (Low c why) = record { key = 0; asc = 0x5E; ascq = ascq_of c why }
