-- The format page, "Set-up": the lines `slot`, `held` and `out` of a block. Assumes nothing.
use Rattle.std.specs.Prelude.{Bool, true, false, cond, ◌&&◌, Option, Some, None, is_some, List, [], ◌∷◌, ℕ, eqb, nat_eq}
use Rattle.std.specs.Option.{option_eq}
use Rattle.asked.specs.declared.Line.{Line}
use Rattle.asked.specs.declared.Line.TheVariants.{Sets}
use Rattle.asked.specs.declared.Part.TheVariants.{HasSlot, HasHeld, HasOut}
use Rattle.conditions.specs.declared.Condition.TheVariants.{IdleA, IdleB, IdleC, StandbyY, StandbyZ}
use Rattle.senses.specs.declared.Sense.{Sense}
use Rattle.requests.specs.Requests.{failure_sense}
use Rattle.requests.specs.declared.Failure.{Failure}
use Rattle.requests.specs.declared.Failure.TheVariants.{CommandSequence, NotReady}
use Rattle.requests.specs.declared.Request.{Request}
use Rattle.unit.specs.declared.Slot.{Slot}
use Rattle.unit.specs.declared.Slot.TheVariants.{Empty, Waiting}
use Rattle.requests.specs.declared.Stage.{Stage}
use Rattle.requests.specs.declared.Stage.TheVariants.{Straight, Flushing}
use Rattle.requests.specs.declared.Target.{Target}
use Rattle.requests.specs.declared.Target.TheVariants.{Stop, Start, GoTo}
use Rattle.words.specs.Codes.{codes}
use Rattle.asked.specs.Kinds.{kind_in}
use Rattle.asked.specs.Offers.{offered, ◌then◌}
use Rattle.words.specs.Fields.{has_words, number_in, name_in, host_in, byte_in, flag_in, condition_letters}

-- `-`: nothing there.
abbrev pub is_none : ℕ → List ℕ → Bool
is_none k line = is_some (name_in (codes "-" ∷ []) k line)

-- "a host above 3 in `slot` or `held`" is a bad line.
abbrev pub own_host_in : List ℕ → Option ℕ
own_host_in line = number_in 3 1 line

-- ---- slot H -, slot H TARGET IMMED FLUSH PROGRESS

-- "TARGET = stop start A B C Y Z".
abbrev pub target_names : List (List ℕ)
target_names = codes "stop" ∷ codes "start" ∷ condition_letters

abbrev pub targets : List Target
targets = Stop ∷ Start ∷ GoTo IdleA ∷ GoTo IdleB ∷ GoTo IdleC ∷ GoTo StandbyY ∷ GoTo StandbyZ ∷ []

-- "FLUSH 1 if the operation sends flushes; PROGRESS = flushes answered, 0 to FF"; "`start` with FLUSH 1, PROGRESS not 0 where FLUSH is 0" are bad lines.
abbrev pub stage_from : Target → Bool → ℕ → Option Stage
stage_from Start true answered = None
stage_from Stop true answered = Some (Flushing answered)
stage_from (GoTo c) true answered = Some (Flushing answered)
stage_from target false answered = offered (eqb answered 0) (Some Straight)

abbrev pub request_in : List ℕ → Option Request
request_in line =
    kind_in target_names targets 2 line then λ target.
    flag_in 3 line then λ immed.
    flag_in 4 line then λ flushes.
    byte_in 5 line then λ answered.
    stage_from target flushes answered then λ stage.
    Some (record { target = target; immed = immed; stage = stage })

abbrev pub slot_in : List ℕ → Option Slot
slot_in line =
    cond (is_none 2 line)
    (offered (has_words 3 line) (Some Empty))
    (offered (has_words 6 line) (request_in line then λ request. Some (Waiting request)))

unfoldable pub slot_line : List ℕ → Option Line
slot_line line = own_host_in line then λ host. slot_in line then λ slot. Some (Sets (HasSlot host slot))

-- ---- held H -, held H KK AA QQ

-- Word k spells this byte.
abbrev pub spells_byte : ℕ → ℕ → List ℕ → Bool
spells_byte k b line = option_eq nat_eq (byte_in k line) (Some b)

-- The line's KK AA QQ are this sense.
abbrev pub spells : Sense → List ℕ → Bool
spells s line = spells_byte 2 s.key line && spells_byte 3 s.asc line && spells_byte 4 s.ascq line

-- The failure that a line tells of: "`held H 02 04 02` is a failure's sense" (document 02, request (ii)); "a held sense that is no failure's" is a
-- bad line.
abbrev pub failure_in : List ℕ → Option Failure
failure_in line =
    cond (spells (failure_sense NotReady) line) (Some NotReady)
    (offered (spells (failure_sense CommandSequence) line) (Some CommandSequence))

abbrev pub held_in : List ℕ → Option (Option Failure)
held_in line =
    cond (is_none 2 line)
    (offered (has_words 3 line) (Some None))
    (offered (has_words 5 line) (failure_in line then λ failure. Some (Some failure)))

unfoldable pub held_line : List ℕ → Option Line
held_line line = own_host_in line then λ host. held_in line then λ held. Some (Sets (HasHeld host held))

-- ---- out -, out H

-- "host H's command is out; any H".
abbrev pub out_in : List ℕ → Option (Option ℕ)
out_in line =
    offered (has_words 2 line) (cond (is_none 1 line) (Some None) (host_in 1 line then λ host. Some (Some host)))

unfoldable pub out_line : List ℕ → Option Line
out_line line = out_in line then λ out. Some (Sets (HasOut out))
