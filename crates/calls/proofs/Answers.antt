-- "Answers.": what the answer to a host's command leaves of the condition, the marks and the idle count, over the host, the target and the condition.
-- Which command is out follows from the slot and the unsaved mark; the rest is what the answer's outcome comes to.
use Rattle.std.proofs.Common.{Some}
use mathlib.Core.Path.{◌≡◌, refl}
use mathlib.Core.Bool.{Bool, true, false, cond}
use Prim.Native.Nat.{ℕ}
use lib.ListN.{get_or}
use Rattle.rows.proofs.Choices.{either}
use Rattle.conditions.specs.Conditions.{place_of}
use Rattle.conditions.specs.declared.Condition.{Condition}
use Rattle.conditions.specs.declared.Condition.TheVariants.{StandbyY, StandbyZ}
use Rattle.conditions.specs.declared.Cause.TheVariants.{Command}
use Rattle.conditions.specs.declared.Power.TheVariants.{Active, Low}
use Rattle.drive.specs.Records.{unsupported}
use Rattle.requests.specs.declared.Target.TheVariants.{Stop, Start, GoTo}
use Rattle.requests.specs.declared.Request.{Request}
use Rattle.requests.specs.declared.Reply.{Reply}
use Rattle.requests.specs.declared.Reply.TheVariants.{Good, Bad}
use Rattle.unit.specs.Units.{slot_of, well_formed}
use Rattle.unit.specs.declared.Slot.TheVariants.{Waiting}
use Rattle.unit.specs.declared.Unit.{Unit}
use Rattle.operations.specs.Operations.{last_of, due_from, is_flush, one_more, flushes_of}
use Rattle.operations.specs.declared.Due.TheVariants.{Flush}
use Rattle.exchange.specs.Answered.{failed, flush_answered, last_answered, answered_for}
use Rattle.exchange.specs.Exchange.{answer_outcome}
use Rattle.calls.proofs.Leaves.{Leaves}
use Rattle.calls.proofs.Progress.{answer_taken, last_no_flush}

module _ (u : Unit) (fine : well_formed u ≡ true) (host : ℕ) (q : Request) (waiting : slot_of u.slots host ≡ Waiting q)
    (out : u.out ≡ Some host) where
  failed_leaves : (flushes : ℕ) → Leaves Active u.stopped u.unsaved (failed u host q flushes).unit
  failed_leaves flushes =
      either (Leaves Active u.stopped u.unsaved) q.immed _ _
      (record { power = refl; stopped = refl; unsaved = refl; idle = refl })
      (record { power = refl; stopped = refl; unsaved = refl; idle = refl })

  -- "Good flush: Active, unsaved cleared."
  pub good_flush : due_from u.unsaved q ≡ Flush → Leaves Active u.stopped false (answer_outcome u host Good).unit
  unfolding answered_for
  good_flush due = rw (answer_taken u fine host q waiting out Good, due) (record { power = refl; stopped = refl; unsaved = refl; idle = refl })

  -- "Bad flush: Active, .. marks as before."
  pub bad_flush : due_from u.unsaved q ≡ Flush → Leaves Active u.stopped u.unsaved (answer_outcome u host Bad).unit
  unfolding answered_for
  bad_flush due = rw (answer_taken u fine host q waiting out Bad, due) (failed_leaves (one_more (flushes_of q.stage)))

  -- "a failure is held", with IMMED 1, and nothing else is: what is held stays through a good answer,
  pub good_not_held : (answer_outcome u host Good).unit.held ≡ u.held
  unfolding answered_for
  good_not_held = rw (answer_taken u fine host q waiting out Good) (on (is_flush (due_from u.unsaved q)))
    where
      on : (b : Bool) → (cond b (flush_answered u host q Good) (last_answered u host q Good)).unit.held ≡ u.held
      on true = refl
      on false = refl

  -- and through a bad one where "With IMMED 0 the status comes with the last answer".
  pub told_not_held : q.immed ≡ false → (answer_outcome u host Bad).unit.held ≡ u.held
  unfolding answered_for
  told_not_held at_once = rw (answer_taken u fine host q waiting out Bad) (on (is_flush (due_from u.unsaved q)))
    where
      on : (b : Bool) → (cond b (flush_answered u host q Bad) (last_answered u host q Bad)).unit.held ≡ u.held
      on true = rw at_once
      on false = rw at_once

  module _ (last : due_from u.unsaved q ≡ last_of q.target) where
    judged : (reply : Reply) → answer_outcome u host reply ≡ last_answered u host q reply
    unfolding answered_for
    judged reply = rw (answer_taken u fine host q waiting out reply, last, last_no_flush q.target)

    -- "Good last command: the named condition, cause command;" "the stopped mark becomes one for stop, zero for any other."
    pub good_go_to : (c : Condition) → q.target ≡ GoTo c → Leaves (Low c Command) false u.unsaved (answer_outcome u host Good).unit
    good_go_to c goes = rw (judged Good, goes) (record { power = refl; stopped = refl; unsaved = refl; idle = refl })

    -- "stop enters Standby_y if its current flag is set, else Standby_z, supported or not".
    pub good_stop : (flag : Bool) → q.target ≡ Stop → (get_or u.drive.records (place_of StandbyY) unsupported).current.enabled ≡ flag
        → Leaves (Low (cond flag StandbyY StandbyZ) Command) true u.unsaved (answer_outcome u host Good).unit
    good_stop flag stops on = rw (judged Good, stops) (record { power = rw on; stopped = refl; unsaved = refl; idle = refl })

    -- A start whose verify is good: Active, and "zero for any other".
    pub good_start : q.target ≡ Start → Leaves Active false u.unsaved (answer_outcome u host Good).unit
    good_start starts = rw (judged Good, starts) (record { power = refl; stopped = refl; unsaved = refl; idle = refl })

    -- "Bad last command: Active, failed, marks as before." Request (ii), of a bad verify: "unit Active, stopped mark as before."
    pub bad_last : Leaves Active u.stopped u.unsaved (answer_outcome u host Bad).unit
    bad_last = rw (judged Bad) (failed_leaves (flushes_of q.stage))
