-- When the idle count starts again, and when it stays.
use Rattle.std.specs.Prelude.{Bool, true, false, not, ◌≡◌}
use Rattle.unit.specs.declared.Unit.{Unit}
use Rattle.calls.specs.Calls.{Call, StepFunction}
use Rattle.calls.specs.Described.{is_tick, excepted_from_restart}
use Rattle.runs.specs.Deeds.{Deed, of_call, does_a, deed_of}

-- "An abort changes no setting; it, like every accepted call but a tick or a log page read, sets the idle count to 0." Document 02, request (vii), adds
-- REQUEST SENSE to the exceptions.
abbrev pub restarts_idle : Deed → Bool
restarts_idle = of_call (λ c. not (excepted_from_restart c)) (λ c. true) (λ c. false) true

abbrev pub IdleRestarts : StepFunction → Type 0
IdleRestarts by = (u : Unit) (c : Call) → restarts_idle (deed_of c (by u c).said) ≡ true → (by u c).unit.drive.idle.0 ≡ 0

-- The converse: a call that is not among them, accepted or refused, leaves the count as it was, accepted ticks aside. (Those: calls/Editions ·
-- TickCounts, and with a command out calls/Out · tick_out.)
abbrev pub IdleKept : StepFunction → Type 0
IdleKept by = (u : Unit) (c : Call)
    → let d = deed_of c (by u c).said in
    restarts_idle d ≡ false → does_a is_tick d ≡ false → (by u c).unit.drive.idle ≡ u.drive.idle
