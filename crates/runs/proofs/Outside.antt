-- What the guarantee of no byte left behind does not reach, and where it reaches across hosts: small runs, computed.
use Rattle.std.proofs.Common.{Ok}
use mathlib.Core.Bool.{true, false}
use mathlib.Core.Path.{◌≡◌, refl}
use mathlib.Core.List.{List, [], ◌∷◌, ◌++◌}
use Rattle.conditions.specs.declared.Condition.TheVariants.{StandbyZ}
use Rattle.conditions.specs.declared.Cause.TheVariants.{Timer, Command}
use Rattle.conditions.specs.declared.Power.TheVariants.{Low}
use Rattle.registers.specs.Commands.{ata_command}
use Rattle.requests.specs.declared.Reply.TheVariants.{Good}
use Rattle.calls.specs.Calls.{Call, tick, write, power_on, hard_reset, start_stop, next, answer, sent, outcome, run}
use Rattle.calls.specs.Examples.{off, on, new, fresh, epc_call}
use Rattle.runs.specs.Past.{past_of}
use Rattle.runs.specs.Safe.{latest_flushed, last_goes_out, last_answered_good}
use Rattle.runs.proofs.Computed.{computed}
use Rattle.runs.proofs.Afternoon.{stop}

-- ---- parked with a write unsaved

-- A stop with NO_FLUSH: its last command is no flushing operation's, and its good answer is no flush's.
abbrev without_flush : List Call
without_flush = write 1 ∷ start_stop 0 (0x1B ∷ 0x00 ∷ 0x00 ∷ 0x00 ∷ 0x04 ∷ 0x00 ∷ []) ∷ next 0 ∷ []

pub no_flush_parks : ((run fresh (without_flush ++ answer 0 Good ∷ [])).drive.power ≡ Low StandbyZ Command)
    × ((run fresh (without_flush ++ answer 0 Good ∷ [])).unsaved ≡ true)
unfolding computed
no_flush_parks = (refl, refl)

pub no_flush_outside : (last_goes_out (past_of fresh without_flush) ≡ false)
    × (last_answered_good (past_of fresh (without_flush ++ answer 0 Good ∷ [])) ≡ false)
    × (latest_flushed (past_of fresh (without_flush ++ answer 0 Good ∷ [])) ≡ false)
unfolding computed
no_flush_outside = (refl, refl, refl)

-- A go to with NO_FLUSH.
pub no_flush_goes_to :
    let go_to = write 1 ∷ start_stop 0 (0x1B ∷ 0x00 ∷ 0x00 ∷ 0x00 ∷ 0x34 ∷ 0x00 ∷ []) ∷ next 0 ∷ answer 0 Good ∷ [] in
    ((run fresh go_to).drive.power ≡ Low StandbyZ Command) × ((run fresh go_to).unsaved ≡ true)
unfolding computed
no_flush_goes_to = (refl, refl)

-- A go to as an EPC subcommand.
pub go_to_parks : ((run fresh (write 1 ∷ epc_call 0x00 0x1 ∷ [])).drive.power ≡ Low StandbyZ Command)
    × ((run fresh (write 1 ∷ epc_call 0x00 0x1 ∷ [])).unsaved ≡ true)
unfolding computed
go_to_parks = (refl, refl)

-- A timer that runs out.
pub timer_parks : ((run (new off off off off (on 1)) (write 1 ∷ tick ∷ [])).drive.power ≡ Low StandbyZ Timer)
    × ((run (new off off off off (on 1)) (write 1 ∷ tick ∷ [])).unsaved ≡ true)
unfolding computed
timer_parks = (refl, refl)

-- ---- resets

-- A power-on loses what was unsaved, and the mark with it; it counts as no flush.
pub power_on_loses : ((run fresh (write 1 ∷ power_on ∷ [])).unsaved ≡ false) × (latest_flushed (past_of fresh (write 1 ∷ power_on ∷ [])) ≡ false)
unfolding computed
power_on_loses = (refl, refl)

-- A hardware reset while the flush is out: the late answer is refused and saves nothing.
pub reset_keeps : ((run fresh (write 1 ∷ start_stop 0 stop ∷ next 0 ∷ hard_reset ∷ answer 0 Good ∷ [])).unsaved ≡ true)
    × (latest_flushed (past_of fresh (write 1 ∷ start_stop 0 stop ∷ next 0 ∷ hard_reset ∷ answer 0 Good ∷ [])) ≡ false)
unfolding computed
reset_keeps = (refl, refl)

-- ---- another host's flush

-- Host 2 writes after host 0's flush; host 1's flush is good after that: host 0 has its stop, with no second flush of its own.
pub any_flush_serves :
    (outcome
    (run fresh
    (start_stop 0 stop ∷ next 0 ∷ answer 0 Good ∷ write 2 ∷ start_stop 1 stop ∷ next 1 ∷ answer 1 Good ∷ [])) (next 0)).said
    ≡ sent (Ok (ata_command 0xE0 0 0 0))
unfolding computed
any_flush_serves = refl
