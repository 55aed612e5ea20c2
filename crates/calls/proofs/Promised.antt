-- What the promise of each call on a unit allows is the outcome that every law speaks of: the promise is an equation with the same definition. Of a contract
-- a are the arguments, x is the result, s has the parameters at exit (see OneResult).
use mathlib.Core.Path.{◌≡◌}
use mathlib.Core.List.{[]}
use Rattle.engine.proofs.set_features.Reads as set-features
use Rattle.engine.proofs.tick.Reads as ticks
use Rattle.engine.proofs.read.Reads as reads
use Rattle.engine.proofs.write.Reads as writes
use Rattle.engine.proofs.power_on.Reads as power-on
use Rattle.engine.proofs.hard_reset.Reads as hard-reset
use Rattle.engine.proofs.soft_reset.Reads as soft-reset
use Rattle.bridge.proofs.start_stop_unit.Reads as start-stop-unit
use Rattle.exchange.proofs.next_command.Reads as next-command
use Rattle.exchange.proofs.answer.Reads as answers
use Rattle.readouts.proofs.request_sense.Reads as request-sense
use Rattle.readouts.proofs.log_page.Reads as log-page
use Rattle.readouts.proofs.new_page.Reads as new-page
use Rattle.readouts.proofs.transitions_page.Reads as transitions-page
use Rattle.calls.specs.Calls.{set_features, tick, read, write, power_on, hard_reset, soft_reset, start_stop, next, answer, request_sense, log_page, transitions_page, new_page, plain, accepted, sent, progressed, plainly, into_buffer, outcome}

pub promised_set_features : (κs : _) (a : _) (x : _) (s : _) → set-features.Post κs a x s → plainly x ≡ outcome a.0 (set_features a.1.0)
promised_set_features κs a x s p = rw p

pub promised_tick : (κs : _) (a : _) (x : _) (s : _) → ticks.Post κs a x s → plainly x ≡ outcome a.0 tick
promised_tick κs a x s p = rw p

pub promised_read : (κs : _) (a : _) (x : _) (s : _) → reads.Post κs a x s → plainly x ≡ outcome a.0 (read a.1.0)
promised_read κs a x s p = rw p

pub promised_write : (κs : _) (a : _) (x : _) (s : _) → writes.Post κs a x s → plainly x ≡ outcome a.0 (write a.1.0)
promised_write κs a x s p = rw p

pub promised_power_on : (κs : _) (a : _) (x : _) (s : _) → power-on.Post κs a x s → plainly x ≡ outcome a.0 power_on
promised_power_on κs a x s p = rw p

pub promised_hard_reset : (κs : _) (a : _) (x : _) (s : _) → hard-reset.Post κs a x s → plainly x ≡ outcome a.0 hard_reset
promised_hard_reset κs a x s p = rw p

pub promised_soft_reset : (κs : _) (a : _) (x : _) (s : _) → soft-reset.Post κs a x s → plainly x ≡ outcome a.0 soft_reset
promised_soft_reset κs a x s p = rw p

pub promised_start_stop : (κs : _) (a : _) (x : _) (s : _) → start-stop-unit.Post κs a x s
    → record { said = accepted x.answer; unit = x.unit; buffer = [] } ≡ outcome a.0 (start_stop a.1.0 a.1.1.0.now)
promised_start_stop κs a x s p = rw p

pub promised_next : (κs : _) (a : _) (x : _) (s : _) → next-command.Post κs a x s
    → record { said = sent x.answer; unit = x.unit; buffer = [] } ≡ outcome a.0 (next a.1.0)
promised_next κs a x s p = rw p

pub promised_answer : (κs : _) (a : _) (x : _) (s : _) → answers.Post κs a x s
    → record { said = progressed x.answer; unit = x.unit; buffer = [] } ≡ outcome a.0 (answer a.1.0 a.1.1.0)
promised_answer κs a x s p = rw p

pub promised_request_sense : (κs : _) (a : _) (x : _) (s : _) → request-sense.Post κs a x s
    → into_buffer (record { called = x; buffer = s.1.1.0.now }) ≡ outcome a.0 (request_sense a.1.0 a.1.1.0.now)
promised_request_sense κs a x s p = rw (p.0, p.1)

pub promised_log_page : (κs : _) (a : _) (x : _) (s : _) → log-page.Post κs a x s → let o = outcome a.0 (log_page a.1.0.now) in
    (plain x ≡ o.said) × (s.1.0.now ≡ o.buffer)
promised_log_page κs a x s p = (rw p.0, p.1)

pub promised_transitions_page : (κs : _) (a : _) (x : _) (s : _) → transitions-page.Post κs a x s → let o = outcome a.0 (transitions_page a.1.0.now) in
    (plain x ≡ o.said) × (s.1.0.now ≡ o.buffer)
promised_transitions_page κs a x s p = (rw p.0, p.1)

pub promised_new_page : (κs : _) (a : _) (x : _) (s : _) → new-page.Post κs a x s → let o = outcome a.0 (new_page a.1.0 a.1.1.0.now) in
    (plain x ≡ o.said) × (s.1.1.0.now ≡ o.buffer)
promised_new_page κs a x s p = (rw p.0, p.1)
