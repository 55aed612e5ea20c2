-- A poll that finds nothing held, or is refused, changes no record; so every other call comes to the record that it comes to without the polls.
use mathlib.Core.Path.{refl, ap, ◌∙◌}
use mathlib.Core.List.{List, [], ◌∷◌}
use Rattle.unit.specs.declared.Unit.{Unit}
use Rattle.calls.specs.Calls.{Event, outcome, step, run}
use Rattle.calls.proofs.Leaves.{poll_still}
use Rattle.runs.specs.Polls.{own, poll, polled, PollsLeaveNoTrace}

pub polls_leave_no_trace : PollsLeaveNoTrace outcome
polls_leave_no_trace u [] none = (refl, refl)
polls_leave_no_trace u (own c ∷ ws) none =
    let (events, end) = polls_leave_no_trace (step u c) ws none in
    (ap (λ (l : List Event). record { call = c; came = outcome u c } ∷ l) events, end)
polls_leave_no_trace u (poll host buffer ∷ ws) (none, later) =
    let still = poll_still u host buffer none in
    let (events, end) = polls_leave_no_trace u ws (rw still at later) in
    (rw still events, ap (λ (v : Unit). run v (polled ws)) still ∙ end)
