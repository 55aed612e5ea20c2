-- Document 02, request (vii), "Polling keeps our disks awake.": a run to which REQUEST SENSE calls are added, beside the run without them.
use Rattle.std.specs.Prelude.{◌≡◌, List, [], ◌∷◌, map, ℕ, Ok, None}
use Rattle.unit.specs.Units.{held_of}
use Rattle.unit.specs.declared.Unit.{Unit}
use Rattle.calls.specs.Calls.{Call, request_sense, StepFunction, Event, run_by, history_by}
use Rattle.calls.specs.Table.{verdict_in}

-- ---- the two runs

-- A call of the run, whichever it is, or a poll that a monitor adds: REQUEST SENSE of this host with this buffer.
pub data Watched : Type 0 where
  own : Call → Watched
  poll : ℕ → List ℕ → Watched

abbrev pub call_of : Watched → Call
call_of (own c) = c
call_of (poll host buffer) = request_sense host buffer

-- The run with the polls,
abbrev pub polled : List Watched → List Call
polled = map call_of

-- and without them.
abbrev pub unpolled : List Watched → List Call
unpolled [] = []
unpolled (own c ∷ ws) = c ∷ unpolled ws
unpolled (poll host buffer ∷ ws) = unpolled ws

-- Of the events of the run with the polls, those of the other calls.
abbrev pub own_events : List Watched → List Event → List Event
own_events [] events = []
own_events (w ∷ ws) [] = []
own_events (own c ∷ ws) (event ∷ events) = event ∷ own_events ws events
own_events (poll host buffer ∷ ws) (event ∷ events) = own_events ws events

-- ---- the statement

-- Each poll that is accepted finds nothing held for its host, on the record that it comes to. (Of one that is refused nothing is asked.)
abbrev pub FindNothing : StepFunction → Unit → List Watched → Type 0
FindNothing by u [] = Prim.Unit {0}
FindNothing by u (own c ∷ ws) = FindNothing by (by u c).unit ws
FindNothing by u (poll host buffer ∷ ws) =
    let o = by u (request_sense host buffer) in
    (verdict_in o.said ≡ Ok tt → held_of u.held host ≡ None) × FindNothing by o.unit ws

-- A monitor that polls does not keep a disk awake: the record after every other call, every other answer and every other buffer are the same with the
-- polls and without them, and so is the record at the end. (A poll that tells a held sense leaves the idle count too: Idle · IdleKept.)
abbrev pub PollsLeaveNoTrace : StepFunction → Type 0
PollsLeaveNoTrace by = (u : Unit) (ws : List Watched) → FindNothing by u ws
    → (own_events ws (history_by by u (polled ws)) ≡ history_by by u (unpolled ws)) × (run_by by u (polled ws) ≡ run_by by u (unpolled ws))
