-- What the calls so far say of a host's operation. A past is the deeds of a run with the latest first.
use Rattle.std.specs.Prelude.{Bool, false, ◌&&◌, cond, List, [], ◌∷◌, ◌++◌, reverse, ℕ, suc, eqb, ltb}
use Rattle.unit.specs.declared.Unit.{Unit}
use Rattle.requests.specs.declared.Reply.{Reply}
use Rattle.calls.specs.Calls.{Call, StepFunction, outcome, history_by}
use Rattle.runs.specs.Deeds.{Deed, if_begins, if_hands_out, if_answered, deeds}

-- The past at the end of a run, by a step function and by the layer's own.
abbrev pub past_by : StepFunction → Unit → List Call → List Deed
past_by by u cs = reverse (deeds (history_by by u cs))

abbrev pub past_of : Unit → List Call → List Deed
past_of = past_by outcome

-- The CDB that the host's last accepted START STOP UNIT came with.
abbrev pub cdb_of : ℕ → List Deed → List ℕ
cdb_of k [] = []
cdb_of k (d ∷ past) =
    let before = cdb_of k past in
    if_begins (λ host cdb. cond (eqb host k) cdb before) before d

-- The command that the host was handed last is a flush: "Flush is E7h." That is the command that its answer is to: "that command is then out until
-- the answer, good or bad, is given."
abbrev pub flush_sent : ℕ → List Deed → Bool
flush_sent k [] = false
flush_sent k (d ∷ past) =
    let before = flush_sent k past in
    if_hands_out (λ host q. cond (eqb host k) (eqb q.command 0xE7) before) before d

-- "the answers its last flush and its last command got" (demand 3): a flush's answer takes the place of an earlier flush's, the last command's stands
-- after it.
abbrev pub gets : Bool → Reply → List Reply → List Reply
gets to_flush reply before = cond to_flush (reply ∷ []) (before ++ reply ∷ [])

abbrev pub answers_got : ℕ → List Deed → List Reply
answers_got k [] = []
answers_got k (d ∷ past) =
    let before = answers_got k past in
    if_begins (λ host cdb. cond (eqb host k) [] before)
    (if_answered (λ host reply. cond (eqb host k) (gets (flush_sent host past) reply before) before) before d) d

-- "the number of flushes answered, good and bad, for that operation": since the host's last accepted START STOP UNIT.
abbrev pub flushes_answered : ℕ → List Deed → ℕ
flushes_answered k [] = 0
flushes_answered k (d ∷ past) =
    let before = flushes_answered k past in
    if_begins (λ host cdb. cond (eqb host k) 0 before)
    (if_answered (λ host reply. cond (eqb host k && flush_sent host past) (suc before) before) before d) d

-- "which stays at 255 once reached".
abbrev pub held_at255 : ℕ → ℕ
held_at255 n = cond (ltb n 255) n 255
