-- What is handed out is asked for: the past knows the CDB of a waiting operation, and the command due from it is a flush or its last one.
use mathlib.Core.Path.{◌≡◌, refl}
use mathlib.Core.Bool.{Bool, true, false, ◌||◌, cond}
use mathlib.Core.List.{List}
use mathlib.Core.Logic.{inl, inr}
use Prim.Native.Nat.{ℕ}
use lib.Dec.{eqb}
use Rattle.requests.specs.declared.Stage.{Stage}
use Rattle.requests.specs.declared.Stage.TheVariants.{Straight, Flushing}
use Rattle.requests.specs.declared.Request.{Request}
use Rattle.cdb.specs.Cdb.{no_flush, stage_for}
use Rattle.operations.specs.Operations.{registers_of, last_of, due_from}
use Rattle.operations.specs.declared.Due.TheVariants.{Flush}
use Rattle.requests.specs.declared.Reply.{Reply}
use Rattle.calls.specs.Calls.{outcome, run}
use Rattle.runs.specs.Past.{past_of, cdb_of, held_at255}
use Rattle.runs.specs.Safe.{asks_flush}
use Rattle.runs.specs.Commands.{AskedFor, CommandsSent}
use Rattle.runs.proofs.Deeds.{when_sent}
use Rattle.runs.proofs.Known.{Reached, Noted, begins_flushing, known_after}

due_asked : {cdb : List ℕ} {n : ℕ} {answers : List Reply} {q : Request} → Noted cdb n answers q → (unsaved : Bool)
    → AskedFor cdb (registers_of (due_from unsaved q))
due_asked {cdb} {n} {answers} {q} noted unsaved = on (stage_for q.target (no_flush cdb)) refl noted.reached
  where
    asks : (m : ℕ) → stage_for q.target (no_flush cdb) ≡ Flushing m → asks_flush cdb ≡ true
    asks m e = rw noted.wants (begins_flushing q.target (no_flush cdb) m e)

    either_one : (b : Bool) → asks_flush cdb ≡ true → AskedFor cdb (registers_of (cond b Flush (last_of q.target)))
    either_one true flush = inl (flush, refl)
    either_one false flush = inr (q.target, noted.wants, refl)

    on : (s : Stage) → stage_for q.target (no_flush cdb) ≡ s → Reached s q.stage n answers → AskedFor cdb (registers_of (due_from unsaved q))
    on Straight e reached = inr (q.target, noted.wants, rw reached.0)
    on (Flushing m) e reached = rw reached.0 (either_one (eqb (held_at255 n) 0 || unsaved) (asks m e))

-- Whatever a host is handed is asked for by the CDB of its operation.
pub commands_sent : CommandsSent outcome
commands_sent u cs host q fine none =
    let known = known_after u fine none cs in
    when_sent (λ k r. AskedFor (cdb_of k (past_of u cs)) r) (run u cs) (λ k p waits. due_asked (known.1 k p waits) (run u cs).unsaved) host q
