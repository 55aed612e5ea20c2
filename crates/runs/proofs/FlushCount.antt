-- The flush count over history: the past knows how many flushes of a waiting operation were answered, and its stage carries that number, held at
-- 255; so the end report does, with the flush that a bad answer was for.
use mathlib.Core.Path.{◌≡◌, refl}
use mathlib.Core.Bool.{true, false, ◌&&◌, cond}
use mathlib.Core.List.{List}
use Prim.Native.Nat.{ℕ, suc}
use lib.Dec.{eqb}
use borrow.Author.Tests.{eq-eqb}
use Rattle.unit.specs.Units.{slot_of}
use Rattle.requests.specs.declared.Stage.{Stage}
use Rattle.requests.specs.declared.Stage.TheVariants.{Straight, Flushing}
use Rattle.requests.specs.declared.Request.{Request}
use Rattle.unit.specs.declared.Slot.TheVariants.{Waiting}
use Rattle.unit.specs.declared.Unit.{Unit}
use Rattle.cdb.specs.Cdb.{no_flush, stage_for}
use Rattle.operations.specs.Operations.{due_from, is_flush, one_more, flushes_of}
use Rattle.requests.specs.declared.Reply.{Reply}
use Rattle.operations.specs.declared.Report.{Report}
use Rattle.calls.specs.Calls.{answer, outcome, run}
use Rattle.runs.specs.Deeds.{Deed, ends}
use Rattle.runs.specs.Past.{past_of, flush_sent, flushes_answered, held_at255}
use Rattle.runs.specs.FlushCount.{FlushCount}
use Rattle.runs.proofs.Deeds.{Taken, deed_at, when_ended}
use Rattle.runs.proofs.Known.{Reached, Noted, Known, counts_on, sent_due, known_after}

-- ---- a waiting operation

stage_counts : (begun now : Stage) (n : ℕ) (answers : List Reply) → Reached begun now n answers → flushes_of now ≡ held_at255 n
stage_counts Straight now n answers r = rw (r.0, r.1)
stage_counts (Flushing m) now n answers r = rw r.0

noted_counts : {cdb : List ℕ} {n : ℕ} {answers : List Reply} {q : Request} → Noted cdb n answers q → flushes_of q.stage ≡ held_at255 n
noted_counts {cdb} {n} {answers} {q} noted = stage_counts (stage_for q.target (no_flush cdb)) q.stage n answers noted.reached

waiting_counts : (past : List Deed) (u : Unit) → Known past u → (host : ℕ) (q : Request) → slot_of u.slots host ≡ Waiting q
    → flushes_of q.stage ≡ held_at255 (flushes_answered host past)
waiting_counts past u known host q waits = noted_counts (known.1 host q waits)

-- ---- its end report

module _ (past : List Deed) (u : Unit) (known : Known past u) where
  -- the flushes answered once the host's command that is out is answered too
  abbrev answered_now : ℕ → ℕ
  answered_now host = cond (eqb host host && flush_sent host past) (suc (flushes_answered host past)) (flushes_answered host past)

  flush_counts : (host : ℕ) (q : Request) → Taken u host q → is_flush (due_from u.unsaved q) ≡ true
      → one_more (flushes_of q.stage) ≡ held_at255 (answered_now host)
  flush_counts host q taken f =
      rw (eq-eqb host host refl, sent_due past u known host q taken, f, waiting_counts past u known host q taken.waiting)
      (counts_on (flushes_answered host past))

  last_counts : (host : ℕ) (q : Request) → Taken u host q → is_flush (due_from u.unsaved q) ≡ false
      → flushes_of q.stage ≡ held_at255 (answered_now host)
  last_counts host q taken f =
      rw (eq-eqb host host refl, sent_due past u known host q taken, f) (waiting_counts past u known host q taken.waiting)

  -- The report of an operation that is over carries the flushes answered for it, this answer counted.
  report_counts : (host : ℕ) (reply : Reply) (report : Report) → deed_at u (answer host reply) ≡ ends host reply report
      → report.flushes ≡ held_at255 (answered_now host)
  report_counts = when_ended (λ host reply report v. report.flushes ≡ held_at255 (answered_now host)) u (record {
    flush_failed = flush_counts;
    last_succeeded = λ host q taken f. last_counts host q taken f;
    last_failed = λ host q taken f. last_counts host q taken f;
  })

-- ---- over any run

-- A waiting operation's progress and an end report's count are the number of flushes answered, held at 255.
pub flush_count : FlushCount outcome
flush_count u cs host fine none =
    let known = known_after u fine none cs in
    (waiting_counts (past_of u cs) (run u cs) known host, report_counts (past_of u cs) (run u cs) known host)
