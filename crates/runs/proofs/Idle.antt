-- The idle count starts again with each of these calls, since each effect goes through the one restart; with every other it stays, ticks aside.
use mathlib.Core.Path.{◌≡◌, refl, sym, ◌∙◌}
use mathlib.Core.Bool.{true, false, false≢true, true≢false}
use borrow.Author.Tests.{not-true, not-false}
use Rattle.rows.proofs.Choices.{either}
use Rattle.unit.specs.declared.Unit.{Unit}
use Rattle.calls.specs.Calls.{Call, outcome}
use Rattle.calls.specs.Described.{is_tick, excepted_from_restart}
use Rattle.runs.specs.Deeds.{Deed, does_a}
use Rattle.runs.specs.Idle.{restarts_idle, IdleRestarts, IdleKept}
use Rattle.runs.proofs.Deeds.{LeavesIdle, restarts, is_tick_lem, stays, by_deed, all_others}

zero_after : (u : Unit) (c : Call) (v : Unit) → LeavesIdle u c v → excepted_from_restart c ≡ false → v.drive.idle.0 ≡ 0
zero_after u c v (restarts other zero) h = zero
zero_after u c v (is_tick_lem excepted tick) h = absurd (true≢false (sym excepted ∙ h))
zero_after u c v (stays excepted same) h = absurd (true≢false (sym excepted ∙ h))

same_after : (u : Unit) (c : Call) (v : Unit) → LeavesIdle u c v → excepted_from_restart c ≡ true → is_tick c ≡ false → v.drive.idle ≡ u.drive.idle
same_after u c v (restarts other zero) h t = absurd (true≢false (sym h ∙ other))
same_after u c v (is_tick_lem excepted tick) h t = absurd (true≢false (sym tick ∙ t))
same_after u c v (stays excepted same) h t = same

abbrev Restarts : Deed → Unit → Type 0
Restarts d v = restarts_idle d ≡ true → v.drive.idle.0 ≡ 0

-- Every accepted call but a tick, a log page read or REQUEST SENSE sets the idle count to 0, and so does an abort.
pub idle_restarts : IdleRestarts outcome
idle_restarts u = by_deed Restarts u (record {
  refused = λ c h. absurd (false≢true h);
  aborted = λ q ten h. refl;
  begun = λ host cdb t clear wants h. refl;
  asked = λ host q clear waits h. refl;
  flushed = λ host q taken f h. refl;
  flush_failed = λ host q taken f h. either (λ (v : Unit). v.drive.idle.0 ≡ 0) q.immed _ _ refl refl;
  last_succeeded = λ host q taken f h. refl;
  last_failed = λ host q taken f h. either (λ (v : Unit). v.drive.idle.0 ≡ 0) q.immed _ _ refl refl;
}) (all_others Restarts u (λ c v did h. zero_after u c v did.idle (not-true (excepted_from_restart c) h)))

abbrev Kept : Unit → Deed → Unit → Type 0
Kept u d v = restarts_idle d ≡ false → does_a is_tick d ≡ false → v.drive.idle ≡ u.drive.idle

-- A log page read, REQUEST SENSE and a call refused with another number than 10 leave it as it was.
pub idle_kept : IdleKept outcome
idle_kept u = by_deed (Kept u) u (record {
  refused = λ c h t. refl;
  aborted = λ q ten h. absurd (true≢false h);
  begun = λ host cdb t clear wants h. absurd (true≢false h);
  asked = λ host q clear waits h. absurd (true≢false h);
  flushed = λ host q taken f h. absurd (true≢false h);
  flush_failed = λ host q taken f h. absurd (true≢false h);
  last_succeeded = λ host q taken f h. absurd (true≢false h);
  last_failed = λ host q taken f h. absurd (true≢false h);
}) (all_others (Kept u) u (λ c v did h t. same_after u c v did.idle (not-false (excepted_from_restart c) h) t))
