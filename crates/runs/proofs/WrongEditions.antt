-- Wrong editions (document 02, request (vi)): step functions that do as the layer does but for one thing that the request says, each refuted by a
-- run that is computed.
use Rattle.std.proofs.Common.{Err}
use mathlib.Core.Bool.{Bool, true, false, ◌&&◌, cond, true≢false, false≢true}
use mathlib.Core.Path.{◌≡◌, ap, refl}
use mathlib.Core.List.{[], ◌∷◌}
use Prim.Native.Nat.{ℕ}
use native.Mathlib.Omega.{arith}
use lib.Dec.{leb}
use Rattle.drive.specs.Drives.{with_records}
use Rattle.drive.specs.Records.{largest_timer}
use Rattle.drive.specs.declared.Edition.{Edition}
use Rattle.drive.specs.declared.Edition.TheVariants.{Draft, Published}
use Rattle.published.specs.Descriptors.{lacks_page}
use Rattle.refusals.specs.declared.Refusal.TheVariants.{NoSuchPage}
use Rattle.unit.specs.Units.{with_edition, with_drive, with_marks}
use Rattle.unit.specs.declared.Unit.{Unit}
use Rattle.calls.specs.Calls.{Call, write, power_on, plain, Outcome, outcome, StepFunction}
use Rattle.calls.specs.Described.{describe, lent, is_tick, is_write, is_power_on, is_new_page}
use Rattle.calls.specs.Editions.{EditionKept, record_of, NoneBeyond, TickCounts, EditionBlind}
use Rattle.calls.specs.Examples.{off, on, keeps, fresh, idled, epc_call}
use Rattle.calls.specs.Facts.{with_idle_b, of_published, minutes_set, draft_minutes, one_before_11, three_before_11, NumberAndSense, Facts}
use Rattle.calls.specs.Table.{is_epc, verdict_in, is_clear}
use Rattle.calls.proofs.Editions.{bounded}
use Rattle.runs.proofs.Computed.{computed}
use Rattle.runs.proofs.WrongPrograms.{leaving, on_accepted}

-- ---- the wrong programs

-- Whether the call was done.
abbrev was_done : Outcome → Bool
was_done o = is_clear (verdict_in o.said)

-- It does what a unit of this edition would do, and stays what it was.
abbrev as_if : Edition → StepFunction
as_if ed u c = let o = outcome (with_edition ed u) c in leaving (with_edition u.edition o.unit) o

-- As before the request: every unit is a draft one.
abbrev pub all_draft : StepFunction
all_draft = as_if Draft

-- Bit 7 is taken on a draft unit too.
abbrev pub takes_minutes : StepFunction
takes_minutes u c = cond (is_epc c) (as_if Published u c) (outcome u c)

-- The idle count of a published unit stays at 65,535.
abbrev pub holds_idle : StepFunction
holds_idle u c = cond (is_tick c && leb 65535 u.drive.idle.0) (leaving u (outcome u c)) (outcome u c)

-- A power-on makes a draft unit of it.
abbrev pub forgets : StepFunction
forgets u c = cond (is_power_on c) (leaving (with_edition Draft (outcome u c).unit) (outcome u c)) (outcome u c)

-- 11 comes before 1 and 3.
abbrev pub eleven_first : StepFunction
eleven_first u c =
    cond (is_new_page c && lacks_page u.edition (describe c).page) (record { said = plain (Err NoSuchPage); unit = u; buffer = lent c }) (outcome u c)

abbrev is_published : Edition → Bool
is_published Draft = false
is_published Published = true

-- An accepted call that passes this test leaves another record on a published unit alone.
abbrev on_published : (Call → Bool) → (Unit → Unit → Unit) → StepFunction
on_published test = on_accepted (λ u c. is_published u.edition && test c)

-- A write does not set the unsaved mark, so that no stop flushes what it wrote.
abbrev pub marks_no_write : StepFunction
marks_no_write = on_published is_write (λ before after. with_marks after.stopped before.unsaved after)

-- A power-on keeps the current settings.
abbrev pub keeps_current : StepFunction
keeps_current = on_published is_power_on (λ before after. with_drive (with_records before.drive.records after.drive) after)

-- ---- refuted

-- Five minutes are set on a published unit,
pub all_draft_fails : Facts all_draft → ⊥
unfolding computed
all_draft_fails holds = false≢true (ap was_done (holds minutes_set))

-- and on a draft unit they abort;
pub takes_minutes_fails : Facts takes_minutes → ⊥
unfolding computed
takes_minutes_fails holds = true≢false (ap was_done (holds draft_minutes))

-- 65,535 minutes there would be a timer above 65,535.
pub takes_minutes_goes_beyond : NoneBeyond takes_minutes → ⊥
unfolding computed
takes_minutes_goes_beyond holds = let above = ((holds fresh (epc_call 0x82 0xFFFFA2 ∷ []) refl).0 refl).current 1 (omega arith) in omega arith

pub holds_idle_fails : TickCounts holds_idle → ⊥
unfolding computed
holds_idle_fails holds =
    let shown : ◌≡◌ {A = ℕ} 65535 65536 = ((holds (idled 65535 (of_published fresh)) refl refl).1 refl).adds (omega arith) in omega arith

pub forgets_fails : EditionKept forgets → ⊥
unfolding computed
forgets_fails holds = let shown : ◌≡◌ {A = ℕ} 65535 39321000 = ap largest_timer (holds (of_published fresh) power_on) in omega arith

-- A buffer too short is 1, and a record that is not well formed 3.
pub eleven_first_fails_1 : Facts eleven_first → ⊥
unfolding computed
eleven_first_fails_1 holds = let shown : ◌≡◌ {A = ℕ} 11 1 = ap (λ (t : NumberAndSense). t.number) (holds one_before_11) in omega arith

pub eleven_first_fails_3 : Facts eleven_first → ⊥
unfolding computed
eleven_first_fails_3 holds = let shown : ◌≡◌ {A = ℕ} 11 3 = ap (λ (t : NumberAndSense). t.number) (holds three_before_11) in omega arith

-- A draft unit's write sets the mark,
pub marks_no_write_tells : EditionBlind marks_no_write → ⊥
unfolding computed
marks_no_write_tells holds = false≢true (ap (λ (o : Outcome). o.unit.unsaved) (holds Published fresh (write 0) (bounded fresh refl) refl))

-- and its power-on restores the saved setting.
pub keeps_current_tells : EditionBlind keeps_current → ⊥
unfolding computed
keeps_current_tells holds =
    let u = with_idle_b (keeps off off (on 300)) in
    true≢false (ap (λ (o : Outcome). (record_of o.unit 1).current.enabled) (holds Published u power_on (bounded u refl) refl))
