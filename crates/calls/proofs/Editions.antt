-- Document 02, request (vi), over all calls: no call changes the edition, so what is well formed stays within the edition's largest timer, and that is one
-- law over the edition. What the log pages tell, of units of either edition; and number 11.
use Rattle.std.proofs.Common.{Ok, Err}
use mathlib.Core.Path.{◌≡◌, refl, sym, ap, subst, ◌∙◌}
use mathlib.Core.Bool.{Bool, true, false, not, true≢false, false≢true}
use mathlib.Core.List.{List, [], ◌∷◌, map}
use mathlib.Core.Logic.{◌↔◌, ◌⊎◌, inl, inr}
use Prim.Native.Nat.{ℕ, zero, suc, ◌<◌, ◌≤◌}
use native.Mathlib.Omega.{arith}
use lib.Dec.{eqb}
use lib.ListN.{length, replicate}
use borrow.Author.Tests.{eq-eqb, eqb-true, not-false}
use Rattle.rows.proofs.Places.{and_left}
use Rattle.bits.specs.Bits.{bits, bit}
use Rattle.bits.specs.Reserved.{is_named}
use Rattle.conditions.specs.Conditions.{place_of}
use Rattle.conditions.specs.declared.Condition.{Condition}
use Rattle.drive.specs.Records.{largest_timer, unsupported, record_well_formed, records_well_formed, drive_well_formed}
use Rattle.drive.specs.Drives.{made}
use Rattle.drive.specs.declared.Edition.{Edition}
use Rattle.drive.specs.declared.Edition.TheVariants.{Draft, Published}
use Rattle.drive.specs.declared.Made.{Made}
use Rattle.drive.proofs.Ticks.{tick_adds_one, tick_at_top}
use Rattle.drive.proofs.WellFormed.{setting_fine, RecordFine, record_fine, records_fine, drive_records, drive_idle}
use Rattle.registers.specs.declared.Registers.{Registers}
use Rattle.epc.proofs.Reserved.{named_bits}
use Rattle.pages.specs.Readings.{page_record, page_records, record_shown}
use Rattle.pages.proofs.ReadBack.{record_shown_lem, page_read, page_tells}
use Rattle.published.specs.Descriptors.{descriptor_page, lacks_page}
use Rattle.published.specs.Readings.{new_page_records, rounded_up, SameToTheTenth}
use Rattle.published.proofs.Lacks.{lacks_exactly, has_exactly}
use Rattle.published.proofs.ReadBack.{pages_read, pages_tell}
use Rattle.refusals.specs.Refusals.{◌gives◌, lowest}
use Rattle.refusals.specs.declared.Refusal.TheVariants.{BadLength, BadRecord, NoSuchPage, Aborted}
use Rattle.refusals.specs.Verdicts.{rows_of_record}
use Rattle.refusals.proofs.Lowest.{clear_not_given, not_applies, clear_length, clear_when}
use Rattle.outcomes.specs.Settled.{settled}
use Rattle.engine.specs.Engine.{manufacture_outcome}
use Rattle.readouts.specs.Readouts.{new_page_rows}
use Rattle.unit.specs.Units.{largest_of, hosts_well_formed, well_formed, made_unit, blank}
use Rattle.unit.specs.declared.Unit.{Unit}
use Rattle.unit.proofs.WellFormed.{unit_fine}
use Rattle.calls.specs.Calls.{Call, set_features, tick, log_page, new_page, plain, outcome, step, run}
use Rattle.calls.specs.Described.{is_new_page}
use Rattle.calls.specs.Examples.{makes}
use Rattle.calls.specs.Facts.{timer_off}
use Rattle.calls.specs.Editions.{EditionKept, record_of, Bounded, ByEdition, NoneBeyond, CountsTo, TickCounts}
use Rattle.calls.specs.Table.{applies_to, verdict_in, is_clear}
use Rattle.calls.proofs.Leaves.{log_read, new_page_read, tick_does}
use Rattle.calls.proofs.Numbers.{own_told, refused_exactly}
use Rattle.calls.proofs.Reserved.{bit_is_10}
use Rattle.calls.proofs.Steps.{after_every}
use Rattle.calls.proofs.WellFormed.{run_well_formed, manufacture_well_formed}
use Rattle.refusals.specs.Refusals.{Verdict}

-- ---- the edition stays

pub edition_kept : EditionKept outcome
edition_kept u = after_every (λ c v. v.edition ≡ u.edition) u (record {
  none = λ c. refl;
  aborts = λ q. refl;
  epc = λ q e. refl;
  ticks = λ e. refl;
  reads = λ host. refl;
  writes = λ host. refl;
  powers_on = refl;
  resets_hard = refl;
  resets_soft = refl;
  accepts = λ host cdb t e w. refl;
  sends = λ host e. refl;
  flushes = λ host reply q e f. refl;
  fails = λ host reply. refl;
  defers = λ host reply f. refl;
  succeeds = λ host reply q e. refl;
  tells = λ host buffer. refl;
})

-- Nor does any run.
pub run_edition : (u : Unit) (cs : List Call) → (run u cs).edition ≡ u.edition
run_edition u [] = refl
run_edition u (c ∷ cs) = run_edition (step u c) cs ∙ edition_kept u c

-- It is the one that was asked for, whether the unit was made or refused.
pub manufacture_edition : (ed : Edition) (ms : List Made) → (manufacture_outcome ed ms).unit.edition ≡ ed
unfolding manufacture_outcome
manufacture_edition ed ms = on (lowest (rows_of_record (well_formed (made_unit ed ms))))
  where
    on : (v : Verdict) → (settled (blank ed) (made_unit ed ms) v).unit.edition ≡ ed
    on (Ok _) = refl
    on (Err r) = refl

-- Whether a unit of this edition is made of five conditions with this timer.
abbrev is_made : Edition → ℕ → Bool
is_made ed tenths = is_clear (verdict_in (plain (manufacture_outcome ed (replicate 5 (makes (timer_off tenths)))).answer))

-- A draft unit is made with timers of 65,535 and not of 65,536, a published one with 39,321,000 and not with 39,321,001.
pub manufacture_bounds : (is_made Draft 65535 ≡ true) × (is_made Draft 65536 ≡ false) × (is_made Published 39321000 ≡ true) × (is_made Published 39321001 ≡ false)
unfolding manufacture_outcome lowest well_formed hosts_well_formed drive_well_formed records_well_formed record_well_formed made
manufacture_bounds = (refl, refl, refl, refl)

-- ---- how far timers and the idle count go

own_records : (u : Unit) → well_formed u ≡ true → records_well_formed (largest_of u) u.drive.records ≡ true
own_records u fine = drive_records (largest_of u) u.drive ((unit_fine u).0 fine).drive

-- A well-formed record stays within its edition's largest timer.
pub bounded : (u : Unit) → well_formed u ≡ true → Bounded (largest_of u) u
bounded u fine =
    let top = largest_of u in
    let each : (place : ℕ) → place < 5 → RecordFine top (record_of u place) =
    λ place below. (record_fine top _).0 (((records_fine top unsupported u.drive.records).0 (own_records u fine)).each place below) in
    record {
      idle = drive_idle top u.drive ((unit_fine u).0 fine).drive;
      default = λ place below. ((setting_fine top (record_of u place).default).0 (each place below).default).small;
      saved = λ place below. ((setting_fine top (record_of u place).saved).0 (each place below).saved).small;
      current = λ place below. ((setting_fine top (record_of u place).current).0 (each place below).current).small;
    }

-- What holds by the largest timer holds by the bound of either edition.
by_edition : (P : ℕ → Type 0) (u : Unit) → P (largest_of u) → ByEdition P u
by_edition P u p = (λ e. subst (λ (ed : Edition). P (largest_timer ed)) e p, λ e. subst (λ (ed : Edition). P (largest_timer ed)) e p)

-- A draft unit can reach no timer or idle count above 65,535, a published one none above 39,321,000.
pub none_beyond : NoneBeyond outcome
none_beyond u cs fine =
    by_edition (λ bound. Bounded bound (run u cs)) u
    (subst (λ (ed : Edition). Bounded (largest_timer ed) (run u cs)) (run_edition u cs) (bounded (run u cs) (run_well_formed u cs fine)))

-- From manufacture on in particular.
pub made_bounded : (ed : Edition) (ms : List Made) (cs : List Call) → Bounded (largest_timer ed) (run (manufacture_outcome ed ms).unit cs)
made_bounded ed ms cs =
    let u = (manufacture_outcome ed ms).unit in
    subst (λ (e : Edition). Bounded (largest_timer e) (run u cs)) (run_edition u cs ∙ manufacture_edition ed ms)
    (bounded (run u cs) (run_well_formed u cs (manufacture_well_formed ed ms)))

-- "and the idle count stays there": a published unit's at 39,321,000.
pub tick_counts_lem : TickCounts outcome
tick_counts_lem u fine none =
    let drive-ticks = (tick_does u fine none).1 in
    by_edition (λ bound. CountsTo bound u (step u tick)) u (record {
      adds = λ below. rw drive-ticks (tick_adds_one (largest_of u) u.drive below);
      stays = λ full. rw drive-ticks (tick_at_top (largest_of u) u.drive (omega arith) ∙ full);
    })

-- ---- minutes

-- Bit 7 is named for 2h of a published unit alone.
minutes_named : (ed : Edition) (number : ℕ) → (ed ≡ Draft) ⊎ (number ≡ 2 → ⊥) → is_named 7 (named_bits ed number) ≡ false
minutes_named Draft zero h = refl
minutes_named Draft (suc zero) h = refl
minutes_named Draft (suc (suc zero)) h = refl
minutes_named Draft (suc (suc (suc zero))) h = refl
minutes_named Draft (suc (suc (suc (suc n)))) h = refl
minutes_named Published zero h = refl
minutes_named Published (suc zero) h = refl
minutes_named Published (suc (suc zero)) (inl e) = let no : ◌≡◌ {A = ℕ} 39321000 65535 = ap largest_timer e in absurd (omega arith)
minutes_named Published (suc (suc zero)) (inr other) = absurd (other refl)
minutes_named Published (suc (suc (suc zero))) h = refl
minutes_named Published (suc (suc (suc (suc n)))) h = refl

-- "the draft still aborts on bit 7"; with 0h, 1h and 3h a published unit does too.
pub minutes_abort : (u : Unit) (q : Registers) → bit 7 q.lba ≡ true → (u.edition ≡ Draft) ⊎ (bits 3 0 q.lba ≡ 2 → ⊥)
    → applies_to u (set_features q) Aborted ≡ true
minutes_abort u q one other = bit_is_10 u q 7 (omega arith) (minutes_named u.edition (bits 3 0 q.lba) other) one

-- ---- number 11

three_rows : (a b c : Bool)
    → (lowest ((a gives BadLength) ∷ (b gives BadRecord) ∷ (c gives NoSuchPage) ∷ []) ≡ Err NoSuchPage) ↔ ((a ≡ false) × (b ≡ false) × (c ≡ true))
unfolding lowest
three_rows true b c = (λ e. let no : ◌≡◌ {A = ℕ} 1 11 = cc in absurd (omega arith), λ h. absurd (true≢false h.0))
three_rows false true c = (λ e. let no : ◌≡◌ {A = ℕ} 3 11 = cc in absurd (omega arith), λ h. absurd (true≢false h.1))
three_rows false false true = (λ e. (refl, refl, refl), λ h. refl)
three_rows false false false = (λ e. absurd (clear_not_given NoSuchPage e), λ h. absurd (false≢true h.2))

-- It is given "for a new page asked of a draft unit or a page above 1", where 1 and 3 are not.
pub eleven_exactly : (u : Unit) (number : ℕ) (buffer : List ℕ)
    → (verdict_in (outcome u (new_page number buffer)).said ≡ Err NoSuchPage)
    ↔ ((length buffer ≡ 512) × (well_formed u ≡ true) × ((u.edition ≡ Draft) ⊎ (1 < number)))
eleven_exactly u number buffer =
    let told = own_told u (new_page number buffer) in
    let given = three_rows (not (eqb (length buffer) 512)) (not (well_formed u)) (lacks_page u.edition number) in
    let lacks = lacks_exactly u.edition number in (
      λ e. let rows = given.0 (sym told ∙ e) in (eqb-true _ _ (not-false _ rows.0), not-false _ rows.1, lacks.0 rows.2),
      λ h. told ∙ given.1 (rw (eq-eqb (length buffer) 512 h.0), rw h.1, lacks.1 h.2),
    )

-- No other call is given it.
pub eleven_is_page : (u : Unit) (c : Call) → verdict_in (outcome u c).said ≡ Err NoSuchPage → is_new_page c ≡ true
eleven_is_page u c e = and_left (is_new_page c) _ ((refused_exactly u c NoSuchPage).0 e).itself

-- A new page is read exactly of a published unit, page 0 or 1, into 512 bytes: whatever waits or is out.
pub new_page_exactly : (u : Unit) (number : ℕ) (buffer : List ℕ)
    → (verdict_in (outcome u (new_page number buffer)).said ≡ Ok tt)
    ↔ ((length buffer ≡ 512) × (well_formed u ≡ true) × (u.edition ≡ Published) × (number ≤ 1))
new_page_exactly u number buffer =
    let told = own_told u (new_page number buffer) in
    let rows = new_page_rows u number buffer in (
      λ e. let clear = sym told ∙ e in
          let has = (has_exactly u.edition number).0 (not_applies rows NoSuchPage clear) in
          (clear_length (length buffer) 512 _ clear, not-false _ (not_applies rows BadRecord clear), has.0, has.1),
      λ h. told ∙ clear_when rows (rw (eq-eqb (length buffer) 512 h.0, h.1, (has_exactly u.edition number).1 (h.2, h.3))),
    )

-- ---- what the pages tell, as a host reads them

-- "the old page": each condition's record, "FFFFh for more than 65,535".
pub log_shows : (u : Unit) (buffer : List ℕ) → well_formed u ≡ true → length buffer ≡ 512 → (c : Condition)
    → page_record (outcome u (log_page buffer)).buffer c ≡ record_shown (record_of u (place_of c))
log_shows u buffer fine long c =
    rw (log_read u buffer fine long).1
    (record_shown_lem (largest_of u) u.drive.records (own_records u fine) c)

-- A draft unit's old page gives its records back;
pub log_gives : (u : Unit) (buffer : List ℕ) → well_formed u ≡ true → u.edition ≡ Draft → length buffer ≡ 512
    → page_records (outcome u (log_page buffer)).buffer ≡ u.drive.records
log_gives u buffer fine draft long =
    rw (log_read u buffer fine long).1
    (page_read u.drive.records (rw draft at (own_records u fine)))

-- a published unit's two new pages theirs, with recovery rounded up to its tenths.
pub new_pages_give : (u : Unit) (buffer buffer' : List ℕ) → well_formed u ≡ true → u.edition ≡ Published → length buffer ≡ 512 → length buffer' ≡ 512
    → new_page_records (outcome u (new_page 0 buffer)).buffer (outcome u (new_page 1 buffer')).buffer ≡ map rounded_up u.drive.records
new_pages_give u buffer buffer' fine new long long' =
    rw ((new_page_read u 0 buffer fine long (rw new)).1, (new_page_read u 1 buffer' fine long' (rw new)).1)
    (pages_read (largest_timer Published) (omega arith) u.drive.records (rw new at (own_records u fine)))

module _ (u v : Unit) (fine : well_formed u ≡ true) (fine' : well_formed v ≡ true) where
  -- Two draft units with the same old page have the same settings.
  pub log_tells : u.edition ≡ Draft → v.edition ≡ Draft → (buffer : List ℕ) → length buffer ≡ 512
      → (outcome u (log_page buffer)).buffer ≡ (outcome v (log_page buffer)).buffer → u.drive.records ≡ v.drive.records
  log_tells draft draft' buffer long same =
      page_tells u.drive.records v.drive.records (rw draft at (own_records u fine)) (rw draft' at (own_records v fine'))
      (sym (log_read u buffer fine long).1 ∙ same ∙ (log_read v buffer fine' long).1)

  -- Two published units with the same two new pages have the same flags and timers, and recovery times "up to the tenths of recovery".
  pub new_pages_tell : u.edition ≡ Published → v.edition ≡ Published → (buffer : List ℕ) → length buffer ≡ 512
      → (outcome u (new_page 0 buffer)).buffer ≡ (outcome v (new_page 0 buffer)).buffer
      → (outcome u (new_page 1 buffer)).buffer ≡ (outcome v (new_page 1 buffer)).buffer
      → (c : Condition) → SameToTheTenth (record_of u (place_of c)) (record_of v (place_of c))
  new_pages_tell new new' buffer long same₀ same₁ =
      let shown : (number : ℕ) → lacks_page Published number ≡ false → (outcome u (new_page number buffer)).buffer ≡ (outcome v (new_page number buffer)).buffer
      → descriptor_page number u.drive.records ≡ descriptor_page number v.drive.records =
      λ number has same. sym (new_page_read u number buffer fine long (rw new has)).1 ∙ same ∙ (new_page_read v number buffer fine' long (rw new' has)).1 in
      pages_tell (largest_timer Published) (omega arith) u.drive.records v.drive.records (rw new at (own_records u fine))
      (rw new' at (own_records v fine')) (shown 0 refl same₀) (shown 1 refl same₁)
