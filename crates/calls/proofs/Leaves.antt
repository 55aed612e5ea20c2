-- What ticks, the medium's use, START STOP UNIT, the next command, REQUEST SENSE, log pages and resets leave of the condition, the settings, the marks
-- and the idle count: each accepted call has its effect, and the effect is computed field by field. What resets take from the hosts is Hosts · reset_clears_lem.
use Rattle.std.proofs.Common.{Ok, Err, None}
use mathlib.Core.Path.{◌≡◌, ap, refl, sym, ◌∙◌}
use mathlib.Core.Bool.{Bool, true, false, true≢false}
use mathlib.Core.List.{List}
use Prim.Native.Nat.{ℕ, ◌<◌}
use lib.ListN.{length, get_or, set}
use borrow.Author.Tests.{eq-eqb}
use Rattle.rows.proofs.Places.{get_d_map_at}
use Rattle.transitions.specs.Counts.{counts_after}
use Rattle.transitions.specs.Page.{transition_bytes}
use Rattle.conditions.specs.declared.Power.{Power}
use Rattle.conditions.specs.declared.Power.TheVariants.{Active}
use Rattle.drive.specs.Drives.{with_counts, saved_restored, ticked, used, powered_on}
use Rattle.drive.proofs.Ticks.{tick_records}
use Rattle.drive.proofs.Used.{used_leaves}
use Rattle.drive.specs.Records.{drive_well_formed}
use Rattle.drive.specs.declared.Record.{Record}
use Rattle.epc.specs.Epc.{performed}
use Rattle.registers.specs.declared.Registers.{Registers}
use Rattle.refusals.specs.Refusals.{lowest}
use Rattle.unit.specs.Units.{well_formed, is_out, with_drive, largest_of, held_of}
use Rattle.unit.proofs.Hosts.{held_again}
use Rattle.senses.specs.Senses.{sense_bytes, power_sense}
use Rattle.unit.specs.declared.Unit.{Unit}
use Rattle.engine.specs.Engine.{epc_rows, tick_outcome, power_on_outcome, reset_outcome}
use Rattle.pages.specs.Logs.{log_bytes}
use Rattle.published.specs.Descriptors.{descriptor_page, lacks_page}
use Rattle.readouts.specs.Readouts.{told_bytes, log_outcome, transitions_outcome, new_page_outcome, counts_handed}
use Rattle.calls.specs.Calls.{Call, set_features, tick, read, write, power_on, hard_reset, soft_reset, start_stop, next, answer, request_sense, log_page, transitions_page, new_page, plain, outcome, step}
use Rattle.calls.specs.Table.{is_epc, verdict_in}
use Rattle.calls.specs.Described.{effect, is_power_on}
use Rattle.calls.proofs.Numbers.{acceptance_does, other_keeps, own_told, start_wants}
use Rattle.calls.proofs.Steps.{after_every}
use Rattle.refusals.specs.Refusals.{Verdict}

-- The record has this condition and these marks, and idle count 0.
pub record Leaves (p : Power) (stop save : Bool) (v : Unit) : Type 0 where
  pub power : v.drive.power ≡ p
  pub stopped : v.stopped ≡ stop
  pub unsaved : v.unsaved ≡ save
  pub idle : v.drive.idle.0 ≡ 0

-- ---- ticks

-- "A tick with no command out ..", "never refused but for 3": then it is the drive's tick, whatever the marks, what waits and what is held.
pub tick_does : (u : Unit) → well_formed u ≡ true → is_out u.out ≡ false
    → ((outcome u tick).said ≡ plain (Ok tt)) × (step u tick ≡ with_drive (ticked (largest_of u) u.drive) u)
unfolding tick_outcome lowest
tick_does u fine none = (rw fine, rw (step, fine, none))

-- ---- the medium

module _ (u : Unit) (host : ℕ) where
  -- "A read or write makes the unit Active, idle count 0; a write also sets the unsaved mark." The settings stay.
  pub read_leaves : verdict_in (outcome u (read host)).said ≡ Ok tt
      → Leaves Active u.stopped u.unsaved (step u (read host)) × ((step u (read host)).drive.records ≡ u.drive.records)
  unfolding used
  read_leaves e = rw (acceptance_does u (read host) e).0 (record { power = refl; stopped = refl; unsaved = refl; idle = refl }, refl)

  pub write_leaves : verdict_in (outcome u (write host)).said ≡ Ok tt
      → Leaves Active u.stopped true (step u (write host)) × ((step u (write host)).drive.records ≡ u.drive.records)
  unfolding used
  write_leaves e = rw (acceptance_does u (write host) e).0 (record { power = refl; stopped = refl; unsaved = refl; idle = refl }, refl)

-- ---- START STOP UNIT, the next command

-- Accepted, each leaves the condition and the marks as they are: it is the drive's answer that changes them.
module _ (u : Unit) (host : ℕ) where
  pub accepted_leaves : (cdb : List ℕ) → verdict_in (outcome u (start_stop host cdb)).said ≡ Ok tt
      → Leaves u.drive.power u.stopped u.unsaved (step u (start_stop host cdb))
  accepted_leaves cdb e =
      let wants = start_wants u host cdb (sym (own_told u (start_stop host cdb)) ∙ e) in
      rw ((acceptance_does u (start_stop host cdb) e).0, wants.1) (record { power = refl; stopped = refl; unsaved = refl; idle = refl })

  pub next_leaves : verdict_in (outcome u (next host)).said ≡ Ok tt → Leaves u.drive.power u.stopped u.unsaved (step u (next host))
  next_leaves e = rw (acceptance_does u (next host) e).0 (record { power = refl; stopped = refl; unsaved = refl; idle = refl })

-- ---- REQUEST SENSE

-- A call that is not EPC, and has no effect where it is accepted, changes no record.
still : (u : Unit) (c : Call) → (verdict_in (outcome u c).said ≡ Ok tt → effect u c ≡ u) → is_epc c ≡ false → step u c ≡ u
still u c none other = on (verdict_in (outcome u c).said) refl
  where
    on : (v : Verdict) → verdict_in (outcome u c).said ≡ v → step u c ≡ u
    on (Ok _) e = (acceptance_does u c e).0 ∙ none e
    on (Err r) e = other_keeps u c r e other

module _ (u : Unit) (host : ℕ) (buffer : List ℕ) where
  -- Accepted, it drops what is held for the host and changes nothing else: the idle count too is as it was, whether a sense was told or not. The record
  -- is written out, so that no builder is taken at its word.
  pub sense_leaves : verdict_in (outcome u (request_sense host buffer)).said ≡ Ok tt → step u (request_sense host buffer) ≡ record {
    edition = u.edition;
    drive = u.drive;
    stopped = u.stopped;
    unsaved = u.unsaved;
    slots = u.slots;
    held = set u.held host None;
    out = u.out;
  }
  sense_leaves e = (acceptance_does u (request_sense host buffer) e).0

  -- One that finds nothing held, or is refused, changes no record.
  pub poll_still : (verdict_in (outcome u (request_sense host buffer)).said ≡ Ok tt → held_of u.held host ≡ None)
      → step u (request_sense host buffer) ≡ u
  poll_still none = still u (request_sense host buffer) (λ e. rw (held_again u.held host None (none e))) refl

  -- "else key 0 with the condition": whatever the marks, so of a unit that is still stopped too.
  pub condition_told : verdict_in (outcome u (request_sense host buffer)).said ≡ Ok tt → held_of u.held host ≡ None
      → (outcome u (request_sense host buffer)).buffer ≡ sense_bytes false (power_sense u.drive.power)
  condition_told e none = (acceptance_does u (request_sense host buffer) e).1 ∙ ap (told_bytes u.drive.power) none

-- ---- the settings

-- What holds of the records as they are, and of those that an accepted subcommand leaves, holds after every call but a power-on.
pub after_settings_lem : (u : Unit) (P : Call → List Record → Type 0) → ((c : Call) → P c u.drive.records)
    → ((q : Registers) → lowest (epc_rows u q) ≡ Ok tt → P (set_features q) (performed q u.drive).records)
    → (c : Call) → is_power_on c ≡ false → P c (step u c).drive.records
after_settings_lem u P kept changed = after_every (λ c v. is_power_on c ≡ false → P c v.drive.records) u (record {
  none = λ c p. kept c;
  aborts = λ q p. kept (set_features q);
  epc = λ q clear p. changed q clear;
  ticks = λ none p. rw (tick_records (largest_of u) u.drive) (kept tick);
  reads = λ host p. rw (used_leaves u.drive).0 (kept (read host));
  writes = λ host p. rw (used_leaves u.drive).0 (kept (write host));
  powers_on = λ p. absurd (true≢false p);
  resets_hard = λ p. kept hard_reset;
  resets_soft = λ p. kept soft_reset;
  accepts = λ host cdb t clear w p. kept (start_stop host cdb);
  sends = λ host clear p. kept (next host);
  flushes = λ host reply q w f p. kept (answer host reply);
  fails = λ host reply p. kept (answer host reply);
  defers = λ host reply f p. kept (answer host reply);
  succeeds = λ host reply q w p. kept (answer host reply);
  tells = λ host buffer p. kept (request_sense host buffer);
})

-- No call but an EPC subcommand and a power-on changes a setting.
pub settings_kept : (u : Unit) (c : Call) → is_epc c ≡ false → is_power_on c ≡ false → (step u c).drive.records ≡ u.drive.records
settings_kept u c other p =
    after_settings_lem u (λ d rs. is_epc d ≡ false → rs ≡ u.drive.records) (λ d e. refl) (λ q clear e. absurd (true≢false e)) c p other

-- ---- the log pages

-- "Reading the log page changes no record.",
pub log_still : (u : Unit) (buffer : List ℕ) → step u (log_page buffer) ≡ u
log_still u buffer = still u (log_page buffer) (λ e. refl) refl

-- nor does page 1Ah: "Reading it changes no record."
pub transitions_still : (u : Unit) (buffer : List ℕ) → step u (transitions_page buffer) ≡ u
transitions_still u buffer = still u (transitions_page buffer) (λ e. refl) refl

-- nor does a new page.
pub new_page_still : (u : Unit) (number : ℕ) (buffer : List ℕ) → step u (new_page number buffer) ≡ u
new_page_still u number buffer = still u (new_page number buffer) (λ e. refl) refl

-- The first two are refused by 1 and 3 alone.
pub log_read : (u : Unit) (buffer : List ℕ) → well_formed u ≡ true → length buffer ≡ 512
    → ((outcome u (log_page buffer)).said ≡ plain (Ok tt)) × ((outcome u (log_page buffer)).buffer ≡ log_bytes u.drive.records)
unfolding log_outcome lowest
log_read u buffer fine long = (rw (eq-eqb (length buffer) 512 long, fine), rw (outcome, eq-eqb (length buffer) 512 long, fine))

pub transitions_read : (u : Unit) (buffer : List ℕ) → well_formed u ≡ true → length buffer ≡ 52
    → ((outcome u (transitions_page buffer)).said ≡ plain (Ok tt)) × ((outcome u (transitions_page buffer)).buffer ≡ transition_bytes (counts_handed u))
unfolding transitions_outcome lowest
transitions_read u buffer fine long = (rw (eq-eqb (length buffer) 52 long, fine), rw (outcome, eq-eqb (length buffer) 52 long, fine))

-- A new page, by 1, 3 and 11 alone.
pub new_page_read : (u : Unit) (number : ℕ) (buffer : List ℕ) → well_formed u ≡ true → length buffer ≡ 512 → lacks_page u.edition number ≡ false
    → ((outcome u (new_page number buffer)).said ≡ plain (Ok tt)) × ((outcome u (new_page number buffer)).buffer ≡ descriptor_page number u.drive.records)
unfolding new_page_outcome lowest
new_page_read u number buffer fine long has =
    (rw (eq-eqb (length buffer) 512 long, fine, has), rw (outcome, eq-eqb (length buffer) 512 long, fine, has))

-- Any counts are well formed: the test of a record does not look at them.
pub counts_free : (u : Unit) (counts : List ℕ) → well_formed (with_drive (with_counts counts u.drive) u) ≡ well_formed u
unfolding well_formed drive_well_formed
counts_free u counts = refl

-- ---- the resets

module _ (u : Unit) (fine : well_formed u ≡ true) where
  -- "Hardware and software reset (001: condition kept): settings, condition, stopped and unsaved marks stay; idle count 0;"
  pub reset_keeps : Leaves u.drive.power u.stopped u.unsaved (step u hard_reset) × ((step u hard_reset).drive.records ≡ u.drive.records)
  unfolding reset_outcome lowest
  reset_keeps = rw (step, fine) (record { power = refl; stopped = refl; unsaved = refl; idle = refl }, refl)

  -- Request (i): "Resets keep the counts; a power-on change to Active counts as use."
  pub reset_counts : (step u hard_reset).drive.counts ≡ u.drive.counts
  unfolding reset_outcome lowest
  reset_counts = rw (step, fine)

  pub power_on_counts : (step u power_on).drive.counts ≡ counts_after u.drive.power Active u.drive.counts
  unfolding power_on_outcome lowest powered_on used
  power_on_counts = rw (step, fine)

  pub soft_as_hard : outcome u soft_reset ≡ outcome u hard_reset
  soft_as_hard = refl

  -- "Power-on: current becomes saved for all five; Active; idle count 0; no .. stopped or unsaved mark."
  pub power_on_leaves : Leaves Active false false (step u power_on)
  unfolding power_on_outcome lowest powered_on used
  power_on_leaves = rw (step, fine) (record { power = refl; stopped = refl; unsaved = refl; idle = refl })

  pub power_on_restores : (i : ℕ) (z : Record) → i < length u.drive.records
      → ((get_or (step u power_on).drive.records i z).current ≡ (get_or u.drive.records i z).saved)
      × ((get_or (step u power_on).drive.records i z).saved ≡ (get_or u.drive.records i z).saved)
  unfolding power_on_outcome lowest powered_on used
  power_on_restores i z inside = rw (step, fine, get_d_map_at saved_restored u.drive.records z z i inside) (refl, refl)
