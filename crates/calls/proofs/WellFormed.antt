-- Every effect changes the parts of a well-formed record so that it stays well formed; so every call and every run keeps it.
use Rattle.std.proofs.Common.{Ok, Err, Some, None}
use mathlib.Core.Path.{◌≡◌, refl, ◌∙◌}
use mathlib.Core.Bool.{Bool, true, false, not, cond, and-true, false≢true}
use mathlib.Core.List.{List, [], ◌∷◌, map}
use mathlib.Core.Logic.{◌↔◌}
use Prim.Native.Nat.{ℕ}
use native.Mathlib.Omega.{arith}
use lib.Dec.{leb-zero}
use lib.ListN.{replicate}
use borrow.Author.Tests.{not-false}
use Rattle.rows.specs.Rows.{map_at}
use Rattle.rows.proofs.Mapped.{map-map_at}
use Rattle.drive.specs.Records.{unsupported, record_well_formed, records_well_formed}
use Rattle.drive.specs.Drives.{maker_of, made_record, made}
use Rattle.drive.specs.declared.Edition.{Edition}
use Rattle.drive.specs.declared.Record.{Record}
use Rattle.drive.specs.declared.Made.{Made}
use Rattle.drive.proofs.WellFormed.{made_fine, entered_fine, ticked_fine, powered_on_fine}
use Rattle.drive.proofs.Maker.{maker_made, maker_ticked, maker_powered_on}
use Rattle.epc.proofs.Effects.{maker_stays}
use Rattle.epc.proofs.WellFormed.{stays_well_formed}
use Rattle.unit.specs.Units.{hosts_well_formed, well_formed, with_slot, made_unit, blank, largest_of, with_power}
use Rattle.requests.specs.Requests.{request_well_formed}
use Rattle.refusals.specs.Refusals.{lowest}
use Rattle.outcomes.specs.Settled.{settled}
use Rattle.engine.specs.Engine.{epc_rows, manufacture_outcome}
use Rattle.requests.specs.declared.Target.{Target}
use Rattle.requests.specs.declared.Target.TheVariants.{Stop, Start, GoTo}
use Rattle.requests.specs.declared.Stage.{Stage}
use Rattle.requests.specs.declared.Stage.TheVariants.{Straight, Flushing}
use Rattle.unit.specs.declared.Slot.TheVariants.{Empty}
use Rattle.refusals.specs.declared.Refusal.TheVariants.{BadRecord, Aborted, CommandOut, HasNone, BadField}
use Rattle.outcomes.specs.declared.Called.{Called}
use Rattle.unit.specs.declared.Unit.{Unit}
use Rattle.conditions.specs.declared.Power.TheVariants.{Active}
use Rattle.operations.specs.Operations.{last_of, due_at, is_flush}
use Rattle.exchange.specs.Answered.{taken}
use Rattle.bridge.specs.Bridge.{start_stop_rows}
use Rattle.exchange.specs.Exchange.{next_rows}
use Rattle.calls.specs.Calls.{Call, outcome, run}
use Rattle.calls.proofs.Steps.{after_every}
use Rattle.cdb.proofs.Requests.{listed_request}
use Rattle.unit.proofs.WellFormed.{UnitFine, unit_fine, drive_changed, idle_restarted, medium_used, marks_changed, slot_changed, held_changed, out_changed, hosts_cleared}
use Rattle.refusals.proofs.Lowest.{not_applies}

-- a flush is due only from an operation that flushes, so its request stays one that may
flush_counted_lem : (rs : List Record) (unsaved : Bool) (t : Target) (stage : Stage) (n : ℕ)
    → request_well_formed rs t stage ≡ true → is_flush (due_at stage unsaved (last_of t)) ≡ true → request_well_formed rs t (Flushing n) ≡ true
flush_counted_lem rs unsaved Stop stage n h f = refl
flush_counted_lem rs unsaved Start Straight n h f = f
flush_counted_lem rs unsaved Start (Flushing m) n h f = h
flush_counted_lem rs unsaved (GoTo c) stage n h f = h

-- ---- every call

module _ (u : Unit) (fine : UnitFine u) where
  answered_fine : UnitFine (taken u)
  answered_fine = out_changed _ (idle_restarted u fine) None refl

  active_fine : UnitFine (with_power Active (taken u))
  active_fine = drive_changed _ answered_fine _ (entered_fine (largest_of u) _ answered_fine.drive Active) refl

  ended_fine : (host : ℕ) → UnitFine (with_slot host Empty (with_power Active (taken u)))
  ended_fine host = slot_changed _ active_fine host Empty refl refl

  fine_kept : (c : Call) → UnitFine (outcome u c).unit
  fine_kept = after_every (λ c v. UnitFine v) u (record {
    none = λ c. fine;
    aborts = λ q. idle_restarted u fine;
    epc = λ q clear.
        let accepted = not_applies (epc_rows u q) Aborted clear in
        drive_changed u fine _ (stays_well_formed u.edition q u.drive accepted fine.drive) (maker_stays q u.drive);
    ticks = λ none. drive_changed u fine _ (ticked_fine (largest_of u) u.drive fine.drive) (maker_ticked (largest_of u) u.drive);
    reads = λ host. medium_used u fine;
    writes = λ host. marks_changed _ (medium_used u fine) _ _;
    powers_on =
        hosts_cleared _ (marks_changed _ (drive_changed u fine _ (powered_on_fine (largest_of u) u.drive fine.drive) (maker_powered_on u.drive)) _ _);
    resets_hard = hosts_cleared _ (idle_restarted u fine);
    resets_soft = hosts_cleared _ (idle_restarted u fine);
    accepts = λ host cdb t clear wants.
        slot_changed _ (idle_restarted u fine) host _
        (listed_request u.drive.records cdb t (not-false _ (not_applies (start_stop_rows u host cdb) BadField clear)) wants)
        (not_applies (start_stop_rows u host cdb) CommandOut clear);
    sends = λ host clear. out_changed _ (idle_restarted u fine) (Some host) (not-false _ (not_applies (next_rows u host) HasNone clear));
    flushes = λ host reply q waits flush.
        let p = marks_changed _ active_fine u.stopped false in
        let ok = rw waits at (p.requests host) in
        slot_changed _ p host _ (flush_counted_lem _ u.unsaved q.target q.stage _ ok flush) refl;
    fails = λ host reply. ended_fine host;
    defers = λ host reply f. held_changed _ (ended_fine host) host _;
    succeeds = λ host reply q waits.
        let there = drive_changed _ answered_fine _ (entered_fine (largest_of u) _ answered_fine.drive _) refl in
        slot_changed _ (marks_changed _ there _ _) host Empty refl refl;
    tells = λ host buffer. held_changed u fine host _;
  })

-- Well formed in, well formed out: every call leaves a well-formed record well formed.
pub well_formed_kept : (u : Unit) (c : Call) → well_formed u ≡ true → well_formed (outcome u c).unit ≡ true
well_formed_kept u c h = (unit_fine (outcome u c).unit).1 (fine_kept u ((unit_fine u).0 h) c)

-- And so does every run of calls.
pub run_well_formed : (u : Unit) (cs : List Call) → well_formed u ≡ true → well_formed (run u cs) ≡ true
run_well_formed u [] h = h
run_well_formed u (c ∷ cs) h = run_well_formed (outcome u c).unit cs (well_formed_kept u c h)

-- ---- manufacture

made_tests : (ed : Edition) (ms : List Made) → well_formed (made_unit ed ms) ≡ records_well_formed (largest_of (made_unit ed ms)) (map_at made_record 0 ms)
unfolding well_formed hosts_well_formed
made_tests ed ms = simp and-true (made_fine (largest_of (made_unit ed ms)) ms)

blank_fine : (ed : Edition) → well_formed (blank ed) ≡ true
unfolding records_well_formed record_well_formed
blank_fine ed = made_tests ed (replicate 5 (maker_of unsupported)) ∙ simp leb-zero

-- manufacture's outcome, by whether the record asked for is well formed
abbrev manufactured : Edition → List Made → Bool → Called
manufactured ed ms ok = settled (blank ed) (made_unit ed ms) (cond (not ok) (Err BadRecord) (Ok tt))

-- Manufacture gives a well-formed record, whatever is asked for: it is accepted only if it is, and the blank unit is.
pub manufacture_well_formed : (ed : Edition) (ms : List Made) → well_formed (manufacture_outcome ed ms).unit ≡ true
unfolding manufacture_outcome lowest
manufacture_well_formed ed ms = on (well_formed (made_unit ed ms)) refl
  where
    on : (ok : Bool) → well_formed (made_unit ed ms) ≡ ok → well_formed (manufactured ed ms ok).unit ≡ true
    on true e = e
    on false e = blank_fine ed

-- It has nothing waiting and nothing unsaved, whether it is the unit asked for or the blank one.
pub manufacture_rests : (ed : Edition) (ms : List Made) → let u = (manufacture_outcome ed ms).unit in (u.slots ≡ replicate 4 Empty) × (u.unsaved ≡ false)
unfolding manufacture_outcome lowest
manufacture_rests ed ms = on (well_formed (made_unit ed ms))
  where
    on : (ok : Bool) → let u = (manufactured ed ms ok).unit in (u.slots ≡ replicate 4 Empty) × (u.unsaved ≡ false)
    on true = (refl, refl)
    on false = (refl, refl)

-- Manufacture is accepted exactly if the five records that it asks for are well formed.
pub manufacture_accepts : (ed : Edition) (ms : List Made)
    → ((manufacture_outcome ed ms).answer ≡ Ok tt) ↔ (records_well_formed (largest_of (made_unit ed ms)) (map_at made_record 0 ms) ≡ true)
unfolding manufacture_outcome lowest
manufacture_accepts ed ms = rw (← made_tests ed ms) (on (well_formed (made_unit ed ms)))
  where
    on : (ok : Bool) → ((manufactured ed ms ok).answer ≡ Ok tt) ↔ (ok ≡ true)
    on true = (λ e. refl, λ e. refl)
    on false = (λ e. let no : ◌≡◌ {A = ℕ} 0 1 = cc in absurd (omega arith), λ e. absurd (false≢true e))

-- What is accepted is made as it was asked for.
pub manufacture_makes : (ed : Edition) (ms : List Made) → (manufacture_outcome ed ms).answer ≡ Ok tt → (manufacture_outcome ed ms).unit ≡ made_unit ed ms
unfolding manufacture_outcome lowest
manufacture_makes ed ms = on (well_formed (made_unit ed ms))
  where
    on : (ok : Bool) → (manufactured ed ms ok).answer ≡ Ok tt → (manufactured ed ms ok).unit ≡ made_unit ed ms
    on true e = refl
    on false e = let no : ◌≡◌ {A = ℕ} 0 1 = cc in absurd (omega arith)

-- What is not well formed is refused with 3, and nothing of it comes back but the edition.
pub manufacture_refuses : (ed : Edition) (ms : List Made) → well_formed (made_unit ed ms) ≡ false
    → manufacture_outcome ed ms ≡ record { answer = Err BadRecord; unit = blank ed }
unfolding manufacture_outcome lowest
manufacture_refuses ed ms e = rw e

-- ---- a new unit, field by field

-- "At manufacture current, saved and default agree"; what the maker said, Active, idle count 0, no mark, nothing waiting, held or out.
pub record IsNew (ed : Edition) (ms : List Made) (u : Unit) : Type 0 where
  pub edition : u.edition ≡ ed
  pub maker : map maker_of u.drive.records ≡ ms
  pub saved : map (λ r. r.saved) u.drive.records ≡ map (λ m. m.default) ms
  pub current : map (λ r. r.current) u.drive.records ≡ map (λ m. m.default) ms
  pub power : u.drive.power ≡ Active
  pub idle : u.drive.idle.0 ≡ 0
  pub stopped : u.stopped ≡ false
  pub unsaved : u.unsaved ≡ false
  pub slots : u.slots ≡ replicate 4 Empty
  pub held : u.held ≡ replicate 4 None
  pub out : u.out ≡ None

made_new : (ed : Edition) (ms : List Made) → IsNew ed ms (made_unit ed ms)
unfolding made
made_new ed ms = record {
  edition = refl;
  maker = maker_made ms;
  saved = map-map_at made_record (λ m. m.default) (λ r. r.saved) (λ i m. refl) ms;
  current = map-map_at made_record (λ m. m.default) (λ r. r.current) (λ i m. refl) ms;
  power = refl;
  idle = refl;
  stopped = refl;
  unsaved = refl;
  slots = refl;
  held = refl;
  out = refl;
}

-- What is accepted is the unit asked for, of either edition;
pub manufacture_new : (ed : Edition) (ms : List Made) → (manufacture_outcome ed ms).answer ≡ Ok tt → IsNew ed ms (manufacture_outcome ed ms).unit
manufacture_new ed ms e = rw (manufacture_makes ed ms e) (made_new ed ms)

-- beside a refusal stands one that supports nothing.
pub manufacture_blank : (ed : Edition) (ms : List Made) → well_formed (made_unit ed ms) ≡ false
    → IsNew ed (replicate 5 (maker_of unsupported)) (manufacture_outcome ed ms).unit
manufacture_blank ed ms e = rw (manufacture_refuses ed ms e) (made_new ed (replicate 5 (maker_of unsupported)))
