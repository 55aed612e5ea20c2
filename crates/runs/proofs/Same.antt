-- Demand 3, one call at a time: beside the real record u stands the serial one v, in which nothing ever waits. Settings, stopped mark and held senses
-- are always the same, condition and idle count whenever nothing waits in u; the unsaved mark too, but that a waiting operation's good flush may have
-- cleared it in u alone, until that operation ends.
use Rattle.std.proofs.Common.{Ok, Err, None}
use mathlib.Core.Path.{◌≡◌, refl, sym, ap, ◌∙◌}
use mathlib.Core.Bool.{Bool, true, false, cond, false≢true}
use mathlib.Core.List.{List, [], ◌∷◌}
use mathlib.Core.Logic.{◌⊎◌, inl, inr}
use Prim.Native.Nat.{ℕ}
use lib.Dec.{eqb}
use lib.ListN.{length, set}
use Rattle.rows.specs.Rows.{map_at}
use Rattle.drive.specs.Drives.{restarted, ticked, used, saved_restored}
use Rattle.drive.specs.declared.Drive.{Drive}
use Rattle.drive.proofs.Ticks.{tick_records}
use Rattle.drive.proofs.Fields.{fall_alike, count_alike}
use Rattle.drive.proofs.Used.{used_leaves, powered_on_leaves}
use Rattle.epc.specs.Epc.{aborts, performed}
use Rattle.registers.specs.declared.Registers.{Registers}
use Rattle.epc.proofs.Effects.{records_after}
use Rattle.epc.proofs.Fields.{power_after, count_after}
use Rattle.unit.specs.Units.{largest_of, slot_of, is_out, well_formed, with_drive, rested}
use Rattle.refusals.specs.Refusals.{◌gives◌, lowest}
use Rattle.refusals.specs.Verdicts.{rows_of_page}
use Rattle.engine.specs.Engine.{epc_rows, tick_rows, medium_rows, reset_rows, epc_effect, tick_effect, read_effect, write_effect, power_on_effect, hard_reset_effect}
use Rattle.readouts.specs.Readouts.{sense_rows, log_rows, transitions_rows, new_page_rows, sense_effect}
use Rattle.refusals.specs.declared.Refusal.TheVariants.{Aborted, BadHost, BadLength, NoSuchPage, IsStopped}
use Rattle.requests.specs.declared.Stage.TheVariants.{Flushing}
use Rattle.requests.specs.declared.Request.{Request}
use Rattle.unit.specs.declared.Slot.{Slot}
use Rattle.unit.specs.declared.Slot.TheVariants.{Waiting}
use Rattle.unit.specs.declared.Unit.{Unit}
use Rattle.calls.specs.Calls.{Call, set_features, tick, read, write, power_on, hard_reset, soft_reset, request_sense, log_page, transitions_page, new_page, Said, outcome}
use Rattle.calls.specs.Table.{verdict_in}
use Rattle.calls.specs.Described.{own_rows, effect, is_reset}
use Rattle.refusals.proofs.Lowest.{not_applies, row_passes, row_gives, clear_when}
use Rattle.calls.proofs.Numbers.{own_told, abort_rests, own_effect}
use Rattle.unit.proofs.Hosts.{other_slot}
use Rattle.calls.proofs.WellFormed.{run_well_formed}
use Rattle.runs.specs.Deeds.{Deed, does, was_aborted, if_ends, does_a, another, deed_of}
use Rattle.runs.specs.Past.{cdb_of}
use Rattle.runs.specs.Serial.{in_place_of, gather, refused_in, other_in, begun_in, beginner_in, ender_in, real_place, serial_place}
use Rattle.runs.proofs.Slots.{empty_waits, none_waits, Quiet, quiet_out}
use Rattle.runs.proofs.RunsTo.{RunsTo, runs_nothing, runs_on}

-- ---- the two records

-- The unsaved mark is clear by a good flush of an operation that still waits.
pub record Helped (slots : List Slot) (unsaved : Bool) : Type 0 where
  pub saved : unsaved ≡ false
  pub host : ℕ
  pub request : Request
  pub waits : slot_of slots host ≡ Waiting request
  pub count : ℕ
  pub stage : request.stage ≡ Flushing count
  pub some : eqb count 0 ≡ false

-- The unsaved mark of the serial record beside that of the real one, with the real one's slots.
abbrev pub SameMark : List Slot → Bool → Bool → Type 0
SameMark slots mark mark' = (mark' ≡ mark) ⊎ Helped slots mark

pub record Same (u v : Unit) : Type 0 where
  pub fine : well_formed v ≡ true
  pub quiet : Quiet v
  pub edition : v.edition ≡ u.edition
  pub records : v.drive.records ≡ u.drive.records
  pub stopped : v.stopped ≡ u.stopped
  pub held : v.held ≡ u.held
  pub unsaved : SameMark u.slots u.unsaved v.unsaved
  pub at_rest : Quiet u → (v.drive.power ≡ u.drive.power) × (v.drive.idle ≡ u.drive.idle)

-- A slot is set, and it is not that of the operation that helped.
pub mark_beside : (slots : List Slot) (mark mark' : Bool) (host : ℕ) (s : Slot) → ((h : Helped slots mark) → h.host ≡ host → ⊥)
    → SameMark slots mark mark' → SameMark (set slots host s) mark mark'
mark_beside slots mark mark' host s other (inl e) = inl e
mark_beside slots mark mark' host s other (inr h) = inr (record {
  saved = h.saved;
  host = h.host;
  request = h.request;
  waits = other_slot host h.host (other h) slots s ∙ h.waits;
  count = h.count;
  stage = h.stage;
  some = h.some;
})

-- Where nothing waits nobody can have helped.
pub mark_at_rest : (u v : Unit) → Quiet u → SameMark u.slots u.unsaved v.unsaved → v.unsaved ≡ u.unsaved
mark_at_rest u v quiet (inl e) = e
mark_at_rest u v quiet (inr h) = empty_waits h.request (sym (quiet h.host) ∙ h.waits)

-- ---- what stands in the serial run for one call of the real one

-- The CDB of this host's operation that ends with the deed.
abbrev pub ended_in : ℕ → List Deed → Deed → List (List ℕ)
ended_in k past = if_ends (λ host reply report. cond (eqb host k) (cdb_of host past ∷ []) []) []

-- The deeds of the calls that stand for a deed: none is refused; the same other call, as it was; one START STOP UNIT for a last answer, with its CDB.
pub record StandFor (past : List Deed) (d : Deed) (ds : List Deed) : Type 0 where
  pub none_refused : gather refused_in ds ≡ []
  pub same_others : gather other_in ds ≡ other_in d
  pub beginner : gather beginner_in ds ≡ ender_in d
  pub begun : (k : ℕ) → gather (begun_in k) ds ≡ ended_in k past d
  pub place : gather serial_place ds ≡ real_place d
  pub over : gather ender_in ds ≡ ender_in d

-- A deed that nothing stands for: it is no other call and no last answer.
abbrev pub Silent : List Deed → Deed → Type 0
Silent past d =
    (in_place_of past d ≡ []) × (other_in d ≡ []) × (ender_in d ≡ []) × (real_place d ≡ []) × ((k : ℕ) → ended_in k past d ≡ [])

stand_none : (past : List Deed) (d : Deed) → Silent past d → StandFor past d []
stand_none past d (none, other, ender, place, ended) = record {
  none_refused = refl;
  same_others = sym other;
  beginner = sym ender;
  begun = λ k. sym (ended k);
  place = sym place;
  over = sym ender;
}

pub record Follows (past : List Deed) (v : Unit) (d : Deed) (u' : Unit) : Type 0 where
  pub ds : List Deed
  pub v' : Unit
  pub runs : RunsTo v (in_place_of past d) ds v'
  pub same : Same u' v'
  pub stand : StandFor past d ds

-- ---- a call that is no part of an operation, made on the serial record too

accepted_here : (v : Unit) (c : Call) → ((said : Said) → deed_of c said ≡ another c (verdict_in said)) → lowest (own_rows v c) ≡ Ok tt
    → RunsTo v (c ∷ []) (does c ∷ []) (effect v c)
accepted_here v c other clear =
    runs_on v (effect v c) (effect v c) c (does c) [] [] (other (outcome v c).said ∙ ap (another c) (own_told v c ∙ clear)) (own_effect v c clear).0
    (runs_nothing (effect v c))

aborted_here : (v : Unit) (q : Registers) → lowest (epc_rows v q) ≡ Err Aborted → RunsTo v (set_features q ∷ []) (was_aborted (set_features q) ∷ []) (rested v)
aborted_here v q ten =
    let told = own_told v (set_features q) ∙ ten in
    runs_on v (rested v) (rested v) (set_features q) (was_aborted (set_features q)) [] [] (ap (another (set_features q)) told)
    (abort_rests v (set_features q) told).1 (runs_nothing (rested v))

pub left_fine : (v w : Unit) (cs : List Call) (ds : List Deed) → well_formed v ≡ true → RunsTo v cs ds w → well_formed w ≡ true
left_fine v w cs ds fine runs = rw (← runs.left) (run_well_formed v cs fine)

module _ (past : List Deed) (u v : Unit) (fine : well_formed u ≡ true) (same : Same u v) where
  none_out : v.out ≡ None
  none_out = quiet_out v same.fine same.quiet

  abbrev pub Stands : Deed → Unit → Type 0
  Stands d u' = (does_a is_reset d ≡ true → Quiet u) → Follows past v d u'

  -- Nothing stands for the call in the serial run.
  pub nothing : (d : Deed) (u' : Unit) → Silent past d → Same u' v → Follows past v d u'
  nothing d u' silent s = record { ds = []; v' = v; runs = rw silent.0 (runs_nothing v); same = s; stand = stand_none past d silent }

  -- The call itself stands for it.
  itself : (c : Call) (u' v' : Unit) → ((said : Said) → deed_of c said ≡ another c (verdict_in said)) → lowest (own_rows v c) ≡ Ok tt
      → effect v c ≡ v' → (well_formed v' ≡ true → Same u' v') → Follows past v (does c) u'
  itself c u' v' other clear leaves s =
      let runs = rw leaves at (accepted_here v c other clear) in
      record {
        ds = does c ∷ [];
        v' = v';
        runs = runs;
        same = s (left_fine v v' _ _ same.fine runs);
        stand = record { none_refused = refl; same_others = refl; beginner = refl; begun = λ k. refl; place = refl; over = refl };
      }

  -- ---- calls that change the drive alone

  -- Both records with another drive.
  with_drives : (d e : Drive) → e.records ≡ d.records → (Quiet u → (e.power ≡ d.power) × (e.idle ≡ d.idle))
      → well_formed (with_drive e v) ≡ true → Same (with_drive d u) (with_drive e v)
  with_drives d e records rest ok = record {
    fine = ok;
    quiet = same.quiet;
    edition = same.edition;
    records = records;
    stopped = same.stopped;
    held = same.held;
    unsaved = same.unsaved;
    at_rest = rest;
  }

  tick_clear : lowest (tick_rows v) ≡ Ok tt
  tick_clear = clear_when (tick_rows v) (rw same.fine)

  -- With a command out something waits, so only the records are compared.
  ticked_same : (b : Bool) → is_out u.out ≡ b → well_formed (with_drive (ticked (largest_of v) v.drive) v) ≡ true
      → Same (cond b u (with_drive (ticked (largest_of u) u.drive) u)) (with_drive (ticked (largest_of v) v.drive) v)
  ticked_same true out =
      with_drives u.drive (ticked (largest_of v) v.drive) (tick_records (largest_of v) v.drive ∙ same.records)
      (λ quiet. absurd (false≢true (sym (ap is_out (quiet_out u fine quiet)) ∙ out)))
  ticked_same false out =
      with_drives (ticked (largest_of u) u.drive) (ticked (largest_of v) v.drive)
      (tick_records (largest_of v) v.drive ∙ same.records ∙ sym (tick_records (largest_of u) u.drive))
      (λ quiet. let (power, idle) = same.at_rest quiet in (
        rw same.edition (fall_alike (largest_of u) v.drive u.drive same.records power idle),
        rw same.edition (count_alike (largest_of u) v.drive u.drive idle),
      ))

  pub ticks_on : Stands (does tick) (tick_effect u)
  ticks_on r =
      itself tick (tick_effect u) (with_drive (ticked (largest_of v) v.drive) v) (λ said. refl) tick_clear (rw none_out)
      (ticked_same (is_out u.out) refl)

  epc_clear : (q : Registers) → lowest (epc_rows u q) ≡ Ok tt → lowest (epc_rows v q) ≡ Ok tt
  epc_clear q clear = clear_when (epc_rows v q) (rw (same.fine, none_out, same.records, same.edition, not_applies (epc_rows u q) Aborted clear))

  records_same : (q : Registers) → (performed q v.drive).records ≡ (performed q u.drive).records
  records_same q = records_after q v.drive ∙ rw same.records (sym (records_after q u.drive))

  pub epc_on : (q : Registers) → lowest (epc_rows u q) ≡ Ok tt → Stands (does (set_features q)) (epc_effect q u)
  epc_on q clear r =
      itself (set_features q) (epc_effect q u) (epc_effect q v) (λ said. refl) (epc_clear q clear) refl
      (with_drives (performed q u.drive) (performed q v.drive) (records_same q) (λ quiet. (
        power_after q v.drive ∙ rw (same.at_rest quiet).0 (sym (power_after q u.drive)),
        count_after q v.drive ∙ sym (count_after q u.drive),
      )))

  aborts_given : (q : Registers) → aborts u.edition q u.drive.records ≡ true → lowest (epc_rows v q) ≡ Err Aborted
  aborts_given q ten =
      row_passes _ _ (rw same.fine) ∙ row_passes _ _ (rw none_out)
      ∙ row_gives (aborts v.edition q v.drive.records gives Aborted) [] (rw (same.records, same.edition) ten)

  pub aborts_on : (q : Registers) → aborts u.edition q u.drive.records ≡ true → Stands (was_aborted (set_features q)) (rested u)
  aborts_on q ten r =
      let runs = aborted_here v q (aborts_given q ten) in
      record {
        ds = was_aborted (set_features q) ∷ [];
        v' = rested v;
        runs = runs;
        same =
            with_drives (restarted u.drive) (restarted v.drive) same.records (λ quiet. ((same.at_rest quiet).0, refl))
            (left_fine v (rested v) _ _ same.fine runs);
        stand = record { none_refused = refl; same_others = refl; beginner = refl; begun = λ k. refl; place = refl; over = refl };
      }

  -- ---- the medium

  medium_clear : (host : ℕ) → lowest (medium_rows u host) ≡ Ok tt → lowest (medium_rows v host) ≡ Ok tt
  medium_clear host clear =
      clear_when (medium_rows v host)
      (rw (not_applies (medium_rows u host) BadHost clear, same.fine, none_out, same.stopped, not_applies (medium_rows u host) IsStopped clear))

  used_same : ((used v.drive).records ≡ (used u.drive).records) × ((used v.drive).power ≡ (used u.drive).power)
      × ((used v.drive).idle ≡ (used u.drive).idle)
  used_same =
      let w = used_leaves v.drive in
      let x = used_leaves u.drive in
      (w.0 ∙ same.records ∙ sym x.0, w.1 ∙ sym x.1, w.2 ∙ sym x.2)

  pub reads_on : (host : ℕ) → lowest (medium_rows u host) ≡ Ok tt → Stands (does (read host)) (read_effect u)
  reads_on host clear r =
      itself (read host) (read_effect u) (read_effect v) (λ said. refl) (medium_clear host clear) refl
      (with_drives (used u.drive) (used v.drive) used_same.0 (λ quiet. (used_same.1, used_same.2)))

  pub writes_on : (host : ℕ) → lowest (medium_rows u host) ≡ Ok tt → Stands (does (write host)) (write_effect u)
  writes_on host clear r = itself (write host) (write_effect u) (write_effect v) (λ said. refl) (medium_clear host clear) refl (λ ok. record {
    fine = ok;
    quiet = same.quiet;
    edition = same.edition;
    records = used_same.0;
    stopped = same.stopped;
    held = same.held;
    unsaved = inl refl;
    at_rest = λ quiet. (used_same.1, used_same.2);
  })

  -- ---- resets, which fall where nothing waits

  reset_clear : lowest (reset_rows v) ≡ Ok tt
  reset_clear = clear_when (reset_rows v) (rw same.fine)

  pub powers_on : Stands (does power_on) (power_on_effect u)
  powers_on r =
      let w = powered_on_leaves v.drive in
      let x = powered_on_leaves u.drive in
      itself power_on (power_on_effect u) (power_on_effect v) (λ said. refl) reset_clear refl (λ ok. record {
        fine = ok;
        quiet = none_waits;
        edition = same.edition;
        records = w.0 ∙ ap (map_at saved_restored 0) same.records ∙ sym x.0;
        stopped = refl;
        held = refl;
        unsaved = inl refl;
        at_rest = λ quiet. (w.1 ∙ sym x.1, w.2 ∙ sym x.2);
      })

  reset_same : Quiet u → well_formed (hard_reset_effect v) ≡ true → Same (hard_reset_effect u) (hard_reset_effect v)
  reset_same quiet ok = record {
    fine = ok;
    quiet = none_waits;
    edition = same.edition;
    records = same.records;
    stopped = same.stopped;
    held = refl;
    unsaved = inl (mark_at_rest u v quiet same.unsaved);
    at_rest = λ q. ((same.at_rest quiet).0, refl);
  }

  pub resets_hard : Stands (does hard_reset) (hard_reset_effect u)
  resets_hard r = itself hard_reset _ (hard_reset_effect v) (λ said. refl) reset_clear refl (reset_same (r refl))

  pub resets_soft : Stands (does soft_reset) (hard_reset_effect u)
  resets_soft r = itself soft_reset _ (hard_reset_effect v) (λ said. refl) reset_clear refl (reset_same (r refl))

  -- ---- sense and log

  sense_clear : (host : ℕ) (buffer : List ℕ) → lowest (sense_rows u host buffer) ≡ Ok tt → lowest (sense_rows v host buffer) ≡ Ok tt
  sense_clear host buffer clear =
      clear_when (sense_rows v host buffer)
      (rw (not_applies (sense_rows u host buffer) BadLength clear, not_applies (sense_rows u host buffer) BadHost clear, same.fine, none_out))

  pub tells_on : (host : ℕ) (buffer : List ℕ) → lowest (sense_rows u host buffer) ≡ Ok tt → Stands (does (request_sense host buffer)) (sense_effect host u)
  tells_on host buffer clear r =
      itself (request_sense host buffer) (sense_effect host u) (sense_effect host v) (λ said. refl) (sense_clear host buffer clear) refl (λ ok. record {
        fine = ok;
        quiet = same.quiet;
        edition = same.edition;
        records = same.records;
        stopped = same.stopped;
        held = rw same.held;
        unsaved = same.unsaved;
        at_rest = same.at_rest;
      })

  -- A log page of this many bytes.
  page_clear : (due size : ℕ) → lowest (rows_of_page due size (well_formed u)) ≡ Ok tt → lowest (rows_of_page due size (well_formed v)) ≡ Ok tt
  page_clear due size clear =
      clear_when (rows_of_page due size (well_formed v)) (rw (not_applies (rows_of_page due size (well_formed u)) BadLength clear, same.fine))

  pub logs_on : (buffer : List ℕ) → lowest (log_rows u buffer) ≡ Ok tt → Stands (does (log_page buffer)) u
  logs_on buffer clear r = itself (log_page buffer) u v (λ said. refl) (page_clear 512 (length buffer) clear) refl (λ ok. same)

  pub transitions_on : (buffer : List ℕ) → lowest (transitions_rows u buffer) ≡ Ok tt → Stands (does (transitions_page buffer)) u
  transitions_on buffer clear r = itself (transitions_page buffer) u v (λ said. refl) (page_clear 52 (length buffer) clear) refl (λ ok. same)

  new_page_clear : (number : ℕ) (buffer : List ℕ) → lowest (new_page_rows u number buffer) ≡ Ok tt → lowest (new_page_rows v number buffer) ≡ Ok tt
  new_page_clear number buffer clear =
      let rows = new_page_rows u number buffer in
      clear_when (new_page_rows v number buffer) (rw (not_applies rows BadLength clear, same.fine, same.edition, not_applies rows NoSuchPage clear))

  pub new_page_on : (number : ℕ) (buffer : List ℕ) → lowest (new_page_rows u number buffer) ≡ Ok tt → Stands (does (new_page number buffer)) u
  new_page_on number buffer clear r = itself (new_page number buffer) u v (λ said. refl) (new_page_clear number buffer clear) refl (λ ok. same)

  -- ---- an operation under way: nothing stands in the serial run, and something waits in the real one

  pub waits_on : (d : Deed) (u' : Unit) → Silent past d → (host : ℕ) (q : Request) → slot_of u'.slots host ≡ Waiting q
      → u'.edition ≡ u.edition → u'.drive.records ≡ u.drive.records → u'.stopped ≡ u.stopped → u'.held ≡ u.held
      → SameMark u'.slots u'.unsaved v.unsaved
      → Follows past v d u'
  waits_on d u' silent host q waits edition records stopped held mark = nothing d u' silent (record {
    fine = same.fine;
    quiet = same.quiet;
    edition = same.edition ∙ sym edition;
    records = same.records ∙ sym records;
    stopped = same.stopped ∙ sym stopped;
    held = same.held ∙ sym held;
    unsaved = mark;
    at_rest = λ quiet. empty_waits q (sym (quiet host) ∙ waits);
  })
