-- A well-formed record is taken apart into its drive, its hosts and what is out, and put together again; so each changed part keeps it well formed.
-- Requests stay well formed since they ask of the records only what the maker said.
use Rattle.std.proofs.Common.{Some, None, Option}
use mathlib.Core.Path.{◌≡◌, refl, ap, sym, ◌∙◌}
use mathlib.Core.Bool.{Bool, true, false, ◌&&◌, true≢false}
use mathlib.Core.List.{List, [], ◌∷◌, map}
use mathlib.Core.Logic.{◌↔◌}
use Prim.Native.Nat.{ℕ, zero, suc}
use lib.Dec.{eqb}
use lib.ListN.{length, get_or, set, replicate, length-set, get_or-map}
use borrow.Author.Tests.{eqb-true, eq-eqb}
use Rattle.rows.specs.Rows.{every_at}
use Rattle.rows.proofs.Places.{and_left, and_right, every_from}
use Rattle.conditions.specs.Conditions.{place_of}
use Rattle.drive.specs.Records.{unsupported, drive_well_formed}
use Rattle.drive.specs.Drives.{maker_of, used, restarted}
use Rattle.conditions.specs.declared.Condition.{Condition}
use Rattle.drive.specs.declared.Record.{Record}
use Rattle.drive.specs.declared.Drive.{Drive}
use Rattle.drive.specs.declared.Made.{Made}
use Rattle.drive.proofs.WellFormed.{restarted_fine, used_fine}
use Rattle.drive.proofs.Maker.{maker_used}
use Rattle.unit.specs.Units.{slot_of, is_out, slot_well_formed, host_well_formed, hosts_well_formed, out_well_formed, well_formed, with_drive, with_marks, with_slot, with_held, with_out, without_hosts, rested, largest_of}
use Rattle.requests.specs.Requests.{supported_in, request_well_formed}
use Rattle.requests.specs.declared.Target.{Target}
use Rattle.requests.specs.declared.Target.TheVariants.{Stop, Start, GoTo}
use Rattle.requests.specs.declared.Stage.{Stage}
use Rattle.requests.specs.declared.Stage.TheVariants.{Straight, Flushing}
use Rattle.unit.specs.declared.Slot.{Slot}
use Rattle.unit.specs.declared.Slot.TheVariants.{Empty, Waiting}
use Rattle.unit.specs.declared.Unit.{Unit}
use Rattle.requests.specs.declared.Failure.{Failure}

-- ---- a row and one place of it

module _ {A : Type 0} where
  -- a test that holds everywhere, and past the end, holds wherever one looks
  every_get : (f : A → Bool) (z : A) → f z ≡ true → (at : ℕ) (l : List A) → every_at (λ i x. f x) at l ≡ true → (i : ℕ) → f (get_or l i z) ≡ true
  every_get f z past at [] h i = past
  every_get f z past at (x ∷ xs) h zero = and_left (f x) _ h
  every_get f z past at (x ∷ xs) h (suc i) = every_get f z past (suc at) xs (and_right (f x) _ h) i

  -- what holds of a new value and of the value before holds wherever one looks after the new one is set
  set_get : (P : A → Type 0) (l : List A) (i : ℕ) (x z : A) (j : ℕ) → P x → P (get_or l j z) → P (get_or (set l i x) j z)
  set_get P [] i x z j p q = q
  set_get P (y ∷ l) zero x z zero p q = p
  set_get P (y ∷ l) zero x z (suc j) p q = q
  set_get P (y ∷ l) (suc i) x z zero p q = q
  set_get P (y ∷ l) (suc i) x z (suc j) p q = set_get P l i x z j p q

-- ---- the parts of a well-formed record

-- The drive; four slots and four held senses; every waiting request, whatever the host (past the fourth none waits); what is out.
pub record UnitFine (u : Unit) : Type 0 where
  pub drive : drive_well_formed (largest_of u) u.drive ≡ true
  pub slots : length u.slots ≡ 4
  pub held : length u.held ≡ 4
  pub requests : (host : ℕ) → slot_well_formed u.drive.records (slot_of u.slots host) ≡ true
  pub out : out_well_formed u.slots u.out ≡ true

-- the test of every slot says of each host that its slot is well formed
each_request : (rs : List Record) (slots : List Slot) → every_at (host_well_formed rs) 0 slots ≡ true
    → (host : ℕ) → slot_well_formed rs (slot_of slots host) ≡ true
each_request rs slots = every_get (slot_well_formed rs) Empty refl 0 slots

module _ (u : Unit) where
  apart : well_formed u ≡ true → UnitFine u
  unfolding well_formed hosts_well_formed
  apart h =
      let drive = drive_well_formed (largest_of u) u.drive in
      let four = eqb (length u.slots) 4 in
      let fours = four && eqb (length u.held) 4 in
      let each = every_at (host_well_formed u.drive.records) 0 u.slots in
      let out = out_well_formed u.slots u.out in
      let hosts : (fours && each) ≡ true = and_right drive _ (and_left (drive && (fours && each)) out h) in
      let both : fours ≡ true = and_left fours each hosts in
      record {
        drive = and_left drive _ (and_left (drive && (fours && each)) out h);
        slots = eqb-true _ _ (and_left four _ both);
        held = eqb-true _ _ (and_right four _ both);
        requests = each_request u.drive.records u.slots (and_right fours each hosts);
        out = and_right (drive && (fours && each)) out h;
      }

  together : UnitFine u → well_formed u ≡ true
  unfolding well_formed hosts_well_formed
  together p =
      rw (
        p.drive,
        eq-eqb _ _ p.slots,
        eq-eqb _ _ p.held,
        p.out,
        every_from (host_well_formed u.drive.records) u.slots Empty (λ i k. p.requests i),
      )

  -- A record is well formed exactly if its parts are fine.
  pub unit_fine : (well_formed u ≡ true) ↔ UnitFine u
  unit_fine = (apart, together)

-- ---- a waiting request asks of the records only what the maker said

module _ (rs ss : List Record) (same : map maker_of rs ≡ map maker_of ss) where
  supported_same : (c : Condition) → supported_in rs c ≡ supported_in ss c
  supported_same c =
      ap (λ (m : Made). m.supported) (sym (get_or-map maker_of rs (place_of c) unsupported)
      ∙ ap (λ (l : List Made). get_or l (place_of c) (maker_of unsupported)) same
      ∙ get_or-map maker_of ss (place_of c) unsupported)

  request_same : (t : Target) (stage : Stage) → request_well_formed rs t stage ≡ request_well_formed ss t stage
  request_same Stop stage = refl
  request_same Start Straight = refl
  request_same Start (Flushing n) = refl
  request_same (GoTo c) stage = supported_same c

  slot_same : (s : Slot) → slot_well_formed rs s ≡ slot_well_formed ss s
  slot_same Empty = refl
  slot_same (Waiting q) = request_same q.target q.stage

-- ---- each part changed

none_out : (slots : List Slot) (o : Option ℕ) → is_out o ≡ false → out_well_formed slots o ≡ true
none_out slots None e = refl
none_out slots (Some host) e = absurd (true≢false e)

module _ (u : Unit) (fine : UnitFine u) where
  pub drive_changed : (d : Drive) → drive_well_formed (largest_of u) d ≡ true → map maker_of d.records ≡ map maker_of u.drive.records
      → UnitFine (with_drive d u)
  drive_changed d ok same = record {
    drive = ok;
    slots = fine.slots;
    held = fine.held;
    requests = λ host. slot_same _ _ same (slot_of u.slots host) ∙ fine.requests host;
    out = fine.out;
  }

  pub idle_restarted : UnitFine (rested u)
  idle_restarted = drive_changed (restarted u.drive) (restarted_fine (largest_of u) u.drive fine.drive) refl

  pub medium_used : UnitFine (with_drive (used u.drive) u)
  medium_used = drive_changed (used u.drive) (used_fine (largest_of u) u.drive fine.drive) (maker_used u.drive)

  pub marks_changed : (stopped unsaved : Bool) → UnitFine (with_marks stopped unsaved u)
  marks_changed stopped unsaved =
      record { drive = fine.drive; slots = fine.slots; held = fine.held; requests = fine.requests; out = fine.out }

  pub slot_changed : (host : ℕ) (s : Slot) → slot_well_formed u.drive.records s ≡ true → is_out u.out ≡ false → UnitFine (with_slot host s u)
  slot_changed host s ok none = record {
    drive = fine.drive;
    slots = simp length-set fine.slots;
    held = fine.held;
    requests = λ k. set_get (λ (x : Slot). slot_well_formed u.drive.records x ≡ true) u.slots host _ Empty k ok (fine.requests k);
    out = none_out _ u.out none;
  }

  pub held_changed : (host : ℕ) (h : Option Failure) → UnitFine (with_held host h u)
  held_changed host h =
      record { drive = fine.drive; slots = fine.slots; held = simp length-set fine.held; requests = fine.requests; out = fine.out }

  pub out_changed : (o : Option ℕ) → out_well_formed u.slots o ≡ true → UnitFine (with_out o u)
  out_changed o ok = record { drive = fine.drive; slots = fine.slots; held = fine.held; requests = fine.requests; out = ok }

  pub hosts_cleared : UnitFine (without_hosts u)
  hosts_cleared =
      record { drive = fine.drive; slots = refl; held = refl; requests = each_request u.drive.records (replicate 4 Empty) refl; out = refl }
