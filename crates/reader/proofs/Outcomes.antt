-- What the calls on a page say: number 1 exactly for a page that is not 512 bytes; no fault exactly for a page that our writer makes of the well-formed
-- records read, none of them saved off default while not saveable; and of a page that our writer wrote, what it shows of the records that it was
-- written from.
use Rattle.std.proofs.Common.{Ok, Err, Result}
use mathlib.Core.Path.{◌≡◌, refl, sym, ap, subst, ◌∙◌}
use mathlib.Core.Bool.{Bool, true, false, true≢false}
use mathlib.Core.List.{List, [], ◌∷◌}
use mathlib.Core.Logic.{◌↔◌}
use Prim.Native.Nat.{ℕ, ◌≤◌}
use native.Mathlib.Omega.{arith}
use borrow.Author.Tests.{eqb-true, eqb-false, eq-eqb, ne_eqb}
use lib.Dec.{eqb}
use lib.ListN.{length, get_or, get_or-eq_default}
use Rattle.conditions.specs.Conditions.{falling, place_of, condition_at}
use Rattle.conditions.specs.declared.Condition.{Condition}
use Rattle.conditions.specs.declared.Condition.TheVariants.{IdleA}
use Rattle.conditions.proofs.Conditions.{at_place}
use Rattle.drive.specs.declared.Edition.TheVariants.{Draft}
use Rattle.drive.specs.Records.{largest_timer, unsupported, records_well_formed}
use Rattle.drive.specs.declared.Record.{Record}
use Rattle.drive.proofs.WellFormed.{records_five}
use Rattle.pages.specs.Logs.{log_words, log_bytes}
use Rattle.pages.specs.Readings.{page_record, page_records, record_shown}
use Rattle.pages.proofs.Bytes.{bytes_small}
use Rattle.pages.proofs.Page.{page_512}
use Rattle.pages.proofs.ReadBack.{record_shown_lem, page_shown, shown_fine, page_again, record_read_lem}
use Rattle.faults.specs.Listing.{faults_of, listing}
use Rattle.faults.specs.declared.Fault.{Fault}
use Rattle.faults.proofs.Clean.{Clean, AreBytes, clean_exactly}
use Rattle.faults.proofs.InWords.{KeepsDefault}
use Rattle.refusals.specs.Refusals.{lowest}
use Rattle.refusals.specs.declared.Refusal.TheVariants.{BadLength}
use Rattle.reader.specs.PageCalls.{record_outcome, faults_outcome}
use Rattle.std.specs.Result.{is_err}
use Rattle.refusals.specs.declared.Refusal.{Refusal}
use Rattle.faults.specs.declared.Faults.{Faults}

-- A page of 512 bytes is looked at.
pub whole_read : (page : List ℕ) → length page ≡ 512
    → ((c : Condition) → record_outcome page c ≡ Ok (page_record page c)) × (faults_outcome page ≡ Ok (listing (faults_of page)))
unfolding record_outcome faults_outcome lowest
whole_read page size = (λ c. rw (eq-eqb (length page) 512 size), rw (eq-eqb (length page) 512 size))

-- "number 1 for a page not 512 bytes".
pub other_refused : (page : List ℕ) → (length page ≡ 512 → ⊥)
    → ((c : Condition) → record_outcome page c ≡ Err BadLength) × (faults_outcome page ≡ Err BadLength)
unfolding record_outcome faults_outcome lowest
other_refused page other = (λ c. rw (ne_eqb (length page) 512 other), rw (ne_eqb (length page) 512 other))

none_of : (l : List Fault) → length l ≡ 0 → l ≡ []
none_of [] e = refl
none_of (f ∷ l) e = absurd (omega arith)

-- The total that a page is answered with, where it is read.
abbrev pub Totals : ℕ → List ℕ → Type 0
Totals n page = (f : Faults) × (faults_outcome page ≡ Ok f) × (f.total ≡ n)

taken : (f g : Faults) → ◌≡◌ {A = Result Faults Refusal} (Ok f) (Ok g) → f ≡ g
taken f g e = ap (or_else f) e
  where
    or_else : Faults → Result Faults Refusal → Faults
    or_else f (Ok g) = g
    or_else f (Err r) = f

is_refused_lem : (f : Faults) → ◌≡◌ {A = Result Faults Refusal} (Err BadLength) (Ok f) → ⊥
is_refused_lem f e = true≢false (ap is_err e)

-- "an empty list means the page is exactly what our writer makes of the records read and none is saved off default while not saveable".
pub total_zero : (page : List ℕ) → AreBytes page → Totals 0 page ↔ Clean page
total_zero page bytes = (λ h. on (eqb (length page) 512) refl h.0 h.1 h.2, back)
  where
    on : (b : Bool) → eqb (length page) 512 ≡ b → (f : Faults) → faults_outcome page ≡ Ok f → f.total ≡ 0 → Clean page
    on true e f told none =
        let size = eqb-true (length page) 512 e in
        let same : listing (faults_of page) ≡ f = taken _ _ (sym (whole_read page size).1 ∙ told) in
        let total : length (faults_of page) ≡ f.total = ap (λ (r : Faults). r.total) same in
        (clean_exactly page size bytes).0 (none_of (faults_of page) (total ∙ none))
    on false e f told none = absurd (is_refused_lem f (sym (other_refused page (eqb-false (length page) 512 e)).1 ∙ told))

    back : Clean page → Totals 0 page
    back clean =
        let size : length page ≡ 512 = ap length clean.ours ∙ page_512 (page_records page) refl in
        (listing (faults_of page), (whole_read page size).1, ap length ((clean_exactly page size bytes).1 clean))

-- ---- a reader's place

-- A place in falling power is that condition's, and one above 4 the first's.
pub place_read : (page : List ℕ) (c : Condition) → record_outcome page (condition_at (place_of c)) ≡ record_outcome page c
place_read page c = ap (record_outcome page) (at_place c)

pub place_above : (page : List ℕ) (place : ℕ) → 5 ≤ place → record_outcome page (condition_at place) ≡ record_outcome page IdleA
place_above page place h = ap (record_outcome page) (get_or-eq_default falling IdleA h)

-- ---- a page that our writer wrote, of a unit of either edition

module _ (top : ℕ) (rs : List Record) (h : records_well_formed top rs ≡ true) where
  long : length (log_bytes rs) ≡ 512
  long = page_512 rs (records_five top rs h)

  -- Reading it back gives what it shows of the records,
  pub wrote_shown : (c : Condition) → record_outcome (log_bytes rs) c ≡ Ok (record_shown (get_or rs (place_of c) unsupported))
  wrote_shown c = (whole_read (log_bytes rs) long).0 c ∙ ap Ok (record_shown_lem top rs h c)

  -- and it has no fault exactly if of these none is saved off default while not saveable.
  pub wrote_clean : Totals 0 (log_bytes rs) ↔ ((c : Condition) → KeepsDefault (record_shown (get_or rs (place_of c) unsupported)))
  unfolding log_bytes
  wrote_clean =
      let exactly = total_zero (log_bytes rs) (bytes_small (log_words rs)) in (
        λ none c. subst KeepsDefault (record_shown_lem top rs h c) ((exactly.0 none).none_off c),
        λ kept. exactly.1 (record {
          well_formed_lem = ap (records_well_formed (largest_timer Draft)) (page_shown top rs h) ∙ shown_fine top rs h;
          ours = sym (ap log_bytes (page_shown top rs h) ∙ page_again rs);
          none_off = λ c. subst KeepsDefault (sym (record_shown_lem top rs h c)) (kept c);
        }),
      )

-- Of a draft unit these are the records themselves.
pub wrote_read : (rs : List Record) → records_well_formed (largest_timer Draft) rs ≡ true → (c : Condition)
    → record_outcome (log_bytes rs) c ≡ Ok (get_or rs (place_of c) unsupported)
wrote_read rs h c = (whole_read (log_bytes rs) (long (largest_timer Draft) rs h)).0 c ∙ ap Ok (record_read_lem rs h c)
