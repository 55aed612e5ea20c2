-- What is read back from the two pages of five records. A descriptor says on its page what it says by itself; by itself its flags are a table of their
-- 64 values, and each of its numbers is made again of four bytes.
use mathlib.Core.Path.{◌≡◌, refl, sym, ap, ap₂, ◌∙◌}
use mathlib.Core.Bool.{Bool, true, false, ◌&&◌, cond, beq}
use mathlib.Core.List.{List, [], ◌∷◌, map}
use Prim.Native.Nat.{ℕ, zero, suc, ◌+◌, ◌-◌, ◌*◌, ◌<◌}
use native.Mathlib.Nat.{add_assoc}
use native.Mathlib.Omega.{arith}
use lib.Dec.{eqb}
use lib.ListN.{length, get_or}
use borrow.Author.Tests.{eqb-true}
use Rattle.rows.specs.Rows.{every_at}
use Rattle.rows.proofs.Places.{and_left, and_right, every_at_lem}
use Rattle.rows.proofs.Values.{own_values}
use Rattle.bits.specs.Bits.{bit, bits}
use Rattle.conditions.specs.Conditions.{falling, place_of}
use Rattle.conditions.specs.declared.Condition.{Condition}
use Rattle.conditions.specs.declared.Condition.TheVariants.{IdleA, IdleB, IdleC, StandbyY, StandbyZ}
use Rattle.conditions.proofs.Conditions.{place_below}
use Rattle.drive.specs.declared.Record.{Record}
use Rattle.drive.specs.Records.{unsupported, record_well_formed, records_well_formed}
use Rattle.drive.proofs.WellFormed.{setting_fine, record_fine, records_five, records_fine}
use Rattle.pages.specs.Logs.{flag_at}
use Rattle.published.specs.Descriptors.{tenths_up, low_first, descriptor, descriptor_page, described}
use Rattle.published.specs.Readings.{new_page_of, byte_of, low_first_at, descriptor_record, new_page_record, new_page_records, rounded_up, SameToTheTenth}
use Rattle.published.proofs.Places.{in_place}

-- ---- six flags

-- A test that holds of every row of n flags.
abbrev every_flags : ℕ → (List Bool → Bool) → Bool
every_flags zero f = f []
every_flags (suc n) f = every_flags n (λ l. f (true ∷ l)) && every_flags n (λ l. f (false ∷ l))

of_flags : (l : List Bool) (f : List Bool → Bool) → every_flags (length l) f ≡ true → f l ≡ true
of_flags [] f h = h
of_flags (true ∷ l) f h = of_flags l (λ l. f (true ∷ l)) (and_left (every_flags (length l) (λ l. f (true ∷ l))) _ h)
of_flags (false ∷ l) f h = of_flags l (λ l. f (false ∷ l)) (and_right (every_flags (length l) (λ l. f (true ∷ l))) _ h)

beq_true : (a b : Bool) → beq a b ≡ true → a ≡ b
beq_true true true h = refl
beq_true true false h = sym h
beq_true false true h = h
beq_true false false h = refl

abbrev byte_from : List Bool → ℕ
byte_from l =
    flag_at 7 (get_or l 0 false) + flag_at 6 (get_or l 1 false) + flag_at 5 (get_or l 2 false)
    + flag_at 4 (get_or l 3 false) + flag_at 3 (get_or l 4 false) + flag_at 2 (get_or l 5 false)

-- "from bit 7 down": the flag at a place is the bit that many below 7.
flag_back : (a b c d e f : Bool) (i : ℕ) → i < 6
    → bit (7 - i) (byte_from (a ∷ b ∷ c ∷ d ∷ e ∷ f ∷ [])) ≡ get_or (a ∷ b ∷ c ∷ d ∷ e ∷ f ∷ []) i false
flag_back a b c d e f i h =
    let l = a ∷ b ∷ c ∷ d ∷ e ∷ f ∷ [] in
    beq_true _ _ (every_at_lem (λ at flag. beq (bit (7 - at) (byte_from l)) flag) l false
    (of_flags l (λ l. every_at (λ at flag. beq (bit (7 - at) (byte_from l)) flag) 0 l) refl) i h)

-- Of byte 1 the request names bits 7 to 2: "all else zero here".
pub unnamed_flags : (r : Record) → bits 1 0 (get_or (descriptor r) 1 0) ≡ 0
unfolding descriptor
unnamed_flags r =
    eqb-true _ 0 (of_flags (r.supported ∷ r.saveable ∷ r.changeable ∷ r.default.enabled ∷ r.saved.enabled ∷ r.current.enabled ∷ [])
    (λ l. eqb (bits 1 0 (byte_from l)) 0) refl)

-- ---- a descriptor

four_back : (n : ℕ) → n < 4294967296 → low_first_at (low_first n) 0 ≡ n
four_back n h = omega arith

record Small (r : Record) : Type 0 where
  recovery : tenths_up r.recovery.0 < 4294967296
  default : r.default.timer.0 < 4294967296
  saved : r.saved.timer.0 < 4294967296
  current : r.current.timer.0 < 4294967296

-- By itself.
descriptor_back : (r : Record) → Small r → descriptor_record (descriptor r) 0 ≡ rounded_up r
unfolding descriptor
descriptor_back r small =
    let flag = flag_back r.supported r.saveable r.changeable r.default.enabled r.saved.enabled r.current.enabled in
    λ i. record {
      supported = flag 0 (omega arith) i;
      saveable = flag 1 (omega arith) i;
      changeable = flag 2 (omega arith) i;
      recovery = record { 0 = 100 * four_back (tenths_up r.recovery.0) small.recovery i };
      default = record { enabled = flag 3 (omega arith) i; timer = record { 0 = four_back r.default.timer.0 small.default i } };
      saved = record { enabled = flag 4 (omega arith) i; timer = record { 0 = four_back r.saved.timer.0 small.saved i } };
      current = record { enabled = flag 5 (omega arith) i; timer = record { 0 = four_back r.current.timer.0 small.current i } };
    }

-- Wherever it stands.
module _ (page d : List ℕ) (at : ℕ) (same : (k : ℕ) → k < 64 → get_or page (at + k) 0 ≡ get_or d k 0) where
  byte_there : (k j : ℕ) → k + j < 64 → get_or page (at + k + j) 0 ≡ get_or d (k + j) 0
  byte_there k j h = ap (λ (n : ℕ). get_or page n 0) (add_assoc at k j) ∙ same (k + j) h

  number_there : (k : ℕ) → k + 3 < 64 → low_first_at page (at + k) ≡ low_first_at d k
  number_there k h =
      λ i.
      same k (omega arith) i + 256 * byte_there k 1 (omega arith) i + 65536 * byte_there k 2 (omega arith) i
      + 16777216 * byte_there k 3 (omega arith) i

  read_there : descriptor_record page at ≡ descriptor_record d 0
  read_there =
      let flags = same 1 (omega arith) in
      λ i. record {
        supported = bit 7 (flags i);
        saveable = bit 6 (flags i);
        changeable = bit 5 (flags i);
        recovery = record { 0 = 100 * number_there 16 (omega arith) i };
        default = record { enabled = bit 4 (flags i); timer = record { 0 = number_there 4 (omega arith) i } };
        saved = record { enabled = bit 3 (flags i); timer = record { 0 = number_there 8 (omega arith) i } };
        current = record { enabled = bit 2 (flags i); timer = record { 0 = number_there 12 (omega arith) i } };
      }

-- ---- the two pages, whatever the largest timer, if it is a number of four bytes

picked : (rs : List Record) (number : ℕ) → cond (eqb number 0) (descriptor_page 0 rs) (descriptor_page 1 rs) ≡ descriptor_page number rs
unfolding descriptor_page
picked rs number = refl

small : (top : ℕ) (r : Record) → top < 4294967296 → record_well_formed top r ≡ true → Small r
small top r fits h =
    let fine = (record_fine top r).0 h in
    record {
      recovery = let bound = fine.recovery in omega arith;
      default = let bound = ((setting_fine top r.default).0 fine.default).small in omega arith;
      saved = let bound = ((setting_fine top r.saved).0 fine.saved).small in omega arith;
      current = let bound = ((setting_fine top r.current).0 fine.current).small in omega arith;
    }

module _ (top : ℕ) (fits : top < 4294967296) (rs : List Record) (h : records_well_formed top rs ≡ true) where
  -- A condition's record, read where the table says, is its record with recovery rounded up.
  pub record_back : (c : Condition) → new_page_record (descriptor_page 0 rs) (descriptor_page 1 rs) c ≡ rounded_up (get_or rs (place_of c) unsupported)
  record_back c =
      let r = get_or rs (place_of c) unsupported in
      let fine = ((records_fine top unsupported rs).0 h).each (place_of c) (place_below c) in
      ap (λ (page : List ℕ). descriptor_record page (byte_of c)) (picked rs (new_page_of c))
      ∙ read_there (descriptor_page (new_page_of c) rs) (descriptor r) (byte_of c) (in_place rs c)
      ∙ descriptor_back r (small top r fits fine)

  -- The two new pages together give every flag and every timer back, and recovery rounded up to tenths.
  pub pages_read : new_page_records (descriptor_page 0 rs) (descriptor_page 1 rs) ≡ map rounded_up rs
  pages_read = (λ i. map (λ c. record_back c i) falling) ∙ ap (map rounded_up) (own_values rs unsupported 5 (records_five top rs h))

rounded_same : (r s : Record) → rounded_up r ≡ rounded_up s → SameToTheTenth r s
rounded_same r s e = record {
  supported = ap (λ (r : Record). r.supported) e;
  saveable = ap (λ (r : Record). r.saveable) e;
  changeable = ap (λ (r : Record). r.changeable) e;
  recovery = let millis = ap (λ (r : Record). r.recovery.0) e in omega arith;
  default = ap (λ (r : Record). r.default) e;
  saved = ap (λ (r : Record). r.saved) e;
  current = ap (λ (r : Record). r.current) e;
}

-- Two rows with the same two pages have, of each condition, the same maker's flags, the same three settings and the same tenths of recovery.
pub pages_tell : (top : ℕ) → top < 4294967296 → (rs ss : List Record) → records_well_formed top rs ≡ true → records_well_formed top ss ≡ true
    → descriptor_page 0 rs ≡ descriptor_page 0 ss → descriptor_page 1 rs ≡ descriptor_page 1 ss
    → (c : Condition) → SameToTheTenth (get_or rs (place_of c) unsupported) (get_or ss (place_of c) unsupported)
pages_tell top fits rs ss h k zeroth first c =
    rounded_same (get_or rs (place_of c) unsupported) (get_or ss (place_of c) unsupported)
    (sym (record_back top fits rs h c) ∙ ap₂ (λ page0 page1. new_page_record page0 page1 c) zeroth first ∙ record_back top fits ss k c)

-- And rows that are so have the same pages: these show no more.
same_descriptor : (r s : Record) → SameToTheTenth r s → descriptor r ≡ descriptor s
unfolding descriptor
same_descriptor r s e = rw (e.supported, e.saveable, e.changeable, e.recovery, e.default, e.saved, e.current)

pub tells_pages : (rs ss : List Record) → ((c : Condition) → SameToTheTenth (get_or rs (place_of c) unsupported) (get_or ss (place_of c) unsupported))
    → (number : ℕ) → descriptor_page number rs ≡ descriptor_page number ss
unfolding descriptor_page
tells_pages rs ss same number =
    let shown : (c : Condition) → described rs c ≡ described ss c = λ c. same_descriptor _ _ (same c) in
    rw (shown IdleA, shown IdleB, shown IdleC, shown StandbyY, shown StandbyZ)
