-- "Aborted exactly if", over the number, the bit and the place: what the clauses leave, said of the registers and of each condition that Count names.
-- Each clause of the abort is a test, and is false exactly if what it asks is so.
use mathlib.Core.Path.{◌≡◌, refl, sym, ◌∙◌}
use mathlib.Core.Bool.{Bool, true, false, not, ◌&&◌, ◌||◌, or_assoc, true≢false, false≢true}
use mathlib.Core.List.{List}
use mathlib.Core.Logic.{◌↔◌}
use Prim.Native.Nat.{ℕ, ◌<◌, ◌≤◌, suc-le-suc}
use native.Mathlib.Nat.{zero-add, le_of_suc-le-suc}
use native.Mathlib.Omega.{arith}
use lib.Dec.{eqb, ltb}
use lib.ListN.{length, get_or}
use borrow.Author.Tests.{eqb-true, eqb-false, eq-eqb, ne_eqb, ltb-false, le-ltb, not-false}
use Rattle.rows.specs.Rows.{some_at}
use Rattle.rows.proofs.Places.{and_left, and_right}
use Rattle.rows.proofs.Some.{or_left, or_right, none_at, none_from, some_from, some_place}
use Rattle.conditions.specs.Conditions.{place_of}
use Rattle.drive.specs.Records.{unsupported}
use Rattle.drive.specs.declared.Edition.{Edition}
use Rattle.drive.specs.declared.Record.{Record}
use Rattle.bits.specs.Bits.{bits, bit}
use Rattle.bits.specs.Reserved.{is_named}
use Rattle.bits.proofs.Ranges.{unnamed_none, unnamed_zero}
use Rattle.epc.specs.Epc.{sub_of, save, selects, is_unknown, is_go_to, is_unlisted, is_every, reserved_in_lba, aborts}
use Rattle.registers.specs.Commands.{named}
use Rattle.epc.specs.Inner.{misread, misnamed, barred, selected_barred}
use Rattle.epc.specs.declared.Sub.{Sub}
use Rattle.registers.specs.declared.Registers.{Registers}
use Rattle.registers.specs.declared.Named.{Named}
use Rattle.registers.specs.declared.Named.TheVariants.{One, Every, Unlisted}
use Rattle.epc.proofs.Clauses.{together}
use Rattle.epc.proofs.Reserved.{named_bits, by_number, reserved_exactly}

-- "Count names the condition", by the subcommand's number; request (iv): "For subcommands 0h, 2h and 3h FFh now selects the supported and changeable
-- conditions".
abbrev pub Names : ℕ → Named → ℕ → Record → Type 0
Names number (One c) place r = place ≡ place_of c
Names number Every place r = (r.supported ≡ true) × ((number ≡ 1 → ⊥) → r.changeable ≡ true)
Names number Unlisted place r = ⊥

-- A condition allows the subcommand: it is not "one unsupported"; "for 0h, 2h, 3h" it is changeable; with "bit 4 one" it is saveable.
pub record Allows (lba : ℕ) (r : Record) : Type 0 where
  pub supported : r.supported ≡ true
  pub changeable : (bits 3 0 lba ≡ 1 → ⊥) → r.changeable ≡ true
  pub saveable : bit 4 lba ≡ true → r.saveable ≡ true

-- The registers alone are right.
pub record Reads (ed : Edition) (q : Registers) : Type 0 where
  -- "command or feature differs;"
  pub command : q.command ≡ 0xEF
  pub feature : q.feature ≡ 0x4A
  -- "subcommand above 3h;"
  pub number : bits 3 0 q.lba ≤ 3
  -- "a reserved bit is one;"
  pub reserved : (k : ℕ) → k < 32 → is_named k (named_bits ed (bits 3 0 q.lba)) ≡ false → bit k q.lba ≡ false

-- What an accepted subcommand has. (z stands where a list has no record.)
pub record Accepted (ed : Edition) (q : Registers) (rs : List Record) (z : Record) : Type 0 where
  pub reads : Reads ed q
  -- "Count not listed; no selected condition,"
  pub place : ℕ
  pub within : place < length rs
  pub names : Names (bits 3 0 q.lba) (named q.count) place (get_or rs place z)
  -- "go to with FFh;"
  pub one : bits 3 0 q.lba ≡ 1 → named q.count ≡ Every → ⊥
  -- "or one unsupported; .. any selected one not changeable; .. any selected one not saveable."
  pub allow : (i : ℕ) → i < length rs → Names (bits 3 0 q.lba) (named q.count) i (get_or rs i z) → Allows q.lba (get_or rs i z)

-- ---- each clause and its test

pub goes_one : (lba : ℕ) → is_go_to (sub_of lba) ≡ eqb (bits 3 0 lba) 1
goes_one = by_number (λ n sub. is_go_to sub ≡ eqb n 1) refl refl refl refl (λ n above. sym (ne_eqb n 1 (omega arith)))

-- for all but go to
pub not_goes : (lba : ℕ) → (bits 3 0 lba ≡ 1 → ⊥) → is_go_to (sub_of lba) ≡ false
not_goes lba other = goes_one lba ∙ ne_eqb (bits 3 0 lba) 1 other

module _ (lba : ℕ) where
  pub names_selects : (n : Named) (place : ℕ) (r : Record) → Names (bits 3 0 lba) n place r → selects (sub_of lba) n place r ≡ true
  names_selects (One c) place r e = eq-eqb place (place_of c) e
  names_selects Every place r e = rw (e.0, goes_one lba) (on (eqb (bits 3 0 lba) 1) (λ other. e.1 (eqb-false _ _ other)))
    where
      on : (goes : Bool) → (goes ≡ false → r.changeable ≡ true) → (goes || r.changeable) ≡ true
      on true h = refl
      on false h = h refl
  names_selects Unlisted place r e = absurd e

  pub selects_names : (n : Named) (place : ℕ) (r : Record) → selects (sub_of lba) n place r ≡ true → Names (bits 3 0 lba) n place r
  selects_names (One c) place r e = eqb-true place (place_of c) e
  selects_names Every place r e = (
    and_left r.supported _ e,
    λ other. rw (not_goes lba other) at (and_right r.supported (is_go_to (sub_of lba) || r.changeable) e),
  )
  selects_names Unlisted place r e = absurd (false≢true e)

names_listed : (number : ℕ) (n : Named) (place : ℕ) (r : Record) → Names number n place r → is_unlisted n ≡ false
names_listed number (One c) place r e = refl
names_listed number Every place r e = refl
names_listed number Unlisted place r e = absurd e

is_every_lem : (n : Named) → is_every n ≡ true → n ≡ Every
is_every_lem (One c) e = absurd (false≢true e)
is_every_lem Every e = refl
is_every_lem Unlisted e = absurd (false≢true e)

module _ (lba : ℕ) (r : Record) where
  unbarred_allows : barred (is_go_to (sub_of lba)) (save lba) r ≡ false → Allows lba r
  unbarred_allows h =
      let rest = or_left (not r.supported || not (is_go_to (sub_of lba)) && not r.changeable) _ h in
      record {
        supported = not-false _ (or_left (not r.supported) _ rest);
        changeable = λ other. not-false _ (rw (not_goes lba other) at (or_right (not r.supported) _ rest));
        saveable = λ e. not-false _ (rw e at (or_right (not r.supported || not (is_go_to (sub_of lba)) && not r.changeable) _ h));
      }

  allows_unbarred : Allows lba r → barred (is_go_to (sub_of lba)) (save lba) r ≡ false
  allows_unbarred a = rw (a.supported, goes_one lba) (on (eqb (bits 3 0 lba) 1) (save lba) (λ e. a.changeable (eqb-false _ _ e)) a.saveable)
    where
      on : (goes saves : Bool) → (goes ≡ false → r.changeable ≡ true) → (saves ≡ true → r.saveable ≡ true)
          → (not goes && not r.changeable || saves && not r.saveable) ≡ false
      on true true c v = rw (v refl)
      on true false c v = refl
      on false true c v = rw (c refl, v refl)
      on false false c v = rw (c refl)

-- ---- the law

module _ (ed : Edition) (q : Registers) (rs : List Record) (z : Record) where
  abbrev sub : Sub
  sub = sub_of q.lba

  abbrev n : Named
  n = named q.count

  abbrev number : ℕ
  number = bits 3 0 q.lba

  read_right : misread ed q sub ≡ false → Reads ed q
  read_right h =
      let command = not (eqb q.command 0xEF) in
      let codes = command || not (eqb q.feature 0x4A) in
      let apart : (codes || (is_unknown sub || reserved_in_lba ed sub q.lba)) ≡ false =
      sym (or_assoc codes (is_unknown sub) (reserved_in_lba ed sub q.lba)) ∙ h in
      let named_bits_lem = sym (reserved_exactly ed q.lba) ∙ or_right codes _ apart in
      record {
        command = eqb-true _ _ (not-false _ (or_left command _ (or_left codes _ apart)));
        feature = eqb-true _ _ (not-false _ (or_right command _ (or_left codes _ apart)));
        number = ltb-false 3 number (or_left (ltb 3 number) _ named_bits_lem);
        reserved = λ k below. unnamed_none 31 (named_bits ed number) q.lba (or_right (ltb 3 number) _ named_bits_lem) k (le_of_suc-le-suc below);
      }

  right_read : Reads ed q → misread ed q sub ≡ false
  right_read r =
      let named_bits_lem : (is_unknown sub || reserved_in_lba ed sub q.lba) ≡ false =
      reserved_exactly ed q.lba ∙ rw (le-ltb 3 number r.number, unnamed_zero 31 (named_bits ed number) q.lba (λ k to. r.reserved k (suc-le-suc to))) in
      rw (eq-eqb _ _ r.command, eq-eqb _ _ r.feature) named_bits_lem

  accepted_has : aborts ed q rs ≡ false → Accepted ed q rs z
  accepted_has h =
      let wrong = misread ed q sub || misnamed (is_go_to sub) n in
      let nothing = not (some_at (selects sub n) 0 rs) in
      let all = together ed q rs ∙ h in
      let right = read_right (or_left (misread ed q sub) _ (or_left wrong nothing (or_left (wrong || nothing) _ all))) in
      let named-one = or_right (misread ed q sub) _ (or_left wrong nothing (or_left (wrong || nothing) _ all)) in
      let some = some_place (selects sub n) 0 rs z (not-false _ (or_right wrong nothing (or_left (wrong || nothing) _ all))) in
      let free = none_at (selected_barred sub n (save q.lba)) rs z (or_right (wrong || nothing) _ all) in
      record {
        reads = right;
        place = some.0;
        within = some.1;
        names = selects_names q.lba n some.0 (get_or rs some.0 z) (rw zero-add at some.2);
        one = λ e all. true≢false (rw (goes_one q.lba, eq-eqb _ _ e, all) at (or_right (is_unlisted n) _ named-one));
        allow = λ i k e. unbarred_allows q.lba (get_or rs i z) (rw (names_selects q.lba n i (get_or rs i z) e) at (free i k));
      }

  has_accepted : Accepted ed q rs z → aborts ed q rs ≡ false
  has_accepted a =
      let some = some_from (selects sub n) rs z a.place a.within (names_selects q.lba n a.place (get_or rs a.place z) a.names) in
      let none = none_from (selected_barred sub n (save q.lba)) rs z (λ j l. free (get_or rs j z) j (selects sub n j (get_or rs j z)) refl (a.allow j l)) in
      sym (together ed q rs)
      ∙ rw (
        right_read a.reads,
        names_listed number n a.place (get_or rs a.place z) a.names,
        lone (is_go_to sub) (is_every n) refl refl,
        some,
        none,
      )
    where
      free : (r : Record) (j : ℕ) (b : Bool) → selects sub n j r ≡ b → (Names number n j r → Allows q.lba r)
          → (b && barred (is_go_to sub) (save q.lba) r) ≡ false
      free r j true e allows = allows_unbarred q.lba r (allows (selects_names q.lba n j r e))
      free r j false e allows = refl

      lone : (goes every : Bool) → is_go_to sub ≡ goes → is_every n ≡ every → (goes && every) ≡ false
      lone true true g e = absurd (a.one (eqb-true number 1 (sym (goes_one q.lba) ∙ g)) (is_every_lem n e))
      lone true false g e = refl
      lone false every g e = refl

  -- A subcommand is accepted exactly if it has all this: "FFh is all or nothing".
  pub accepted_exactly : (aborts ed q rs ≡ false) ↔ Accepted ed q rs z
  accepted_exactly = (accepted_has, has_accepted)

-- So an LBA aborts with any bit that is not named, whatever else the registers say, and with a number above 3h.
module _ (ed : Edition) (q : Registers) (rs : List Record) where
  unless : (Accepted ed q rs unsupported → ⊥) → aborts ed q rs ≡ true
  unless none = on (aborts ed q rs) refl
    where
      on : (b : Bool) → aborts ed q rs ≡ b → aborts ed q rs ≡ true
      on true e = e
      on false e = absurd (none (accepted_has ed q rs unsupported e))

  pub reserved_aborts : (k : ℕ) → k < 32 → is_named k (named_bits ed (bits 3 0 q.lba)) ≡ false → bit k q.lba ≡ true → aborts ed q rs ≡ true
  reserved_aborts k below unnamed one = unless (λ a. true≢false (sym one ∙ a.reads.reserved k below unnamed))

  pub unknown_aborts : 3 < bits 3 0 q.lba → aborts ed q rs ≡ true
  unknown_aborts above = unless (λ a. omega (arith, a.reads.number))
