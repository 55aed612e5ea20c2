-- "Anything else is refused": a CDB is listed exactly if its reserved bits are zero, its fields ask for a target of the list, and a condition that it
-- names is supported. Byte 5 and, for 1h to 3h, LOEJ and START stand nowhere in it.
use Rattle.std.proofs.Common.{Some}
use mathlib.Core.Path.{◌≡◌, refl, ◌∙◌, sym}
use mathlib.Core.Bool.{true, false}
use mathlib.Core.List.{List}
use mathlib.Core.Logic.{◌↔◌}
use Prim.Native.Nat.{ℕ, ◌≤◌, ◌<◌}
use native.Mathlib.Nat.{le_of_suc-le-suc}
use lib.ListN.{get_or}
use Rattle.conditions.specs.Conditions.{place_of}
use Rattle.conditions.specs.declared.Condition.{Condition}
use Rattle.drive.specs.Records.{unsupported}
use Rattle.drive.specs.declared.Record.{Record}
use Rattle.bits.specs.Bits.{bits, bit}
use Rattle.bits.specs.Reserved.{is_named, some_unnamed}
use Rattle.bits.proofs.Ranges.{none_each, unnamed_none}
use Rattle.requests.specs.declared.Target.{Target}
use Rattle.requests.specs.declared.Target.TheVariants.{Stop, Start, GoTo}
use Rattle.cdb.specs.Cdb.{byte, power_condition, modifier, loej, start, wanted, fits, is_listed}
use Rattle.cdb.proofs.Decision.{AskFor, decided_exactly}
use Rattle.cdb.proofs.Requests.{fitting, listed_fits, listed_unreserved, listed_when}
use Rattle.cdb.proofs.Reserved.{named_in, reserved_exactly, unreserved}

pub record Listed (rs : List Record) (cdb : List ℕ) : Type 0 where
  -- "Reserved bits must be zero (H)."
  pub reserved : (i k : ℕ) → 1 ≤ i → i ≤ 4 → k < 8 → is_named k (named_in i) ≡ false → bit k (byte i cdb) ≡ false
  -- "byte 4 bits 7:4 power condition", "byte 3 bits 3:0 modifier", "bit 1 LOEJ, bit 0 START".
  pub target : Target
  pub asks : AskFor (bits 7 4 (byte 4 cdb)) (bits 3 0 (byte 3 cdb)) (bit 1 (byte 4 cdb)) (bit 0 (byte 4 cdb)) target
  -- "The condition must be supported."
  pub supported : (c : Condition) → target ≡ GoTo c → (get_or rs (place_of c) unsupported).supported ≡ true

fits_supported : (rs : List Record) (t : Target) → fits rs (Some t) ≡ true → (c : Condition) → t ≡ GoTo c
    → (get_or rs (place_of c) unsupported).supported ≡ true
fits_supported rs t h c e = rw e at h

supported_fits : (rs : List Record) (t : Target) → ((c : Condition) → t ≡ GoTo c → (get_or rs (place_of c) unsupported).supported ≡ true)
    → fits rs (Some t) ≡ true
supported_fits rs Stop h = refl
supported_fits rs Start h = refl
supported_fits rs (GoTo c) h = h c refl

-- A byte is below 256; the definition compares byte 2 as a number.
module _ (rs : List Record) (cdb : List ℕ) (small : byte 2 cdb < 256) where
  listed_has : is_listed rs cdb ≡ true → Listed rs cdb
  unfolding wanted
  listed_has h =
      let f = fitting rs (wanted cdb) (listed_fits rs cdb h) in
      let none = sym (reserved_exactly cdb small) ∙ listed_unreserved rs cdb h in
      record {
        reserved = λ i k from to below.
            unnamed_none 7 (named_in i) (byte i cdb) (none_each (λ i. some_unnamed 7 (named_in i) (byte i cdb)) 4 1 none i from to) k (le_of_suc-le-suc below);
        target = f.0;
        asks = (decided_exactly (power_condition cdb) (modifier cdb) (loej cdb) (start cdb) f.0).0 f.1;
        supported = fits_supported rs f.0 f.2;
      }

  has_listed : Listed rs cdb → is_listed rs cdb ≡ true
  unfolding wanted
  has_listed l =
      listed_when rs cdb l.target (unreserved cdb small l.reserved)
      ((decided_exactly (power_condition cdb) (modifier cdb) (loej cdb) (start cdb) l.target).1 l.asks)
      (supported_fits rs l.target l.supported)

  pub listed_exactly : (is_listed rs cdb ≡ true) ↔ Listed rs cdb
  listed_exactly = (listed_has, has_listed)
