-- What the papers do not name: an opcode is number 7's, a reserved bit and a power condition number above 3h are number 8's, a reserved bit of an LBA and
-- a subcommand above 3h are number 10's, whatever the record and whatever else is asked for. (A lower number that applies comes first.)
use mathlib.Core.Path.{◌≡◌}
use mathlib.Core.Bool.{true, false, not, and-false}
use mathlib.Core.List.{List}
use Prim.Native.Nat.{ℕ, ◌≤◌, ◌<◌}
use borrow.Author.Tests.{ne_eqb}
use Rattle.bits.specs.Bits.{bits, bit}
use Rattle.bits.specs.Reserved.{is_named}
use Rattle.registers.specs.declared.Registers.{Registers}
use Rattle.refusals.specs.declared.Refusal.TheVariants.{BadOpcode, BadField, Aborted}
use Rattle.unit.specs.declared.Unit.{Unit}
use Rattle.epc.proofs.Reserved.{named_bits}
use Rattle.epc.proofs.Exactly.{reserved_aborts, unknown_aborts}
use Rattle.cdb.specs.Cdb.{byte, power_condition, modifier, loej, start, reserved_in_cdb, wanted, is_listed}
use Rattle.cdb.proofs.Reserved.{named_in, reserved_unlisted}
use Rattle.cdb.proofs.Decision.{above_three}
use Rattle.calls.specs.Calls.{set_features, start_stop}
use Rattle.calls.specs.Table.{applies_to}

module _ (u : Unit) (host : ℕ) (cdb : List ℕ) where
  -- "opcode not 1Bh".
  pub opcode_is_7 : (byte 0 cdb ≡ 0x1B → ⊥) → applies_to u (start_stop host cdb) BadOpcode ≡ true
  opcode_is_7 other = rw (ne_eqb (byte 0 cdb) 0x1B other)

  -- "Reserved bits must be zero": bit k of byte i.
  pub bit_is_8 : (i k : ℕ) → 1 ≤ i → i ≤ 4 → k < 8 → is_named k (named_in i) ≡ false → bit k (byte i cdb) ≡ true
      → applies_to u (start_stop host cdb) BadField ≡ true
  bit_is_8 i k from to below unnamed one = rw (reserved_unlisted u.drive.records cdb i k from to below unnamed one)

  -- "Anything else is refused."
  pub number_is_8 : 3 < power_condition cdb → applies_to u (start_stop host cdb) BadField ≡ true
  unfolding is_listed wanted
  number_is_8 above = rw (above_three (power_condition cdb) (modifier cdb) (loej cdb) (start cdb) above, and-false (not (reserved_in_cdb cdb)))

module _ (u : Unit) (q : Registers) where
  -- "a reserved bit is one".
  pub bit_is_10 : (k : ℕ) → k < 32 → is_named k (named_bits u.edition (bits 3 0 q.lba)) ≡ false → bit k q.lba ≡ true
      → applies_to u (set_features q) Aborted ≡ true
  bit_is_10 k below unnamed one = rw (reserved_aborts u.edition q u.drive.records k below unnamed one)

  -- "subcommand above 3h".
  pub sub_is_10 : 3 < bits 3 0 q.lba → applies_to u (set_features q) Aborted ≡ true
  sub_is_10 above = rw (unknown_aborts u.edition q u.drive.records above)
