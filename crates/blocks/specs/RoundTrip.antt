-- The format page: `show` prints "a `unit` block that would set it". Assumes nothing.
use Rattle.std.specs.Prelude.{◌≡◌, length}
use Rattle.unit.specs.declared.Unit.{Unit}
use Rattle.blocks.specs.Parts.{set_up}
use Rattle.asked.specs.Records.{parts_of}

-- A unit whose arrays have their lengths, as every unit of the code has.
pub record Whole (u : Unit) : Type 0 where
  pub records : length u.drive.records ≡ 5
  pub counts : length u.drive.counts ≡ 12
  pub slots : length u.slots ≡ 4
  pub held : length u.held ≡ 4

-- The parts of a record, set one after another in a block, make the same record.
abbrev pub SetsTheSame : Type 0
SetsTheSame = (u : Unit) → Whole u → set_up (parts_of u) ≡ u
