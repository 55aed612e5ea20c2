-- What the bytes of the two new pages say, read where they lie: document 02, request (vi), from the pages' side.
use Rattle.std.specs.Prelude.{◌≡◌, cond, List, map, ℕ, ◌+◌, ◌*◌, eqb, get_or}
use Rattle.bits.specs.Bits.{bit}
use Rattle.conditions.specs.Conditions.{falling}
use Rattle.conditions.specs.declared.Condition.{Condition}
use Rattle.conditions.specs.declared.Condition.TheVariants.{IdleA, IdleB, IdleC, StandbyY, StandbyZ}
use Rattle.drive.specs.declared.Setting.{Setting}
use Rattle.drive.specs.declared.Record.{Record}
use Rattle.published.specs.Descriptors.{tenths_up}

-- "page 0 has Idle_A, Idle_B, Idle_C at bytes 0, 64, 128; page 1 has Standby_y at 384, Standby_z at 448": the table of places.
abbrev pub new_page_of : Condition → ℕ
new_page_of IdleA = 0
new_page_of IdleB = 0
new_page_of IdleC = 0
new_page_of StandbyY = 1
new_page_of StandbyZ = 1

abbrev pub byte_of : Condition → ℕ
byte_of IdleA = 0
byte_of IdleB = 64
byte_of IdleC = 128
byte_of StandbyY = 384
byte_of StandbyZ = 448

-- ---- a descriptor

-- "each four bytes, low first": the number that stands at a byte.
abbrev pub low_first_at : List ℕ → ℕ → ℕ
low_first_at page at = get_or page at 0 + 256 * get_or page (at + 1) 0 + 65536 * get_or page (at + 2) 0 + 16777216 * get_or page (at + 3) 0

-- A setting of the descriptor at a byte: its flag is a bit of byte 1, its timer stands so many bytes on.
abbrev pub descriptor_setting : List ℕ → ℕ → ℕ → ℕ → Setting
descriptor_setting page at flag timer = record { enabled = bit flag (get_or page (at + 1) 0); timer = record { 0 = low_first_at page (at + timer) } }

-- "byte 1 flags from bit 7 down supported, saveable, changeable, default on, saved on, current on; bytes 4, 8, 12 the default, saved and current
-- timers, byte 16 recovery in tenths of a second", which are 100 milliseconds each.
abbrev pub descriptor_record : List ℕ → ℕ → Record
descriptor_record page at = record {
  supported = bit 7 (get_or page (at + 1) 0);
  saveable = bit 6 (get_or page (at + 1) 0);
  changeable = bit 5 (get_or page (at + 1) 0);
  recovery = record { 0 = 100 * low_first_at page (at + 16) };
  default = descriptor_setting page at 4 4;
  saved = descriptor_setting page at 3 8;
  current = descriptor_setting page at 2 12;
}

-- A condition's record as the two pages have it, and those of the five.
abbrev pub new_page_record : List ℕ → List ℕ → Condition → Record
new_page_record page0 page1 c = descriptor_record (cond (eqb (new_page_of c) 0) page0 page1) (byte_of c)

abbrev pub new_page_records : List ℕ → List ℕ → List Record
new_page_records page0 page1 = map (new_page_record page0 page1) falling

-- ---- what the new pages can show of a record

-- "recovery in tenths of a second (the record's milliseconds rounded up)"; all else is as it is.
abbrev pub rounded_up : Record → Record
rounded_up r = record {
  supported = r.supported;
  saveable = r.saveable;
  changeable = r.changeable;
  recovery = record { 0 = 100 * tenths_up r.recovery.0 };
  default = r.default;
  saved = r.saved;
  current = r.current;
}

-- Two records that are the same but for their recovery times, and these round up to the same tenth.
pub record SameToTheTenth (r s : Record) : Type 0 where
  pub supported : r.supported ≡ s.supported
  pub saveable : r.saveable ≡ s.saveable
  pub changeable : r.changeable ≡ s.changeable
  pub recovery : tenths_up r.recovery.0 ≡ tenths_up s.recovery.0
  pub default : r.default ≡ s.default
  pub saved : r.saved ≡ s.saved
  pub current : r.current ≡ s.current
