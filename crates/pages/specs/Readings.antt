-- What the words of a log page say, read where they lie: document 01, "Sense and log bytes", from the page's side.
use Rattle.std.specs.Prelude.{List, map, ℕ, ◌+◌, ◌*◌, get_or}
use Rattle.bits.specs.Bits.{bit}
use Rattle.conditions.specs.Conditions.{falling}
use Rattle.conditions.specs.declared.Condition.{Condition}
use Rattle.drive.specs.declared.Setting.{Setting}
use Rattle.drive.specs.declared.Record.{Record}
use Rattle.pages.specs.Logs.{timer_word, log_place}

-- "256 words, low byte first": the word at a place.
abbrev pub page_word : List ℕ → ℕ → ℕ
page_word page w = get_or page (2 * w) 0 + 256 * get_or page (2 * w + 1) 0

-- "flag in bit 15", the timer in the word after it.
abbrev pub page_setting : List ℕ → ℕ → Setting
page_setting page w = record { enabled = bit 15 (page_word page w); timer = record { 0 = page_word page (w + 1) } }

-- "In each: +0 recovery; +1 bit 15 supported, 14 saveable, 13 changeable; +2 default flag in bit 15, +3 default timer; +4, +5 saved; +6, +7 current."
abbrev pub record_from : List ℕ → ℕ → Record
record_from page w = record {
  supported = bit 15 (page_word page (w + 1));
  saveable = bit 14 (page_word page (w + 1));
  changeable = bit 13 (page_word page (w + 1));
  recovery = record { 0 = page_word page w };
  default = page_setting page (w + 2);
  saved = page_setting page (w + 4);
  current = page_setting page (w + 6);
}

-- A condition's record as the page has it, and those of the five.
abbrev pub page_record : List ℕ → Condition → Record
page_record page c = record_from page (log_place c)

abbrev pub page_records : List ℕ → List Record
page_records page = map (page_record page) falling

-- ---- what our page can show of a record

-- Document 02, request (vi): "the old page asked of a new unit shows FFFFh for more than 65,535"; the flag is as it is.
abbrev pub setting_shown : Setting → Setting
setting_shown s = record { enabled = s.enabled; timer = record { 0 = timer_word s.timer.0 } }

abbrev pub record_shown : Record → Record
record_shown r = record {
  supported = r.supported;
  saveable = r.saveable;
  changeable = r.changeable;
  recovery = r.recovery;
  default = setting_shown r.default;
  saved = setting_shown r.saved;
  current = setting_shown r.current;
}
