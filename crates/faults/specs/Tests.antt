-- Document 02, request (v): what is wrong at a word of another maker's log page, one test a kind, each under its words.
use Rattle.std.specs.Prelude.{ℕ, ◌/◌, ◌%◌, Bool, not, ◌&&◌, ◌||◌, List, ◌==◌, nat_le, nat_lt}
use Rattle.std.specs.Bool.{beq}
use Rattle.bits.specs.Bits.{some_one}
use Rattle.conditions.specs.Conditions.{condition_at}
use Rattle.conditions.specs.declared.Condition.{Condition}
use Rattle.drive.specs.Records.{others_zero}
use Rattle.drive.specs.declared.Setting.{Setting}
use Rattle.drive.specs.declared.Record.{Record}
use Rattle.pages.specs.Readings.{page_word, page_setting, page_record}
use Rattle.faults.specs.declared.FaultKind.{FaultKind}
use Rattle.faults.specs.declared.FaultKind.TheVariants.{ReservedWord, ReservedBits, SetUnsupported, NoTimer, SavedOff}

-- "in the order just named": a kind's number is its place in that order, from 0.
abbrev pub kind_number : FaultKind → ℕ
kind_number ReservedWord = 0
kind_number ReservedBits = 1
kind_number SetUnsupported = 2
kind_number NoTimer = 3
kind_number SavedOff = 4

-- ---- where a word stands

-- The five conditions have the words before 50h, sixteen each: this one is "+k" of its condition.
abbrev pub is_at : ℕ → ℕ → Bool
is_at k w = nat_lt w 0x50 && w % 16 == k

-- The condition that a word before 50h is one of.
abbrev pub owner_of : ℕ → Condition
owner_of w = condition_at (w / 16)

-- Reserved are +8 to +15 of each condition, and the words 50h to FFh. 001 lists them but for 38h and 48h; document 01: "All else is zero."
abbrev pub is_reserved_word : ℕ → Bool
is_reserved_word w = nat_le 0x50 w || nat_le 8 (w % 16)

-- The flag word of a setting: default's, saved's, current's.
abbrev pub is_setting_word : ℕ → Bool
is_setting_word w = is_at 2 w || is_at 4 w || is_at 6 w

-- ---- the five kinds

-- "nonzero reserved word".
abbrev pub is_nonzero_reserved : List ℕ → ℕ → Bool
is_nonzero_reserved page w = is_reserved_word w && not (page_word page w == 0)

-- "flag word with reserved bits": of +1 bits 12:0, of +2, +4 and +6 bits 14:0 (001). Of the standby conditions' +2, +4 and +6 that is bits 7:0 too, where
-- 001 has a timer in other units: document 01 names bit 15 alone.
abbrev pub has_reserved_bits : List ℕ → ℕ → Bool
has_reserved_bits page w = (is_at 1 w && some_one 12 0 (page_word page w)) || (is_setting_word w && some_one 14 0 (page_word page w))

-- "unsupported condition with another named bit or number set". A record has no reserved bits, so they do not count.
abbrev pub is_set_unsupported : Record → Bool
is_set_unsupported r = not r.supported && not (others_zero r)

-- "enabled setting with timer zero".
abbrev pub enabled_without_timer : Setting → Bool
enabled_without_timer s = s.enabled && s.timer.0 == 0

-- The same flag and the same timer.
abbrev pub is_same_setting : Setting → Setting → Bool
is_same_setting s t = beq s.enabled t.enabled && s.timer.0 == t.timer.0

-- "saved different from default", in the flag or in the timer, "on a condition not saveable".
abbrev pub is_saved_off : Record → Bool
is_saved_off r = not r.saveable && not (is_same_setting r.saved r.default)

-- Whether the page has a fault of that kind at that word: "nonzero reserved word, flag word with reserved bits, unsupported condition with another
-- named bit or number set (once, at +1), enabled setting with timer zero (at its flag word), saved different from default on a condition not
-- saveable (once, at +4)".
unfoldable pub is_fault : List ℕ → FaultKind → ℕ → Bool
is_fault page ReservedWord w = is_nonzero_reserved page w
is_fault page ReservedBits w = has_reserved_bits page w
is_fault page SetUnsupported w = is_at 1 w && is_set_unsupported (page_record page (owner_of w))
is_fault page NoTimer w = is_setting_word w && enabled_without_timer (page_setting page w)
is_fault page SavedOff w = is_at 4 w && is_saved_off (page_record page (owner_of w))
