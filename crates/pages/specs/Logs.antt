-- Document 01, "Sense and log bytes": the Power Conditions log page; document 02, request (vi), of the page of a published unit.
use Rattle.std.specs.Prelude.{Bool, cond, List, [], ◌∷◌, ◌++◌, ℕ, ◌+◌, ◌-◌, ◌/◌, ◌%◌, ◌^◌, ltb, length, replicate}
use Rattle.conditions.specs.declared.Condition.{Condition}
use Rattle.conditions.specs.declared.Condition.TheVariants.{IdleA, IdleB, IdleC, StandbyY, StandbyZ}
use Rattle.drive.specs.declared.Record.{Record}

-- "256 words, low byte first".
abbrev pub bytes_of : List ℕ → List ℕ
bytes_of [] = []
bytes_of (w ∷ ws) = (w % 256) ∷ (w / 256 % 256) ∷ bytes_of ws

-- A flag in its bit of a word.
abbrev pub flag_at : ℕ → Bool → ℕ
flag_at bit flag = cond flag (2 ^ bit) 0

-- A timer's word: "the old page asked of a new unit shows FFFFh for more than 65,535".
abbrev pub timer_word : ℕ → ℕ
timer_word tenths = cond (ltb 65535 tenths) 0xFFFF tenths

-- "+0 recovery; +1 bit 15 supported, 14 saveable, 13 changeable; +2 default flag in bit 15, +3 default timer; +4, +5 saved; +6, +7 current."
abbrev pub named_words : Record → List ℕ
named_words r =
    r.recovery.0
    ∷ (flag_at 15 r.supported + flag_at 14 r.saveable + flag_at 13 r.changeable)
    ∷ flag_at 15 r.default.enabled ∷ timer_word r.default.timer.0
    ∷ flag_at 15 r.saved.enabled ∷ timer_word r.saved.timer.0
    ∷ flag_at 15 r.current.enabled ∷ timer_word r.current.timer.0
    ∷ []

-- "Idle_A starts at word 00h, Idle_B 10h, Idle_C 20h (001), Standby_y 30h, Standby_z 40h (H)": sixteen words a condition, in falling power.
abbrev pub log_place : Condition → ℕ
log_place IdleA = 0x00
log_place IdleB = 0x10
log_place IdleC = 0x20
log_place StandbyY = 0x30
log_place StandbyZ = 0x40

unfoldable pub logged_words : List Record → List ℕ
logged_words [] = []
logged_words (r ∷ rs) = named_words r ++ replicate 8 0 ++ logged_words rs

-- "The log page is 256 words .. one 512-byte page built whole .. All else is zero."
unfoldable pub log_words : List Record → List ℕ
log_words rs = logged_words rs ++ replicate (256 - length (logged_words rs)) 0

unfoldable pub log_bytes : List Record → List ℕ
log_bytes rs = bytes_of (log_words rs)
