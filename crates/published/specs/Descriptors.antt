-- Document 02, request (vi): the two log pages of published ACS-2, "64-byte descriptors with 32-bit timers". No unit is needed.
use Rattle.std.specs.Prelude.{Bool, true, cond, List, [], ◌∷◌, ◌++◌, ℕ, ◌+◌, ◌/◌, ◌%◌, eqb, ltb, get_or, replicate}
use Rattle.conditions.specs.Conditions.{place_of}
use Rattle.conditions.specs.declared.Condition.{Condition}
use Rattle.conditions.specs.declared.Condition.TheVariants.{IdleA, IdleB, IdleC, StandbyY, StandbyZ}
use Rattle.drive.specs.Records.{unsupported}
use Rattle.drive.specs.declared.Edition.{Edition}
use Rattle.drive.specs.declared.Edition.TheVariants.{Draft, Published}
use Rattle.drive.specs.declared.Record.{Record}
use Rattle.pages.specs.Logs.{flag_at}

-- ---- a descriptor

-- "byte 1 flags from bit 7 down supported, saveable, changeable, default on, saved on, current on".
abbrev pub flag_byte : Record → ℕ
flag_byte r =
    flag_at 7 r.supported + flag_at 6 r.saveable + flag_at 5 r.changeable
    + flag_at 4 r.default.enabled + flag_at 3 r.saved.enabled + flag_at 2 r.current.enabled

-- "recovery in tenths of a second (the record's milliseconds rounded up)".
abbrev pub tenths_up : ℕ → ℕ
tenths_up millis = (millis + 99) / 100

-- "each four bytes, low first".
abbrev pub low_first : ℕ → List ℕ
low_first n = (n % 256) ∷ (n / 256 % 256) ∷ (n / 256 / 256 % 256) ∷ (n / 256 / 256 / 256 % 256) ∷ []

-- "byte 1 flags ..; bytes 4, 8, 12 the default, saved and current timers, byte 16 recovery".
abbrev pub named_bytes : Record → List ℕ
named_bytes r =
    (0 ∷ flag_byte r ∷ 0 ∷ 0 ∷ [])
    ++ low_first r.default.timer.0 ++ low_first r.saved.timer.0 ++ low_first r.current.timer.0
    ++ low_first (tenths_up r.recovery.0)

-- "64-byte descriptors", "all else zero here".
unfoldable pub descriptor : Record → List ℕ
descriptor r = named_bytes r ++ replicate 44 0

-- ---- the pages

abbrev pub described : List Record → Condition → List ℕ
described rs c = descriptor (get_or rs (place_of c) unsupported)

-- "page 0 has Idle_A, Idle_B, Idle_C at bytes 0, 64, 128; page 1 has Standby_y at 384, Standby_z at 448." A page above 1 is never made: number 11.
unfoldable pub descriptor_page : ℕ → List Record → List ℕ
descriptor_page number rs =
    cond (eqb number 0) (described rs IdleA ++ described rs IdleB ++ described rs IdleC ++ replicate 320 0)
    (replicate 384 0 ++ described rs StandbyY ++ described rs StandbyZ)

-- 11: "a new page asked of a draft unit or a page above 1".
abbrev pub lacks_page : Edition → ℕ → Bool
lacks_page Draft number = true
lacks_page Published number = ltb 1 number
