-- Document 01, "EPC registers": what SET FEATURES EPC selects, when it aborts and what it changes; document 02, requests (iv) and (vi).
use Rattle.std.specs.Prelude.{Bool, true, false, not, ◌&&◌, ◌||◌, cond, List, ℕ, ◌*◌, eqb}
use Rattle.rows.specs.Rows.{some_at, map_at}
use Rattle.conditions.specs.Conditions.{place_of}
use Rattle.drive.specs.Drives.{with_settings, with_records, entered, restarted}
use Rattle.conditions.specs.declared.Cause.TheVariants.{Command}
use Rattle.conditions.specs.declared.Power.TheVariants.{Low}
use Rattle.drive.specs.declared.Edition.{Edition}
use Rattle.drive.specs.declared.Edition.TheVariants.{Draft, Published}
use Rattle.drive.specs.declared.Setting.{Setting}
use Rattle.drive.specs.declared.Record.{Record}
use Rattle.drive.specs.declared.Drive.{Drive}
use Rattle.bits.specs.Bits.{bits, bit, some_one}
use Rattle.registers.specs.Commands.{named}
use Rattle.registers.specs.declared.Registers.{Registers}
use Rattle.epc.specs.declared.Sub.{Sub}
use Rattle.epc.specs.declared.Sub.TheVariants.{Restore, GoTo, SetTimer, SetState, Unknown}
use Rattle.registers.specs.declared.Named.{Named}
use Rattle.registers.specs.declared.Named.TheVariants.{One, Every, Unlisted}

-- ---- the registers

-- "LBA bits 3:0 are the subcommand": "0h restore", "1h go to", "2h timer", "3h state".
abbrev pub sub_of : ℕ → Sub
sub_of lba =
    cond (eqb (bits 3 0 lba) 0) Restore
    (cond (eqb (bits 3 0 lba) 1) GoTo
    (cond (eqb (bits 3 0 lba) 2) SetTimer
    (cond (eqb (bits 3 0 lba) 3) SetState Unknown)))

-- "Other LBA bits": "6 from default", "5 enable", "4 save", "23:8 timer".
abbrev pub from_default : ℕ → Bool
from_default lba = bit 6 lba

abbrev pub enable : ℕ → Bool
enable lba = bit 5 lba

abbrev pub save : ℕ → Bool
save lba = bit 4 lba

-- Document 02, request (vi): "Subcommand 2h takes LBA bit 7: one means minutes, 600 tenths each."
abbrev pub minutes : ℕ → Bool
minutes lba = bit 7 lba

-- Only a published unit comes here with bit 7.
abbrev pub timer_in : ℕ → ℕ
timer_in lba = cond (minutes lba) (600 * bits 23 8 lba) (bits 23 8 lba)

-- Of 2h, a reserved bit below the timer: "the draft still aborts on bit 7".
abbrev pub reserved_below : Edition → ℕ → Bool
reserved_below Draft lba = some_one 7 6 lba
reserved_below Published lba = some_one 6 6 lba

-- "Bits not named are reserved": LBA comes as 32 bits, of which no subcommand names one above 23. An unknown
-- subcommand names none; it aborts before its bits are looked at.
abbrev pub reserved_in_lba : Edition → Sub → ℕ → Bool
reserved_in_lba e Restore lba = some_one 5 5 lba || some_one 31 7 lba
reserved_in_lba e GoTo lba = some_one 31 4 lba
reserved_in_lba e SetTimer lba = reserved_below e lba || some_one 31 24 lba
reserved_in_lba e SetState lba = some_one 31 6 lba
reserved_in_lba e Unknown lba = false

abbrev pub is_unknown : Sub → Bool
is_unknown Restore = false
is_unknown GoTo = false
is_unknown SetTimer = false
is_unknown SetState = false
is_unknown Unknown = true

abbrev pub is_go_to : Sub → Bool
is_go_to Restore = false
is_go_to GoTo = true
is_go_to SetTimer = false
is_go_to SetState = false
is_go_to Unknown = false

abbrev pub is_unlisted : Named → Bool
is_unlisted (One c) = false
is_unlisted Every = false
is_unlisted Unlisted = true

abbrev pub is_every : Named → Bool
is_every (One c) = false
is_every Every = true
is_every Unlisted = false

-- ---- what is selected

-- Whether a subcommand with this Count selects the condition at a place; the abort's clauses and the effect both go by this. Count names one condition,
-- or is FFh, of which document 02, request (iv), says: "For subcommands 0h, 2h and 3h FFh now selects the supported and changeable conditions". For a go
-- to, which aborts with FFh, document 01's "FFh every supported one" stands.
abbrev pub selects : Sub → Named → ℕ → Record → Bool
selects sub (One c) place r = eqb place (place_of c)
selects sub Every place r = r.supported && (is_go_to sub || r.changeable)
selects sub Unlisted place r = false

-- ---- the abort

-- Some selected condition fails the test.
abbrev pub selected_without : (Record → Bool) → Sub → Named → List Record → Bool
selected_without has sub n rs = some_at (λ place r. selects sub n place r && not (has r)) 0 rs

-- "Aborted exactly if:"
unfoldable pub aborts : Edition → Registers → List Record → Bool
aborts e q rs =
    -- "command or feature differs;"
    not (eqb q.command 0xEF) || not (eqb q.feature 0x4A)
    -- "subcommand above 3h;"
    || is_unknown (sub_of q.lba)
    -- "a reserved bit is one;"
    || reserved_in_lba e (sub_of q.lba) q.lba
    -- "Count not listed;"
    || is_unlisted (named q.count)
    -- "no selected condition, or one unsupported;" of FFh, request (iv): "and aborts if there are none".
    || not (some_at (selects (sub_of q.lba) (named q.count)) 0 rs) || selected_without (λ r. r.supported) (sub_of q.lba) (named q.count) rs
    -- "go to with FFh;"
    || is_go_to (sub_of q.lba) && is_every (named q.count)
    -- "for 0h, 2h, 3h, any selected one not changeable;"
    || not (is_go_to (sub_of q.lba)) && selected_without (λ r. r.changeable) (sub_of q.lba) (named q.count) rs
    -- "bit 4 one and any selected one not saveable." Of FFh, request (iv): "any selected one that isn't saveable still aborts everything".
    || save q.lba && selected_without (λ r. r.saveable) (sub_of q.lba) (named q.count) rs

-- ---- "Effect on each selected condition"

-- "current becomes default (bit 6 one) or saved; with bit 4, saved takes the same setting".
abbrev pub restored_from : ℕ → Record → Setting
restored_from lba r = cond (from_default lba) r.default r.saved

-- "current timer set; flag is enable and timer nonzero; bit 4: saved likewise".
abbrev pub timer_set : ℕ → Setting
timer_set lba = record { enabled = enable lba && not (eqb (timer_in lba) 0); timer = record { 0 = timer_in lba } }

-- "current flag is enable and current timer nonzero; bit 4: saved flag likewise from the saved timer".
abbrev pub flag_set : ℕ → Setting → Setting
flag_set lba s = record { enabled = enable lba && not (eqb s.timer.0 0); timer = s.timer }

-- Without bit 4 the saved setting stays.
abbrev pub saved_too : ℕ → Setting → Record → Setting
saved_too lba s r = cond (save lba) s r.saved

abbrev pub changed : Sub → ℕ → Record → Record
changed Restore lba r = with_settings (saved_too lba (restored_from lba r) r) (restored_from lba r) r
changed GoTo lba r = r
changed SetTimer lba r = with_settings (saved_too lba (timer_set lba) r) (timer_set lba) r
changed SetState lba r = with_settings (saved_too lba (flag_set lba r.saved) r) (flag_set lba r.current) r
changed Unknown lba r = r

abbrev pub changed_at : Registers → ℕ → Record → Record
changed_at q place r = cond (selects (sub_of q.lba) (named q.count) place r) (changed (sub_of q.lba) q.lba r) r

-- "unit enters the condition, cause command".
abbrev pub gone_to : Named → Drive → Drive
gone_to (One c) d = entered (Low c Command) d
gone_to Every d = d
gone_to Unlisted d = d

-- An accepted subcommand; it, like an aborted one, "sets the idle count to 0".
unfoldable pub performed : Registers → Drive → Drive
performed q d =
    cond (is_go_to (sub_of q.lba)) (gone_to (named q.count) (restarted d))
    (with_records (map_at (changed_at q) 0 d.records) (restarted d))
