-- Document 02, request (vi): what is said of a unit's edition, of any step function that is handed over.
use Rattle.std.specs.Prelude.{Bool, true, false, ◌&&◌, ◌||◌, List, ◌≡◌, ℕ, ◌+◌, ◌<◌, ◌≤◌, eqb, leb, get_or}
use Rattle.bits.specs.Bits.{bits, bit}
use Rattle.drive.specs.Records.{unsupported}
use Rattle.drive.specs.declared.Edition.{Edition}
use Rattle.drive.specs.declared.Edition.TheVariants.{Draft, Published}
use Rattle.drive.specs.declared.Record.{Record}
use Rattle.unit.specs.Units.{is_out, well_formed, with_edition}
use Rattle.unit.specs.declared.Unit.{Unit}
use Rattle.calls.specs.Calls.{Call, tick, Outcome, StepFunction, run_by}
use Rattle.calls.specs.Described.{describe, is_tick, is_new_page}
use Rattle.calls.specs.Table.{is_epc}

-- "A unit is of one edition, fixed at manufacture": no call changes it.
abbrev pub EditionKept : StepFunction → Type 0
EditionKept by = (u : Unit) (c : Call) → (by u c).unit.edition ≡ u.edition

-- ---- how far timers and the idle count go

abbrev pub record_of : Unit → ℕ → Record
record_of u place = get_or u.drive.records place unsupported

-- No timer and no idle count is above a bound.
pub record Bounded (bound : ℕ) (u : Unit) : Type 0 where
  pub idle : u.drive.idle.0 ≤ bound
  pub default : (place : ℕ) → place < 5 → (record_of u place).default.timer.0 ≤ bound
  pub saved : (place : ℕ) → place < 5 → (record_of u place).saved.timer.0 ≤ bound
  pub current : (place : ℕ) → place < 5 → (record_of u place).current.timer.0 ≤ bound

-- What holds of a unit of either edition, by its bound: document 01's "65,535"; "In the new edition timers reach 39,321,000 and the idle count stays there".
abbrev pub ByEdition : (ℕ → Type 0) → Unit → Type 0
ByEdition P u = (u.edition ≡ Draft → P 65535) × (u.edition ≡ Published → P 39321000)

-- By no run does a timer or the idle count get above it.
abbrev pub NoneBeyond : StepFunction → Type 0
NoneBeyond by = (u : Unit) (cs : List Call) → well_formed u ≡ true → ByEdition (λ bound. Bounded bound (run_by by u cs)) u

-- A tick "adds 1 to the idle count, which stays at" the bound.
pub record CountsTo (bound : ℕ) (u v : Unit) : Type 0 where
  pub adds : u.drive.idle.0 < bound → v.drive.idle.0 ≡ u.drive.idle.0 + 1
  pub stays : u.drive.idle.0 ≡ bound → v.drive.idle.0 ≡ bound

abbrev pub TickCounts : StepFunction → Type 0
TickCounts by = (u : Unit) → well_formed u ≡ true → is_out u.out ≡ false → ByEdition (λ bound. CountsTo bound u (by u tick).unit) u

-- ---- the edition makes no other difference

-- The same outcome for a unit of this edition: the same is said, the same bytes are in the buffer, and the record left is the same but for the edition.
abbrev pub twin_of : Edition → Outcome → Outcome
twin_of ed o = record { said = o.said; unit = with_edition ed o.unit; buffer = o.buffer }

-- The calls that may tell the editions apart where no timer and no idle count is above 65,535:
abbrev pub tells_edition : Unit → Call → Bool
tells_edition u c =
    -- "11 .. for a new page asked of a draft unit or a page above 1": page 0 or 1;
    is_new_page c && leb (describe c).page 1
    -- "Subcommand 2h takes LBA bit 7 .. the draft still aborts on bit 7": 2h with bit 7 one;
    || is_epc c && (eqb (bits 3 0 (describe c).registers.lba) 2 && bit 7 (describe c).registers.lba)
    -- "In the new edition .. the idle count stays there": a tick at 65,535.
    || is_tick c && leb 65535 u.drive.idle.0

-- No other call does, on any such record (every well-formed draft one is such; it need not be well formed): a unit of either edition says and leaves the same.
abbrev pub EditionBlind : StepFunction → Type 0
EditionBlind by = (ed : Edition) (u : Unit) (c : Call) → Bounded 65535 u → tells_edition u c ≡ false → by (with_edition ed u) c ≡ twin_of ed (by u c)
