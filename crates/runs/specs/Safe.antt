-- No byte left behind, told by the history alone: the calls and what they said. Only the last definition speaks of the unsaved mark.
use Rattle.std.specs.Prelude.{Bool, true, false, not, ◌&&◌, ◌≡◌, List, [], ◌∷◌, ◌↔◌, ℕ, ◌<◌, eqb, take, drop, Some, None, Option}
use Rattle.drive.specs.declared.Edition.{Edition}
use Rattle.drive.specs.declared.Made.{Made}
use Rattle.engine.specs.Engine.{manufacture_outcome}
use Rattle.requests.specs.declared.Target.TheVariants.{Stop, Start, GoTo}
use Rattle.cdb.specs.Cdb.{no_flush, wanted}
use Rattle.operations.specs.Operations.{is_good}
use Rattle.calls.specs.Calls.{Call, StepFunction, run_by}
use Rattle.calls.specs.Described.{is_power_on, is_write}
use Rattle.runs.specs.Deeds.{Deed, if_hands_out, if_ends, if_answered, does_a}
use Rattle.runs.specs.Past.{past_by, cdb_of, flush_sent}
use Rattle.requests.specs.declared.Target.{Target}

-- ---- what the latest call was

abbrev pub latest_wrote : List Deed → Bool
latest_wrote [] = false
latest_wrote (d ∷ past) = does_a is_write d

abbrev pub latest_powered_on : List Deed → Bool
latest_powered_on [] = false
latest_powered_on (d ∷ past) = does_a is_power_on d

-- A good answer to a flush.
abbrev pub latest_flushed : List Deed → Bool
latest_flushed [] = false
latest_flushed (d ∷ past) = if_answered (λ host reply. flush_sent host past && is_good reply) false d

-- ---- writes, by how many calls ago they came (0: the latest call)

abbrev pub WroteAgo : List Deed → ℕ → Type 0
WroteAgo past i = latest_wrote (drop i past) ≡ true

abbrev pub SincePowerOn : List Deed → ℕ → Type 0
SincePowerOn past i = (j : ℕ) → j < i → latest_powered_on (drop j past) ≡ false

-- A write is safe once a good flush was answered after it: one that was sent and answered among the calls since the write, which are the latest i.
abbrev pub Safe : List Deed → ℕ → Type 0
Safe past i = (j : ℕ) × (j < i) × (latest_flushed (drop j (take i past)) ≡ true)

-- Every write accepted since the last power-on is safe.
abbrev pub AllSafe : List Deed → Type 0
AllSafe past = (i : ℕ) → WroteAgo past i → SincePowerOn past i → Safe past i

-- Some write accepted since the last power-on is not.
pub record SomeUnsafe (past : List Deed) : Type 0 where
  pub ago : ℕ
  pub was_write : WroteAgo past ago
  pub since_power_on : SincePowerOn past ago
  pub not_safe : Safe past ago → ⊥

-- ---- the guarantee

-- A flushing operation: a stop or a go to, without NO_FLUSH.
abbrev pub flushing : Option Target → Bool → Bool
flushing None without = false
flushing (Some Stop) without = not without
flushing (Some Start) without = false
flushing (Some (GoTo c)) without = not without

abbrev pub asks_flush : List ℕ → Bool
asks_flush cdb = flushing (wanted cdb) (no_flush cdb)

-- The latest call hands out the last command of a flushing operation.
abbrev pub last_goes_out : List Deed → Bool
last_goes_out [] = false
last_goes_out (d ∷ past) = if_hands_out (λ host q. asks_flush (cdb_of host past) && not (eqb q.command 0xE7)) false d

-- The latest call is the good answer to it: a good answer that ends the operation.
abbrev pub last_answered_good : List Deed → Bool
last_answered_good [] = false
last_answered_good (d ∷ past) = if_ends (λ host reply report. asks_flush (cdb_of host past) && is_good reply) false d

-- Whenever a flushing operation's last command goes out, and when it is answered good, every write accepted since the last power-on is safe:
-- over any run of calls on a unit from its manufacture on.
abbrev pub NoByteLeftBehind : StepFunction → Type 0
NoByteLeftBehind by = (ed : Edition) (ms : List Made) (cs : List Call) → let past = past_by by (manufacture_outcome ed ms).unit cs in
    (last_goes_out past ≡ true → AllSafe past) × (last_answered_good past ≡ true → AllSafe past)

-- ---- the unsaved mark

-- It is set exactly when some write accepted since the last power-on is not safe, and clear exactly when every one is.
abbrev pub MarkTells : StepFunction → Type 0
MarkTells by = (ed : Edition) (ms : List Made) (cs : List Call) → let u = (manufacture_outcome ed ms).unit in
    (((run_by by u cs).unsaved ≡ true) ↔ SomeUnsafe (past_by by u cs)) × (((run_by by u cs).unsaved ≡ false) ↔ AllSafe (past_by by u cs))
