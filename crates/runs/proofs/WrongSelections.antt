-- Wrong selections (document 02, request (iv)): step functions that do as the layer does but for a subcommand with Count FFh, each refuted by a run that is
-- computed.
use Rattle.std.proofs.Common.{Ok}
use mathlib.Core.Bool.{Bool, true, false, not, ◌&&◌, cond, true≢false, false≢true}
use mathlib.Core.Path.{ap, refl}
use mathlib.Core.List.{List, [], ◌∷◌}
use Prim.Native.Nat.{ℕ}
use lib.Dec.{eqb}
use lib.ListN.{get_or, replicate}
use Rattle.rows.specs.Rows.{some_at, map_at}
use Rattle.drive.specs.Drives.{with_records}
use Rattle.drive.specs.declared.Edition.{Edition}
use Rattle.drive.specs.declared.Record.{Record}
use Rattle.registers.specs.Commands.{named}
use Rattle.registers.specs.declared.Registers.{Registers}
use Rattle.registers.specs.declared.Named.TheVariants.{Every}
use Rattle.epc.specs.Epc.{sub_of, save, selects, is_unknown, is_go_to, is_every, reserved_in_lba, changed}
use Rattle.refusals.specs.declared.Refusal.TheVariants.{Aborted}
use Rattle.unit.specs.Units.{is_out, well_formed, rested, with_drive}
use Rattle.unit.specs.declared.Unit.{Unit}
use Rattle.calls.specs.Calls.{Call, plain, Outcome, outcome, StepFunction}
use Rattle.calls.specs.Described.{describe}
use Rattle.calls.specs.Examples.{*e, on, quiet, holding, epc_call, done, aborted, Examples}
use Rattle.calls.specs.Facts.{every_none, allowing, with_idle_ab, Facts}
use Rattle.calls.specs.Table.{is_epc, verdict_in, is_clear, Numbers}
use Rattle.calls.proofs.Numbers.{numbers_given}
use Rattle.runs.specs.Serial.{Compared, Demand3}
use Rattle.runs.proofs.Computed.{computed}
use Rattle.runs.proofs.WrongPrograms.{saying}

-- ---- the wrong programs

abbrev lba_of : Call → ℕ
lba_of c = (describe c).registers.lba

-- The call is a subcommand with Count FFh,
abbrev is_for_every : Call → Bool
is_for_every c = is_epc c && is_every (named (describe c).registers.count)

-- and is accepted.
abbrev every_done : Unit → Call → Bool
every_done u c = is_for_every c && is_clear (verdict_in (outcome u c).said)

-- One that aborts where a supported condition passes this test, by the LBA.
abbrev aborts_for : (ℕ → Record → Bool) → StepFunction
aborts_for test u c =
    cond (every_done u c && some_at (λ place r. r.supported && test (lba_of c) r) 0 u.drive.records) (aborted (rested u)) (outcome u c)

-- As before the request: it aborts where a supported condition is not changeable (a fixed Idle_A),
abbrev pub aborts_fixed : StepFunction
aborts_fixed = aborts_for (λ lba r. not r.changeable)

-- or, with bit 4, where one is not saveable, selected or not.
abbrev pub looks_at_all : StepFunction
looks_at_all = aborts_for (λ lba r. save lba && not r.saveable)

-- The record after the subcommand has changed the conditions that pass this test.
abbrev changed_where : (ℕ → Record → Bool) → Call → Unit → Unit
changed_where test c u =
    let change : ℕ → Record → Record = λ place r. cond (test place r) (changed (sub_of (lba_of c)) (lba_of c) r) r in
    rested (with_drive (with_records (map_at change 0 u.drive.records) u.drive) u)

-- It changes one that is not changeable: every supported condition.
abbrev pub changes_fixed : StepFunction
changes_fixed u c = cond (every_done u c) (done (changed_where (λ place r. r.supported) c u)) (outcome u c)

abbrev registers_right : Edition → Registers → Bool
registers_right ed q =
    eqb q.command 0xEF && eqb q.feature 0x4A && not (is_unknown (sub_of q.lba)) && not (reserved_in_lba ed (sub_of q.lba) q.lba)

-- Only 10 can refuse the call, and not for its registers.
abbrev is_right : Unit → Call → Bool
is_right u c = is_for_every c && registers_right u.edition (describe c).registers && well_formed u && not (is_out u.out)

-- With bit 4 it passes over a selected condition that is not saveable, and changes the others.
abbrev pub passes_over : StepFunction
passes_over u c =
    let chosen : ℕ → Record → Bool = λ place r. selects (sub_of (lba_of c)) Every place r && r.saveable in
    cond (is_right u c && save (lba_of c) && some_at chosen 0 u.drive.records) (done (changed_where chosen c u)) (outcome u c)

-- One that says that it is done where this test holds of record and LBA.
abbrev takes_for : (Unit → ℕ → Bool) → StepFunction
takes_for test u c = cond (is_right u c && test u (lba_of c)) (saying (plain (Ok tt)) (outcome u c)) (outcome u c)

-- It accepts FFh where none is changeable,
abbrev pub accepts_none : StepFunction
accepts_none = takes_for (λ u lba. not (is_go_to (sub_of lba)) && not (some_at (λ place r. r.changeable) 0 u.drive.records))

-- or for a go to, where some condition is supported.
abbrev pub goes_to_every : StepFunction
goes_to_every = takes_for (λ u lba. is_go_to (sub_of lba) && some_at (λ place r. r.supported) 0 u.drive.records)

-- ---- refuted

-- A disk with a fixed Idle_A; whether that is saveable is given. "All conditions off", and the same with bit 4.
abbrev fixed : Bool → Unit
fixed saves = with_idle_ab (allowing saves false (on 10)) (allowing true true (on 20))

abbrev all_off : List Call
all_off = epc_call 0xFF 0x3 ∷ []

abbrev all_off_saved : List Call
all_off_saved = epc_call 0xFF 0x13 ∷ []

-- Whether the condition at this place is on.
abbrev is_on : ℕ → Compared → Bool
is_on place k = (get_or k.settings place quiet).current.enabled

-- Idle_B stays on where it is to go off,
pub aborts_fixed_fails_demand_3 : Demand3 aborts_fixed → ⊥
unfolding computed
aborts_fixed_fails_demand_3 holds = true≢false (ap (is_on 1) (holds (fixed true) all_off refl refl refl refl))

pub looks_at_all_fails_demand_3 : Demand3 looks_at_all → ⊥
unfolding computed
looks_at_all_fails_demand_3 holds = true≢false (ap (is_on 1) (holds (fixed false) all_off_saved refl refl refl refl))

-- and Idle_A goes off where it is to stay.
pub changes_fixed_fails_demand_3 : Demand3 changes_fixed → ⊥
unfolding computed
changes_fixed_fails_demand_3 holds = false≢true (ap (is_on 0) (holds (fixed true) all_off refl refl refl refl))

-- Idle_A goes off, and nothing is to change.
pub passes_over_fails_demand_3 : Demand3 passes_over → ⊥
unfolding computed
passes_over_fails_demand_3 holds =
    false≢true (ap (is_on 0) (holds (with_idle_ab (allowing true true (on 10)) (allowing false true (on 20))) all_off_saved refl refl refl refl))

-- The two that say "done" leave the record that the abort leaves, and are told by what they say. The numbers have 10 where none is changeable,
pub accepts_none_fails_numbers : Numbers accepts_none → ⊥
unfolding computed
accepts_none_fails_numbers holds =
    let u = holding (replicate 5 (allowing true false (on 9))) in
    true≢false (ap is_clear ((holds u (epc_call 0xFF 0x3) Aborted).1 ((numbers_given u (epc_call 0xFF 0x3) Aborted).0 refl)))

pub accepts_none_fails_facts : Facts accepts_none → ⊥
unfolding computed
accepts_none_fails_facts holds = true≢false (ap (λ (o : Outcome). is_clear (verdict_in o.said)) (holds every_none))

-- and example e has it of a go to with FFh.
pub goes_to_every_fails_e : Examples goes_to_every → ⊥
unfolding computed
goes_to_every_fails_e holds = true≢false (ap (λ (o : Outcome). is_clear (verdict_in o.said)) (holds *e))
