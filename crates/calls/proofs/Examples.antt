-- The marked examples of document 01 hold of the calls' outcomes: each is computed. A step that changes nothing fails them.
use mathlib.Core.Path.{◌≡◌, refl, ap}
use Prim.Native.Nat.{ℕ}
use native.Mathlib.Omega.{arith}
use lib.ListN.{get_or}
use Rattle.conditions.specs.Conditions.{place_of}
use Rattle.conditions.specs.declared.Condition.TheVariants.{IdleB}
use Rattle.drive.specs.Records.{record_well_formed, records_well_formed, drive_well_formed}
use Rattle.drive.specs.Drives.{timers_ask, ticked, used, made}
use Rattle.senses.specs.Senses.{sense_bytes}
use Rattle.epc.specs.Epc.{aborts, performed}
use Rattle.unit.specs.Units.{hosts_well_formed, well_formed}
use Rattle.refusals.specs.Refusals.{lowest}
use Rattle.engine.specs.Engine.{epc_outcome, tick_outcome, write_outcome}
use Rattle.readouts.specs.Readouts.{sense_outcome}
use Rattle.cdb.specs.Cdb.{wanted, is_listed}
use Rattle.exchange.specs.Answered.{answered_for}
use Rattle.bridge.specs.Bridge.{start_stop_outcome}
use Rattle.exchange.specs.Exchange.{next_outcome, answer_outcome}
use Rattle.calls.specs.Calls.{Outcome, outcome, StepFunction}
use Rattle.calls.specs.Examples.{*a, *b, *c, *d, *e, *f, *g19, *g20, *g49, *g50, *h, *i1, *i2, *j1, *j2, *j3, *k, *l, *m, untouched, quiet, Examples}

-- The examples marked * in document 01, all of them, hold of `outcome`.
pub examples : Examples outcome
unfolding record_well_formed records_well_formed drive_well_formed timers_ask ticked used made sense_bytes aborts performed hosts_well_formed well_formed lowest epc_outcome tick_outcome write_outcome sense_outcome wanted is_listed answered_for start_stop_outcome next_outcome answer_outcome
examples *a = refl
examples *b = refl
examples *c = refl
examples *d = refl
examples *e = refl
examples *f = refl
examples *g19 = (refl, refl)
examples *g20 = (refl, refl)
examples *g49 = (refl, refl)
examples *g50 = (refl, refl)
examples *h = (refl, refl)
examples *i1 = refl
examples *i2 = refl
examples *j1 = refl
examples *j2 = refl
examples *j3 = refl
examples *k = (refl, refl)
examples *l = refl
examples *m = refl

-- The table can fail: a step that always says that it was done and changes nothing is refuted by example a, which asks for a timer of 300.
abbrev pub nothing_done : StepFunction
nothing_done u c = untouched u

pub nothing_done_fails : Examples nothing_done → ⊥
unfolding made
nothing_done_fails holds =
    let shown : ◌≡◌ {A = ℕ} 0 300 =
    ap (λ (o : Outcome). (get_or o.unit.drive.records (place_of IdleB) quiet).current.timer.0) (holds *a)
    in
    omega arith
