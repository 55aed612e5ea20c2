-- By the verdict.
use Rattle.std.proofs.Common.{Ok}
use mathlib.Core.Path.{◌≡◌, sym, ◌∙◌}
use Rattle.unit.specs.declared.Unit.{Unit}
use Rattle.outcomes.specs.declared.Called.{Called}
use Rattle.engine.specs.Engine.{epc_outcome}
use Rattle.engine.proofs.set_features.Goals as goal
use Rattle.refusals.specs.Refusals.{Verdict}

same_record : (a : Verdict) {u v : Unit} → u ≡ v → ◌≡◌ {A = Called} (record { answer = a; unit = u }) (record { answer = a; unit = v })
same_record a e = rw e

pub returns-in-Ok : goal.returns-in-Ok
unfolding epc_outcome
returns-in-Ok c = let told = rw (
  c.aborts.ensures,
  c.is_out.ensures,
  c.unit_ok-ok.ensures,
) at (sym c.epc_verdict-v.ensures ∙ c.in-Ok.is) in
    rw (told, c.in-Ok.is) (same_record (Ok tt) c.epc_effect-unit.ensures)

pub returns-in-Err : goal.returns-in-Err
unfolding epc_outcome
returns-in-Err c = let told = rw (
  c.aborts.ensures,
  c.is_out.ensures,
  c.unit_ok-ok.ensures,
) at (sym c.epc_verdict-v.ensures ∙ c.in-Err.is) in
    rw told (same_record _ c.epc_refused-unit.ensures)
