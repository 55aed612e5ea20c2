-- By what is wanted and the verdict: kept where a number is given or nothing is listed.
use Rattle.std.proofs.Common.{Ok, Err, Some, None, Option}
use mathlib.Core.Path.{◌≡◌, refl, ◌∙◌}
use mathlib.Core.Bool.{not, ◌||◌, cond}
use mathlib.Core.List.{List}
use Prim.Native.Nat.{ℕ}
use Rattle.std.specs.Result.{is_err}
use Rattle.refusals.specs.Refusals.{lowest}
use Rattle.unit.specs.Units.{is_waiting, with_slot, rested}
use Rattle.unit.specs.declared.Unit.{Unit}
use Rattle.cdb.specs.Cdb.{immed, wanted, is_listed}
use Rattle.bridge.specs.Bridge.{start_stop_rows, start_stop_settled, start_stop_outcome}
use Rattle.bridge.specs.Inner.{slot_for, acceptance_of}
use Rattle.bridge.proofs.start_stop_unit.Goals as goal
use Rattle.refusals.specs.Refusals.{Verdict}
use Rattle.requests.specs.declared.Target.{Target}

accepted_once : (u : Unit) (host : ℕ) (cdb : List ℕ) (w : Option Target) (v : Verdict)
    → record {
      answer = acceptance_of v (immed cdb);
      unit = cond (is_err v || not (is_waiting (slot_for w cdb))) u (with_slot host (slot_for w cdb) (rested u));
    }
    ≡ start_stop_settled u host cdb w v
accepted_once u host cdb None (Ok _) = refl
accepted_once u host cdb None (Err r) = refl
accepted_once u host cdb (Some t) (Ok _) = refl
accepted_once u host cdb (Some t) (Err r) = refl

pub returns : goal.returns
unfolding start_stop_outcome is_listed
returns c = let verdict : c.start_stop_verdict-v.result ≡ lowest (start_stop_rows c.args.u c.args.host c.args.cdb.now) =
    c.start_stop_verdict-v.ensures
    ∙ rw (
      c.byte_at.ensures,
      c.is_out.ensures,
      c.is_listed-listed.ensures,
      c.read_wanted-w.ensures,
      c.is_waiting-own.ensures,
      c.slot_of.ensures,
      c.unit_ok-ok.ensures,
    ) in
    rw (
      c.wait_unless.ensures,
      c.acceptance_of.ensures,
      c.is_immed.ensures,
      c.is_waiting.ensures,
      c.is_err.ensures.value,
      c.slot_for-s.ensures,
      c.read_wanted-w.ensures,
      ← verdict,
    ) (accepted_once c.args.u c.args.host c.args.cdb.now (wanted c.args.cdb.now) c.start_stop_verdict-v.result)
