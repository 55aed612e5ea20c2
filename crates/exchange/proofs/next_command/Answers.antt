-- By the verdict, then by the slot: the record is kept where the answer is a refusal.
use Rattle.std.proofs.Common.{Ok, Err}
use mathlib.Core.Path.{◌≡◌, refl}
use mathlib.Core.Bool.{not, ◌||◌, cond}
use Prim.Native.Nat.{ℕ}
use Rattle.unit.specs.Units.{is_waiting, slot_of}
use Rattle.unit.specs.declared.Slot.{Slot}
use Rattle.unit.specs.declared.Slot.TheVariants.{Empty, Waiting}
use Rattle.unit.specs.declared.Unit.{Unit}
use Rattle.std.specs.Result.{is_err}
use Rattle.refusals.specs.Refusals.{lowest}
use Rattle.exchange.specs.Exchange.{next_effect, next_rows, next_on, next_settled, next_outcome}
use Rattle.exchange.specs.Inner.{due_in, next_of}
use Rattle.exchange.proofs.next_command.Goals as goal
use Rattle.refusals.specs.Refusals.{Verdict}

on_once : (u : Unit) (host : ℕ) (s : Slot)
    → record { answer = due_in u.unsaved s; unit = cond (not (is_waiting s)) u (next_effect host u) } ≡ next_on u host s
on_once u host Empty = refl
on_once u host (Waiting q) = refl

next_once : (u : Unit) (host : ℕ) (v : Verdict)
    → record {
      answer = next_of v u.unsaved (slot_of u.slots host);
      unit = cond (is_err v || not (is_waiting (slot_of u.slots host))) u (next_effect host u);
    } ≡ next_settled u host v
next_once u host (Ok _) = on_once u host (slot_of u.slots host)
next_once u host (Err r) = refl

pub returns : goal.returns
unfolding next_outcome
returns c = rw (
  c.next_unless.ensures,
  c.is_err.ensures.value,
  c.next_of.ensures,
  c.next_verdict-v.ensures,
  c.is_out.ensures,
  c.is_waiting-waiting.ensures,
  c.slot_of-s.ensures,
  c.unit_ok-ok.ensures,
) (next_once c.args.u c.args.host (lowest (next_rows c.args.u c.args.host)))
