-- While a command is out, the operation that sent it stands still: a call that would change its slot, the unsaved mark or what is out is refused
-- with 4 at the latest. So the command that an answer is judged by is the one that was sent.
use Rattle.std.proofs.Common.{Ok, Err}
use mathlib.Core.Path.{◌≡◌, refl, sym, ◌∙◌}
use mathlib.Core.Bool.{Bool, true, false, ◌&&◌, ◌||◌, true≢false}
use Rattle.unit.specs.Units.{is_out}
use Rattle.refusals.specs.declared.Refusal.{Refusal}
use Rattle.refusals.specs.declared.Refusal.TheVariants.{CommandOut}
use Rattle.unit.specs.declared.Unit.{Unit}
use Rattle.calls.specs.Calls.{Call, set_features, tick, read, write, power_on, hard_reset, soft_reset, start_stop, next, answer, request_sense, log_page, transitions_page, new_page, outcome, step}
use Rattle.calls.specs.Described.{is_reset, is_answer_for}
use Rattle.calls.specs.Table.{waits_for_drive, verdict_in}
use Rattle.calls.proofs.Numbers.{accepted_exactly, after_refusal, other_keeps, acceptance_does}
use Rattle.refusals.specs.Refusals.{Verdict}

-- What decides the command due from every operation, and whose command is out.
pub record SameOperations (u v : Unit) : Type 0 where
  pub slots : v.slots ≡ u.slots
  pub unsaved : v.unsaved ≡ u.unsaved
  pub out : v.out ≡ u.out

same : (u : Unit) → SameOperations u u
same u = record { slots = refl; unsaved = refl; out = refl }

after_refused : (u : Unit) (c : Call) (r : Refusal) → verdict_in (outcome u c).said ≡ Err r → SameOperations u (step u c)
after_refused u c r = after_refusal u c r (SameOperations u) (record { slots = refl; unsaved = refl; out = refl }) (same u)

module _ (u : Unit) (c : Call) where
  -- A call that number 4 is for is refused while a command is out, and leaves the operations as they were.
  pub out_refuses : is_out u.out ≡ true → waits_for_drive c ≡ true → SameOperations u (step u c)
  out_refuses out waits = on (verdict_in (outcome u c).said) refl
    where
      on : (v : Verdict) → verdict_in (outcome u c).said ≡ v → SameOperations u (step u c)
      on (Ok _) e =
          let no : (is_out u.out && waits_for_drive c) ≡ false = (accepted_exactly u c).0 e CommandOut in
          absurd (true≢false (sym (rw (out, waits)) ∙ no))
      on (Err r) e = after_refused u c r e

-- The calls that may end or take what is out: the answer and the resets.
abbrev pub may_end : Call → Bool
may_end c = is_reset c || is_answer_for (λ host. true) c

module _ (u : Unit) (c : Call) (effect : Unit) (kept : SameOperations u effect)
    (does : verdict_in (outcome u c).said ≡ Ok tt → step u c ≡ effect) where
  kept_anyway : SameOperations u (step u c)
  kept_anyway = on (verdict_in (outcome u c).said) refl
    where
      on : (v : Verdict) → verdict_in (outcome u c).said ≡ v → SameOperations u (step u c)
      on (Ok _) e = rw (does e) kept
      on (Err r) e = after_refused u c r e

-- While a command is out no call but an answer or a reset changes a slot, the unsaved mark or what is out.
pub out_stands : (u : Unit) (c : Call) → is_out u.out ≡ true → may_end c ≡ false → SameOperations u (step u c)
out_stands u (set_features q) out h = out_refuses u (set_features q) out refl
out_stands u tick out h = kept_anyway u tick u (same u) (λ e. (acceptance_does u tick e).0 ∙ rw out)
out_stands u (read host) out h = out_refuses u (read host) out refl
out_stands u (write host) out h = out_refuses u (write host) out refl
out_stands u power_on out h = absurd (true≢false h)
out_stands u hard_reset out h = absurd (true≢false h)
out_stands u soft_reset out h = absurd (true≢false h)
out_stands u (start_stop host cdb) out h = out_refuses u (start_stop host cdb) out refl
out_stands u (next host) out h = out_refuses u (next host) out refl
out_stands u (answer host reply) out h = absurd (true≢false h)
out_stands u (request_sense host buffer) out h = out_refuses u (request_sense host buffer) out refl
out_stands u (log_page buffer) out h = kept_anyway u (log_page buffer) u (same u) (λ e. (acceptance_does u (log_page buffer) e).0)
out_stands u (transitions_page buffer) out h =
    kept_anyway u (transitions_page buffer) u (same u) (λ e. (acceptance_does u (transitions_page buffer) e).0)
out_stands u (new_page number buffer) out h =
    kept_anyway u (new_page number buffer) u (same u) (λ e. (acceptance_does u (new_page number buffer) e).0)

-- "A tick with a command out changes nothing."
pub tick_out : (u : Unit) → is_out u.out ≡ true → step u tick ≡ u
tick_out u out = on (verdict_in (outcome u tick).said) refl
  where
    on : (v : Verdict) → verdict_in (outcome u tick).said ≡ v → step u tick ≡ u
    on (Ok _) e = (acceptance_does u tick e).0 ∙ rw out
    on (Err r) e = other_keeps u tick r e refl
