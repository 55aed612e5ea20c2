-- A place below 5 is read as it is and any other as the first, whose condition is the one that `condition_at` gives there; the outcome is the verdict's.
use Rattle.std.proofs.Common.{Ok}
use mathlib.Core.Path.{◌≡◌, ap, sym, ◌∙◌}
use Prim.Native.Nat.{ℕ, ◌<◌, ◌≤◌}
use native.Mathlib.Omega.{arith}
use lib.ListN.{get_or-eq_default}
use Rattle.conditions.specs.Conditions.{falling, condition_at}
use Rattle.conditions.specs.declared.Condition.TheVariants.{IdleA}
use Rattle.pages.specs.Readings.{page_record}
use Rattle.reader.specs.PageCalls.{record_outcome}
use Rattle.reader.proofs.record_in.Goals.{then-place-lt5, else-place-lt5}
use Rattle.reader.proofs.record_in.Goals as goal

abbrev Stands : ℕ → ℕ → Type 0
Stands place at = (at < 5) × (condition_at at ≡ condition_at place)

within : (place at : ℕ) → place < 5 → at ≡ place → Stands place at
within place at below e = (omega arith, ap condition_at e)

beyond : (place at : ℕ) → 5 ≤ place → at ≡ 0 → Stands place at
beyond place at above e = (omega arith, ap condition_at e ∙ sym (get_or-eq_default falling IdleA above))

pub record_of-requires : goal.record_of-requires
record_of-requires c = elim c.if-place-lt5.branch [
  | then-place-lt5 w ↦ (within _ _ w.if-place-lt5.true w.at-is).0
  | else-place-lt5 w ↦ (beyond c.args.place _ w.if-place-lt5.false w.at-is).0
]

pub returns : goal.returns
unfolding record_outcome
returns c =
    let same : condition_at c.if-place-lt5.at ≡ condition_at c.args.place = elim c.if-place-lt5.branch [
      | then-place-lt5 w ↦ (within _ _ w.if-place-lt5.true w.at-is).1
      | else-place-lt5 w ↦ (beyond c.args.place _ w.if-place-lt5.false w.at-is).1
    ] in
    rw c.in_ok-page.ensures.1 (ap Ok (c.record_of.ensures ∙ λ i. page_record (c.in_ok-page.ensures.0 i) (same i)))
