-- At each turn the value so far and the digits that are left make the word's value, and what is left are digits if all are.
-- Eight digits at most keep the value below 2^32.
use mathlib.Core.Path.{refl, sym, ◌∙◌}
use native.Mathlib.Omega.{arith}
use lib.ListN.{length, get_or}
use Rattle.words.proofs.Values.{in_range, within_told, read_digit, bad_digit, good_digit, one_more_lem, no_more}
use Rattle.words.proofs.Values.{below_more, below_all, not_length, not_digits, too_large, spelled}
use Rattle.words.proofs.hex.Goals as goal

pub returns-then-not-contains : goal.returns-then-not-contains
returns-then-not-contains c =
    let asked = rw (c.new.ensures.start, c.new.ensures.end, c.new.ensures.exhausted) at c.contains.ensures.value in
    let told = within_told (length c.args.w.now) c.contains.result asked c.if-not-contains.true in
    sym (not_length c.args.top c.args.w.now told)

pub loop-b-init : goal.loop-b-init
loop-b-init c =
    let asked = rw (c.new.ensures.start, c.new.ensures.end, c.new.ensures.exhausted) at c.contains.ensures.value in
    let told = within_told (length c.args.w.now) c.contains.result asked c.if-not-contains.false in
    ((in_range 1 8 (length c.args.w.now) told).1, omega arith, refl, refl)

pub overflow_mul-value : goal.overflow_mul-value
overflow_mul-value c = let small = below_all c.loop-b.value c.loop-b.b-index c.loop-b.invariant.1 (omega arith) in omega (arith, small)

pub overflow_add-value : goal.overflow_add-value
overflow_add-value c = let small = below_all c.loop-b.value c.loop-b.b-index c.loop-b.invariant.1 (omega arith) in
    let d = rw c.in_ok-value.was at (read_digit (get_or c.args.w.now c.loop-b.b-index 0) c.digit.result c.digit.ensures) in
    omega (arith, small, d)

pub returns-in_err-value : goal.returns-in_err-value
returns-in_err-value c = let w = c.args.w.now in
    let d = rw c.in_err-value.was at (read_digit (get_or w c.loop-b.b-index 0) c.digit.result c.digit.ensures) in
    let no_digit = bad_digit w c.loop-b.b-index c.loop-b-test.true d in
    c.from_residual.ensures ∙ sym (not_digits c.args.top w (c.loop-b.invariant.2 ∙ no_digit))

pub loop-b-preserved : goal.loop-b-preserved
loop-b-preserved c = let w = c.args.w.now in
    let i = c.loop-b.b-index in
    let d = rw c.in_ok-value.was at (read_digit (get_or w i 0) c.digit.result c.digit.ensures) in (
      c.loop-b.invariant.0,
      below_more c.loop-b.value c.in_ok-value.field-0 i c.loop-b.invariant.1 (omega (arith, d)),
      c.loop-b.invariant.2 ∙ good_digit w i c.loop-b-test.true d.0,
      rw d.1 (c.loop-b.invariant.3 ∙ one_more_lem w c.loop-b.value i c.loop-b-test.true),
    )

pub returns-then-value-top : goal.returns-then-value-top
returns-then-value-top c = let done = no_more c.args.w.now c.loop-b.value c.loop-b.b-index (omega arith) in
    sym (too_large c.args.top c.args.w.now (rw (c.loop-b.invariant.3 ∙ done.1) c.if-value-top.true))

pub returns : goal.returns
returns c = let done = no_more c.args.w.now c.loop-b.value c.loop-b.b-index (omega arith) in
    let all = c.loop-b.invariant.3 ∙ done.1 in
    let asked = rw (c.new.ensures.start, c.new.ensures.end, c.new.ensures.exhausted) at c.contains.ensures.value in
    let told = within_told (length c.args.w.now) c.contains.result asked c.if-not-contains.false in
    sym (rw all at (spelled c.args.top c.args.w.now told (c.loop-b.invariant.2 ∙ done.0) (rw all c.if-value-top.false)))
