-- The two sides of the sign are read as numbers, and these are within their bounds.
use mathlib.Core.Path.{◌≡◌, ap, ◌∙◌}
use Prim.Native.Nat.{suc}
use lib.ListN.{drop, take}
use Rattle.words.specs.Numbers.{word_number}
use Rattle.pairs.specs.Pairs.{before_equals}
use Rattle.pairs.proofs.Pages.{behind_sign, pair_read}
use Rattle.pairs.proofs.pair_in.Goals as goal

pub returns : goal.returns
returns c = let w = c.args.w.now in
    let n = before_equals w in
    let at = c.equals_at.ensures.0 in
    let front : c.split_at.result.0.now ≡ take n w = c.split_at.ensures.front ∙ ap (λ k. take k w) at in
    let back : c.split_at.result.1.now ≡ drop n w = c.split_at.ensures.back ∙ ap (λ k. drop k w) at in
    let rest : c.unwrap_or-value.result.now ≡ drop (suc n) w =
    ap (λ x. x.now) c.unwrap_or-value.ensures ∙ behind_sign w c.strip_prefix.result c.split_at.result.1 back c.strip_prefix.ensures.cases in
    pair_read w _ _ (c.hex.ensures ∙ ap (word_number 0xFF) front) (c.hex-2.ensures ∙ ap (word_number 0xFFFF) rest)
