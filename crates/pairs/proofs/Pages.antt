-- Pair by pair: the pairs read so far and the words that are left make the page. It does not matter whether they are set on the page or on
-- a longer one that is cut after, since every pair's word lies on the page.
use mathlib.Core.Path.{◌≡◌, refl, sym, ap, ◌∙◌}
use mathlib.Core.Bool.{Bool, true, false, cond, true≢false}
use mathlib.Core.List.{List, [], ◌∷◌, map}
use Prim.Native.Char.{code}
use Prim.Native.Nat.{ℕ, suc, ◌+◌, ◌*◌, ◌/◌, ◌%◌, ◌<◌, ◌≤◌}
use native.Mathlib.Nat.{add-zero}
use native.Mathlib.Numerals.{add-one}
use native.Mathlib.Omega.{arith}
use borrow.Author.Tests.{ne_eqb}
use lib.Dec.{eqb}
use lib.ListN.{length, drop, length-map, set, take}
use lib.Seq.{drop-drop, paste, paste-suc, paste-zero, take-set-lt}
use denote.Ref.{Bor}
use Rattle.std.proofs.Common.{Option, Some, None, IfSome, MatchOption}
use Rattle.std.specs.Cmp.Lexicographic.{pointwise}
use Rattle.std.specs.Option.{unwrap_or}
use Rattle.asked.proofs.Lengths.{take-replicate}
use Rattle.words.specs.Numbers.{word_number}
use Rattle.words.proofs.Scans.{Scan}
use Rattle.words.proofs.Values.{at_most}
use Rattle.pairs.specs.declared.LinePage.{LinePage}
use Rattle.pairs.specs.declared.Pair.{Pair}
use Rattle.pairs.specs.Pairs.{before_equals, pair_in, zeros, with_pair, with_pairs, page_in}

pub equals : Scan before_equals (λ b. eqb b (code "="))
unfolding before_equals
equals = record { none = refl; more = λ b bs. refl }

-- ---- behind a sign, or where there is none: nothing is left there

starts : List ℕ → Bool
starts l = pointwise eqb (take 1 l) (code "=" ∷ [])

at_end : (w : List ℕ) → starts (drop (before_equals w) w) ≡ false → drop (before_equals w) w ≡ drop (suc (before_equals w)) w
unfolding before_equals starts
at_end [] h = refl
at_end (b ∷ bs) h = on (at_end bs) (eqb b (code "=")) refl h
  where
    on : (starts (drop (before_equals bs) bs) ≡ false → drop (before_equals bs) bs ≡ drop (suc (before_equals bs)) bs)
        → (t : Bool) → eqb b (code "=") ≡ t → starts (drop (cond t 0 (suc (before_equals bs))) (b ∷ bs)) ≡ false
        → drop (cond t 0 (suc (before_equals bs))) (b ∷ bs) ≡ drop (suc (cond t 0 (suc (before_equals bs)))) (b ∷ bs)
    on below true e k = absurd (true≢false (rw e at k))
    on below false e k = below k

pub behind_sign : (w : List ℕ) (r : Option (Bor (List ℕ))) (d : Bor (List ℕ)) → d.now ≡ drop (before_equals w) w
    → MatchOption r (pointwise eqb (take 1 d.now) (code "=" ∷ []) ≡ false)
    (λ x. (pointwise eqb (take 1 d.now) (code "=" ∷ []) ≡ true) × (x.now ≡ drop 1 d.now) × (length x.now + 1 ≡ length d.now))
    → (unwrap_or r d).now ≡ drop (suc (before_equals w)) w
unfolding starts
behind_sign w None d e h = e ∙ at_end w (rw e at h)
behind_sign w (Some x) d e h = h.1 ∙ rw (e, drop-drop, add-one) refl

-- ---- the bounds of a pair

bounded : (top : ℕ) (r : Option ℕ) → IfSome r (λ n. n ≤ top) → unwrap_or r 0 ≤ top
bounded top None h = omega arith
bounded top (Some n) h = h

pub place_bound : (w : List ℕ) → unwrap_or (pair_in w).place 0 < 256
place_bound w = omega (arith, bounded 0xFF (pair_in w).place (at_most 0xFF (take (before_equals w) w)))

pub value_bound : (w : List ℕ) → unwrap_or (pair_in w).value 0 < 65536
value_bound w = omega (arith, bounded 0xFFFF (pair_in w).value (at_most 0xFFFF (drop (suc (before_equals w)) w)))

pub pair_read : (w : List ℕ) (place value : Option ℕ) → place ≡ word_number 0xFF (take (before_equals w) w)
    → value ≡ word_number 0xFFFF (drop (suc (before_equals w)) w)
    → ◌≡◌ {A = Pair} record { place = place; value = value } (pair_in w) × (unwrap_or place 0 < 256) × (unwrap_or value 0 < 65536)
pair_read w place value e f = rw (e, f) (refl, place_bound w, value_bound w)

-- ---- one pair more

-- two bytes put at a place
two_put : (page : List ℕ) (at low high : ℕ) → at + 2 ≤ length page → paste page at (low ∷ high ∷ []) 2 ≡ set (set page at low) (at + 1) high
two_put page at low high h =
    let both = low ∷ high ∷ [] in
    let none : set (paste page at both 0) (at + 0) low ≡ set page at low =
    ap (λ i. set (paste page at both 0) i low) (add-zero at) ∙ ap (λ l. set l at low) (sym (paste-zero page at both)) in
    let one : paste page at both 1 ≡ set page at low = sym (paste-suc page at both 0 0 (omega arith) (omega arith)) ∙ none in
    sym (paste-suc page at both 1 0 (omega arith) (omega arith)) ∙ ap (λ l. set l (at + 1) high) one

pub one_more_lem : (all page : List ℕ) (ws rest : List (List ℕ)) (w : List ℕ) (p : Pair) (place value : ℕ) → ws ≡ w ∷ rest → p ≡ pair_in w
    → place ≡ unwrap_or p.place 0 → value ≡ unwrap_or p.value 0 → length page ≡ 1024 → all ≡ with_pairs page ws
    → all ≡ with_pairs (paste page (2 * place) (value % 256 ∷ (value / 256) % 256 ∷ []) 2) rest
unfolding with_pairs
one_more_lem all page ws rest w p place value e f g h long before =
    let more = rw e at before in
    let at : place ≡ unwrap_or (pair_in w).place 0 = rw f at g in
    let v : value ≡ unwrap_or (pair_in w).value 0 = rw f at h in
    let low = place_bound w in
    let small = value_bound w in
    let high : (value / 256) % 256 ≡ value / 256 = omega arith in
    rw (high, two_put page (2 * place) (value % 256) (value / 256) (omega arith), at, v) more

-- ---- the page, cut

cut_pairs : (ws : List (List ℕ)) (page : List ℕ) → take 0x200 (with_pairs page ws) ≡ with_pairs (take 0x200 page) ws
unfolding with_pairs
cut_pairs [] page = refl
cut_pairs (w ∷ ws) page =
    let place = unwrap_or (pair_in w).place 0 in
    let value = unwrap_or (pair_in w).value 0 in
    let low = set page (2 * place) (value % 256) in
    let inside = place_bound w in
    cut_pairs ws (with_pair page (pair_in w))
    ∙ rw (take-set-lt 0x200 low (2 * place + 1) (value / 256) (omega arith), take-set-lt 0x200 page (2 * place) (value % 256) (omega arith))

cut_zeros : (n : ℕ) → n ≤ 0x400 → take n (zeros 0x400) ≡ zeros n
unfolding zeros
cut_zeros n h = take-replicate n 0x400 0 h

pub page_set : (ws : List (List ℕ)) (n : ℕ) → n ≡ 0x200 → take n (with_pairs (zeros 0x400) ws) ≡ page_in n ws
unfolding page_in
page_set ws n e = rw (e, cut_pairs ws (zeros 0x400), cut_zeros 0x200 (omega arith))

pub page_unset : (ws : List (List ℕ)) (n : ℕ) → (n ≡ 0x200 → ⊥) → n ≤ 0x400 → take n (zeros 0x400) ≡ page_in n ws
unfolding page_in
page_unset ws n e h = rw (ne_eqb _ _ e, cut_zeros n h)

-- A page lies within its bytes, whose number is given in the words in which the checker gives it.
pub page_within : (p : LinePage) → length (map (λ (b : ℕ). b) p.bytes) ≡ 0x400 → p.len ≤ 0x400 → p.len ≤ length p.bytes
page_within p e h = let whole = rw length-map at e in omega arith
