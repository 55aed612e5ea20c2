-- What is still to be written out is what is printed and what the bytes not answered and those still to come print behind it: no turn changes that.
-- A turn that does not stop answers a byte or more, so as many turns as bytes and one are enough.
use mathlib.Core.Path.{◌≡◌, refl, sym, ap, ◌∙◌, subst⁻¹}
use mathlib.Core.Bool.{Bool, true, false, cond, ◌&&◌, and-eq-true_iff, false≢true}
use mathlib.Core.List.{List, [], ◌∷◌, ◌++◌, append_assoc}
use Prim.Native.Nat.{ℕ, zero, suc, ◌+◌, ◌-◌, ◌<◌, ◌≤◌, min}
use native.Mathlib.Omega.{arith}
use borrow.Author.Tests.{leb-true, leb-false, ltb-true, ltb-false}
use lib.Dec.{ltb}
use lib.ListN.{length, take, drop, length-take, length-drop, length-append, take-append-drop}
use lib.Seq.{drop-drop, length-take-le}
use Rattle.intake.specs.Intake.{is_answered, pace_next}
use Rattle.intake.specs.declared.Pace.{Pace}
use Rattle.stream.specs.Streams.{Stream, fed_all, finished, unfed, emptied, bytes_between}
use Rattle.stream.specs.Turns.{Standing, over_with, bytes_next, answered_of, Turned, script, written_in_turns, InTurns, NothingMore, nothing_in, ReadsIfNone}
use Rattle.stream.proofs.Streams.{fed_pieces, finished_behind, written_on}

-- ---- all turns

abbrev going : Stream → List ℕ → Standing
going s rest = record { stream = s; unanswered = rest; goes = true }

over : (s : Stream) (last : List ℕ) (reads : List (List ℕ)) (turns : List ℕ) → written_in_turns (over_with s last) reads turns ≡ last
unfolding written_in_turns
over s last reads [] = refl
over s last reads (more ∷ turns) = refl

-- the bytes that a turn answers and those that it leaves are those that it found
parts : (b : ℕ) (bs later : List ℕ) (more : ℕ) → (b ∷ take more bs) ++ (drop more bs ++ later) ≡ b ∷ bs ++ later
parts b bs later more = ap (◌∷◌ b) (sym (append_assoc (take more bs) (drop more bs) later) ∙ ap (λ l. l ++ later) (take-append-drop more bs))

answers : (s : Stream) (b : ℕ) (bs later : List ℕ) (more : ℕ)
    → s.printed ++ finished (fed_all (fed_all (emptied s) (b ∷ take more bs)) (drop more bs ++ later)) ≡ finished (fed_all s (b ∷ bs ++ later))
answers s b bs later more =
    ap (λ t. s.printed ++ finished t) (sym (fed_pieces (emptied s) (b ∷ take more bs) (drop more bs ++ later)))
    ∙ ap (λ l. s.printed ++ finished (fed_all (emptied s) l)) (parts b bs later more)
    ∙ written_on s (b ∷ bs ++ later)

fewer : (b : ℕ) (bs later : List ℕ) (more turns : ℕ) → length (b ∷ bs ++ later) < suc turns → length (drop more bs ++ later) < turns
fewer b bs later more turns h =
    let e : length (bs ++ later) < turns = omega arith in
    rw (length-append, length-drop) (let f = rw length-append at e in omega arith)

all_written : (turns : List ℕ) (s : Stream) (rest : List ℕ) (reads : List (List ℕ)) → length (rest ++ script reads) < length turns
    → written_in_turns (going s rest) reads turns ≡ finished (fed_all s (rest ++ script reads))
unfolding written_in_turns fed_all
all_written [] s rest reads h = absurd (omega arith)
all_written (more ∷ turns) s [] [] h = ap (◌++◌ s.printed) (over s (finished (emptied s)) [] turns) ∙ finished_behind s
all_written (more ∷ turns) s [] ([] ∷ later) h = ap (◌++◌ s.printed) (over s (finished (emptied s)) later turns) ∙ finished_behind s
all_written (more ∷ turns) s [] ((b ∷ bs) ∷ later) h =
    ap (◌++◌ s.printed) (all_written turns (fed_all (emptied s) (b ∷ take more bs)) (drop more bs) later (fewer b bs (script later) more (length turns) h))
    ∙ answers s b bs (script later) more
all_written (more ∷ turns) s (b ∷ bs) reads h =
    ap (◌++◌ s.printed) (all_written turns (fed_all (emptied s) (b ∷ take more bs)) (drop more bs) reads (fewer b bs (script reads) more (length turns) h))
    ∙ answers s b bs (script reads) more

pub in_turns : InTurns
in_turns reads turns h = all_written turns unfed [] reads h

pub nothing_more : NothingMore
nothing_more s piece more reads turns = over s.stream [] reads turns

-- ---- the code's turns: bytes by their places

take_none : (n : ℕ) → take {A = ℕ} n [] ≡ []
take_none zero = refl
take_none (suc n) = refl

drop-take : (p q : ℕ) (l : List ℕ) → drop p (take q l) ≡ take (q - p) (drop p l)
drop-take zero q l = let e : q ≡ q - 0 = omega arith in ap (λ n. take n l) e
drop-take (suc p) zero l = let e : 0 - suc p ≡ 0 = omega arith in rw e
drop-take (suc p) (suc q) [] = sym (take_none (suc q - suc p))
drop-take (suc p) (suc q) (x ∷ l) = let e : q - p ≡ suc q - suc p = omega arith in drop-take p q l ∙ ap (λ n. take n (drop p l)) e

-- bytes that are left come first
left_first : (u piece : List ℕ) → 0 < length u → bytes_next u piece ≡ u
left_first [] piece h = absurd (omega arith)
left_first (b ∷ bs) piece h = refl

-- of such bytes the first `suc more` are answered
some_answered : (s : Stream) (u : List ℕ) (more : ℕ) → 0 < length u
    → answered_of s u more ≡ going (fed_all (emptied s) (take (suc more) u)) (drop (suc more) u)
some_answered s [] more h = absurd (omega arith)
some_answered s (b ∷ bs) more h = refl

between_length : (p q : ℕ) (l : List ℕ) → q ≤ length l → length (bytes_between p q l) ≡ q - p
between_length p q l h = rw (length-take, length-drop) (omega arith)

-- those between two places, up to a third one between them and from there on
up_to : (p f q : ℕ) (l : List ℕ) → take (f - p) (bytes_between p q l) ≡ bytes_between p f (take q l)
up_to p f q l = ap (take (f - p)) (sym (drop-take p q l))

from_on : (p f q : ℕ) (l : List ℕ) → p ≤ f → drop (f - p) (bytes_between p q l) ≡ bytes_between f q l
from_on p f q l h =
    let rest : q - p - (f - p) ≡ q - f = omega arith in
    let place : p + (f - p) ≡ f = omega arith in
    drop-take (f - p) (q - p) (drop p l) ∙ rw (rest, drop-drop, place)

some_is : (u : List ℕ) → 0 < length u → false ≡ nothing_in u
some_is [] h = absurd (omega arith)
some_is (b ∷ bs) h = refl

pub reads_if_none : ReadsIfNone
reads_if_none t input line out h = on (is_answered from to) refl
  where
    from : ℕ
    from = t.run.from

    to : ℕ
    to = t.to

    on : (a : Bool) → is_answered from to ≡ a → a ≡ nothing_in (bytes_between from to input)
    on true e = let z : to - from ≡ 0 = omega (arith, leb-true to from e) in rw z
    on false e = let less : from < to = leb-false to from e in some_is (bytes_between from to input) (rw (between_length from to input h) (omega arith))

-- what a turn answers that goes on: bytes of the buffer, one or more
abbrev Spans : List ℕ → ℕ → ℕ → Bool → ℕ → Pace → Type 0
Spans l from to w n p = (w ≡ true) × (bytes_next (bytes_between from to l) (take n l) ≡ bytes_between p.from p.to l) × (p.from < p.to) × (p.to ≤ length l)

module _ (l : List ℕ) (from to : ℕ) (w : Bool) (n : ℕ) where
  none_left : is_answered from to ≡ true → bytes_next (bytes_between from to l) (take n l) ≡ take n l
  none_left e = let z : to - from ≡ 0 = omega (arith, leb-true to from e) in rw z

  spans : to ≤ length l → n ≤ length l → (p : Pace) → p ≡ pace_next from to w n → p.goes ≡ true → Spans l from to w n p
  spans inside few p told = subst⁻¹ (λ (q : Pace). q.goes ≡ true → Spans l from to w n q) told (on (is_answered from to) refl)
    where
      on : (t : Bool) → is_answered from to ≡ t
          → let q = cond {A = Pace} t (record { from = 0; to = n; goes = w && ltb 0 n }) (record { from = from; to = to; goes = w }) in
          q.goes ≡ true → Spans l from to w n q
      on true e h =
          let both = (and-eq-true_iff w (ltb 0 n)).0 h in
          let z : n ≡ n - 0 = omega arith in
          (both.0, none_left e ∙ ap (λ k. take k l) z, ltb-true 0 n both.1, few)
      on false e h =
          let less : from < to = leb-false to from e in
          (h, left_first (bytes_between from to l) (take n l) (rw (between_length from to l inside) (omega arith)), less, inside)

  -- one that stops though all could be written has nothing to answer
  spans_none : w ≡ true → (pace_next from to w n).goes ≡ false → bytes_next (bytes_between from to l) (take n l) ≡ []
  spans_none good = on (is_answered from to) refl
    where
      on : (t : Bool) → is_answered from to ≡ t
          → (cond {A = Pace} t (record { from = 0; to = n; goes = w && ltb 0 n }) (record { from = from; to = to; goes = w })).goes ≡ false
          → bytes_next (bytes_between from to l) (take n l) ≡ []
      on true e h =
          let none : n ≤ 0 = ltb-false 0 n (rw good at h) in
          let z : n ≡ 0 = omega arith in
          none_left e ∙ ap (λ k. take k l) z
      on false e h = absurd (false≢true (sym h ∙ good))

  module _ (s : Stream) (goes : Bool) (p : Pace) (told : p ≡ pace_next from to w n) where
    abbrev found : Standing
    found = record { stream = s; unanswered = bytes_between from to l; goes = goes }

    pub goes_on_lem : to ≤ length l → n ≤ length l → {x : Stream} (f : ℕ) → p.goes ≡ true → x ≡ fed_all (emptied s) (bytes_between p.from f (take p.to l))
        → min (p.from + 1) (length (take p.to l)) ≤ f → Turned found w (take n l) (going x (bytes_between f p.to l))
    goes_on_lem inside few f h fed far =
        let has = spans inside few p told h in
        let u = bytes_between p.from p.to l in
        let some : 0 < length u = rw (between_length p.from p.to l has.3) (omega (arith, has.2)) in
        let past : p.from < f = let k = rw (length-take-le p.to l has.3) at far in omega (arith, has.2, k) in
        let more : suc (f - suc p.from) ≡ f - p.from = omega arith in
        let rest = from_on p.from f p.to l (omega arith) in
        let all = some_answered s u (f - suc p.from) some in
        (f - suc p.from, rw (has.0, has.1, all, more, up_to, rest) (ap (λ t. going t (bytes_between f p.to l)) fed))

    pub stops : {last : List ℕ} → p.goes ≡ false → last ≡ cond w (finished (emptied s)) [] → Turned found w (take n l) (over_with s last)
    stops {last} h e = (0, on w refl e)
      where
        on : (v : Bool) → w ≡ v → last ≡ cond v (finished (emptied s)) []
            → over_with s last ≡ cond v (answered_of s (bytes_next (bytes_between from to l) (take n l)) 0) (over_with s [])
        on true good f = rw (spans_none good (sym (ap (λ q. q.goes) told) ∙ h), f)
        on false bad f = rw f

-- what is to be written last, if anything
pub cut : (w : Bool) (n : ℕ) (out : List ℕ) {x : List ℕ} → take n out ≡ x → take (cond w n 0) out ≡ cond w x []
cut true n out e = e
cut false n out e = refl

pub cut_less : (w : Bool) (n : ℕ) → cond w n 0 ≤ n
cut_less true n = omega arith
cut_less false n = omega arith
