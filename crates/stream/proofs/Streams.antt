-- Bytes are fed one after the other, so in whatever pieces: those before an LF only grow what is kept, and the LF behind them answers.
-- What is printed is only added to, so it may be written out at any time.
use mathlib.Core.Path.{◌≡◌, refl, sym, ap, ◌∙◌}
use mathlib.Core.Bool.{Bool, true, false, cond}
use mathlib.Core.List.{List, [], ◌∷◌, ◌++◌, append-nil, append_assoc}
use Prim.Native.Char.{code}
use Prim.Native.Nat.{ℕ, zero, suc, ◌+◌, ◌-◌, ◌<◌, ◌≤◌}
use native.Mathlib.Omega.{arith}
use lib.Dec.{eqb}
use lib.ListN.{length, get_or, take, drop, length-drop, length-take}
use lib.Seq.{take_all, take-add, take-suc, drop-drop}
use Rattle.words.specs.Lines.{before_feed}
use Rattle.digits.specs.Sheets.{joined}
use Rattle.blocks.specs.Sessions.{is_open}
use Rattle.replies.specs.Lines.{response, ok_or_error}
use Rattle.stream.specs.Streams.{Stream, answered, keeps_byte, fed, fed_all, finished, emptied, bytes_between}

-- ---- piece by piece

pub fed_pieces : (s : Stream) (a b : List ℕ) → fed_all s (a ++ b) ≡ fed_all (fed_all s a) b
unfolding fed_all
fed_pieces s [] b = refl
fed_pieces s (x ∷ a) b = fed_pieces (fed s x) a b

-- what is fed up to i, and then from i to j, is what is fed up to j
pub fed_on : (s : Stream) {t u : Stream} (l : List ℕ) (from i j : ℕ) → from ≤ i → i ≤ j
    → t ≡ fed_all s (bytes_between from i l) → u ≡ fed_all t (bytes_between i j l) → u ≡ fed_all s (bytes_between from j l)
fed_on s l from i j h k first second =
    let both : j - from ≡ (i - from) + (j - i) = omega arith in
    let place : from + (i - from) ≡ i = omega arith in
    rw (both, take-add, fed_pieces, drop-drop, place, ← first) second

-- ---- up to an LF

-- a stream that has kept these bytes too
abbrev pub grown : Stream → List ℕ → Stream
grown s more = record { session = s.session; kept = take 4001 (s.kept ++ more); printed = s.printed }

take_twice : (n : ℕ) (a b : List ℕ) → take n (take n a ++ b) ≡ take n (a ++ b)
take_twice zero a b = refl
take_twice (suc n) [] b = refl
take_twice (suc n) (x ∷ a) b = ap (◌∷◌ x) (take_twice n a b)

grown_twice : (s : Stream) (b : ℕ) (more : List ℕ) → grown (keeps_byte s b) more ≡ grown s (b ∷ more)
grown_twice s b more = rw (take_twice, append_assoc)

grown_none : (s : Stream) → length s.kept ≤ 4001 → grown s [] ≡ s
grown_none s h = rw (append-nil, take_all 4001 s.kept h)

grown_small : (s : Stream) (more : List ℕ) → length (grown s more).kept ≤ 4001
grown_small s more = rw length-take (omega arith)

before_feed_lem : (s : Stream) (bs : List ℕ) → length s.kept ≤ 4001
    → fed_all s (take (before_feed bs) bs) ≡ grown s (take (before_feed bs) bs)
unfolding fed_all before_feed
before_feed_lem s [] h = sym (grown_none s h)
before_feed_lem s (b ∷ bs) h = on (eqb b (code "\n")) refl (before_feed_lem (keeps_byte s b) bs (grown_small s (b ∷ [])))
  where
    on : (t : Bool) → eqb b (code "\n") ≡ t
        → fed_all (keeps_byte s b) (take (before_feed bs) bs) ≡ grown (keeps_byte s b) (take (before_feed bs) bs)
        → fed_all s (take (before_feed (b ∷ bs)) (b ∷ bs)) ≡ grown s (take (before_feed (b ∷ bs)) (b ∷ bs))
    on true e rest = rw e (sym (grown_none s h))
    on false e rest = rw (e, fed_all, e) (rest ∙ grown_twice s b (take (before_feed bs) bs))

-- the byte behind them, if there is one, is the LF
at_feed : (bs : List ℕ) → before_feed bs < length bs → eqb (get_or bs (before_feed bs) 0) (code "\n") ≡ true
unfolding before_feed
at_feed [] h = absurd (omega arith)
at_feed (b ∷ bs) h = on (eqb b (code "\n")) refl (at_feed bs)
  where
    on : (t : Bool) → eqb b (code "\n") ≡ t
        → (before_feed bs < length bs → eqb (get_or bs (before_feed bs) 0) (code "\n") ≡ true)
        → eqb (get_or (b ∷ bs) (before_feed (b ∷ bs)) 0) (code "\n") ≡ true
    on true e rest = rw e e
    on false e rest = let less : suc (before_feed bs) < suc (length bs) = rw e at h in rw e (rest (omega arith))

-- ---- from a place of the input to the end of a line

module _ (s : Stream) (l : List ℕ) (from end : ℕ) (e : end ≡ from + before_feed (drop from l)) where
  spanned : end - from ≡ before_feed (drop from l)
  spanned = omega arith

  pub up_to_feed : length s.kept ≤ 4001 → fed_all s (bytes_between from end l) ≡ grown s (bytes_between from end l)
  up_to_feed h = rw spanned (before_feed_lem s (drop from l) h)

  pub past_feed : end < length l → fed_all s (bytes_between from (end + 1) l) ≡ answered (fed_all s (bytes_between from end l))
  unfolding fed_all
  past_feed h =
      let one : end + 1 - from ≡ suc (end - from) = omega arith in
      let less : before_feed (drop from l) < length (drop from l) = rw length-drop (omega arith) in
      rw (one, spanned, take-suc (drop from l) (before_feed (drop from l)) 0 less, fed_pieces, at_feed (drop from l) less)

-- ---- written out on the way

-- a stream that had printed this before
abbrev behind : List ℕ → Stream → Stream
behind front s = record { session = s.session; kept = s.kept; printed = front ++ s.printed }

fed_behind : (front : List ℕ) (s : Stream) (bs : List ℕ) → fed_all (behind front s) bs ≡ behind front (fed_all s bs)
unfolding fed_all
fed_behind front s [] = refl
fed_behind front s (b ∷ bs) = rw (one (eqb b (code "\n"))) (fed_behind front (fed s b) bs)
  where
    one : (t : Bool) → cond t (answered (behind front s)) (keeps_byte (behind front s) b) ≡ behind front (cond t (answered s) (keeps_byte s b))
    one true = rw append_assoc
    one false = refl

-- printing only adds to what was printed
only_adds : (s : Stream) (bs : List ℕ) → fed_all s bs ≡ behind s.printed (fed_all (emptied s) bs)
only_adds s bs =
    let whole : behind s.printed (emptied s) ≡ s = rw append-nil in
    ap (λ t. fed_all t bs) (sym whole) ∙ fed_behind s.printed (emptied s) bs

pub finished_behind : (s : Stream) → s.printed ++ finished (emptied s) ≡ finished s
finished_behind s = on (is_open (response s.session s.kept).session.block)
  where
    answer : List ℕ
    answer = joined (response s.session s.kept).pieces

    last : List ℕ
    last = joined (ok_or_error false)

    on : (t : Bool) → s.printed ++ cond t (answer ++ last) answer ≡ cond t ((s.printed ++ answer) ++ last) (s.printed ++ answer)
    on true = rw append_assoc
    on false = refl

-- and so does what is written out behind it
pub written_on : (s : Stream) (bs : List ℕ) → s.printed ++ finished (fed_all (emptied s) bs) ≡ finished (fed_all s bs)
written_on s bs =
    let t = fed_all (emptied s) bs in
    ap (◌++◌ s.printed) (sym (finished_behind t))
    ∙ sym (append_assoc s.printed t.printed (finished (emptied t)))
    ∙ finished_behind (behind s.printed t)
    ∙ ap finished (sym (only_adds s bs))
