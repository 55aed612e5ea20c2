-- Lines are written one after another: with k of them written, those from k on are left to write. Where all have room, they stand there joined.
use mathlib.Core.Path.{◌≡◌, refl, sym, ap, ◌∙◌}
use mathlib.Core.List.{List, [], ◌∷◌, ◌++◌, append-nil, append_assoc, map}
use Prim.Native.Nat.{ℕ, zero, suc, ◌+◌, ◌<◌, ◌≤◌}
use native.Mathlib.Nat.{add-zero}
use native.Mathlib.Numerals.{add-one}
use native.Mathlib.Omega.{arith}
use lib.ListN.{length, get_or, take, length-append}
use lib.Seq.{paste, length-paste, take-paste, take-length}
use Rattle.std.proofs.lemmas.List.Edits.{paste_none, paste-paste}
use Rattle.rows.proofs.Values.{values}
use Rattle.digits.specs.Sheets.{Written}
use Rattle.digits.specs.Sheets.{wrote, wrote_all, joined, line_text}
use Rattle.digits.specs.Texts.{cut}
use Rattle.digits.proofs.Digits.{cut_once, goes_in, stays_out}

-- A line that is cut before its LF is put is the line cut once.
pub line_once : (bs : List ℕ) → line_text (cut bs) ≡ line_text bs
line_once bs = cut_once bs _

-- some lines, and then the others
pub wrote_then : (s : Written) (ls more : List (List ℕ)) → wrote_all s (ls ++ more) ≡ wrote_all (wrote_all s ls) more
unfolding wrote_all
wrote_then s [] more = refl
wrote_then s (bs ∷ ls) more = wrote_then (wrote s bs) ls more

-- and all of them in the buffer that was lent
pub same_buffer : (s : Written) (ls : List (List ℕ)) → (wrote_all s ls).lent ≡ s.lent
unfolding wrote_all
same_buffer s [] = refl
same_buffer s (bs ∷ ls) = same_buffer (wrote s bs) ls

-- ---- a line more

-- A sheet t that has a line more than s.
abbrev pub Adds : Written → List ℕ → Written → Type 0
Adds s bs t = t ≡ wrote s (line_text bs)

-- One that has the lines more that a function has at 0, 1, 2 .., n of them.
abbrev pub AddsAll : Written → (ℕ → List ℕ) → ℕ → Written → Type 0
AddsAll s f n t = t ≡ wrote_all s (values (λ k. line_text (f k)) n)

pub adds : (s : Written) {t : Written} {x : List ℕ} (bs : List ℕ) → Adds s x t → x ≡ cut bs → Adds s bs t
adds s bs e f = e ∙ rw (f, line_once)

next : (s : Written) (f : ℕ → List ℕ) (k : ℕ) → wrote (wrote_all s (values f k)) (f k) ≡ wrote_all s (values f (suc k))
unfolding wrote_all
next s f zero = refl
next s f (suc k) = next (wrote s (f 0)) (λ i. f (suc i)) k

pub adds_next : (s : Written) (f : ℕ → List ℕ) (k : ℕ) {t u : Written} {x : List ℕ} → AddsAll s f k t → Adds t x u → x ≡ cut (f k)
    → AddsAll s f (k + 1) u
adds_next s f k all one e = rw (one, all, e, line_once, add-one) (next s (λ i. line_text (f i)) k)

-- one more of a list's pieces
pub wrote_item : {A : Type 0} (s : Written) (f : A → List ℕ) (l : List A) (k : ℕ) (z : A) → k < length l
    → wrote (wrote_all s (map f (take k l))) (f (get_or l k z)) ≡ wrote_all s (map f (take (k + 1) l))
unfolding wrote_all
wrote_item s f l k z h = rw add-one (item s l k h)
  where
    item : (s : Written) (l : List _) (k : ℕ) → k < length l → wrote (wrote_all s (map f (take k l))) (f (get_or l k z)) ≡ wrote_all s (map f (take (suc k) l))
    item s [] k h = absurd (omega arith)
    item s (x ∷ l) zero h = refl
    item s (x ∷ l) (suc k) h = item (wrote s (f x)) l k (omega arith)

each : {A : Type 0} (f : A → List ℕ) (l : List A) → map line_text (map f l) ≡ map (λ x. line_text (f x)) l
each f [] = refl
each f (x ∷ l) = ap (◌∷◌ (line_text (f x))) (each f l)

-- one more of a list's lines
pub adds_item : {A : Type 0} (s : Written) (f : A → List ℕ) (l : List A) (k : ℕ) (z : A) {t u : Written} {x : List ℕ} → k < length l
    → t ≡ wrote_all s (map line_text (map f (take k l))) → Adds t x u → x ≡ cut (f (get_or l k z)) → u ≡ wrote_all s (map line_text (map f (take (k + 1) l)))
adds_item s f l k z h before one e =
    rw (one, before, e, line_once, each f (take k l), each f (take (k + 1) l)) (wrote_item s (λ x. line_text (f x)) l k z h)

-- ---- pieces that all have room

pub wrote_in : (s : Written) (bs : List ℕ) → s.len + length bs ≤ length s.bytes
    → ◌≡◌ {A = Written} (record { bytes = paste s.bytes s.len bs (length bs); len = s.len + length bs; lent = s.lent }) (wrote s bs)
wrote_in s bs h = let has = goes_in s.bytes s.len bs h in rw (has.0, has.1)

pub wrote_out : (s : Written) (bs : List ℕ) → length s.bytes < s.len + length bs → s ≡ wrote s bs
wrote_out s bs h = let has = stays_out s.bytes s.len bs h in rw (← has.0, ← has.1)

pub wrote_none : (s : Written) → s.len ≤ length s.bytes → s ≡ wrote s []
wrote_none s h =
    let same : ◌≡◌ {A = Written} s (record { bytes = paste s.bytes s.len [] 0; len = s.len + 0; lent = s.lent }) = rw (← paste_none s.bytes s.len [], add-zero) refl in
    same ∙ wrote_in s [] (omega arith)

-- one behind the other
pub wrote_both : (s : Written) (a b : List ℕ) → s.len + length (a ++ b) ≤ length s.bytes → wrote (wrote s a) b ≡ wrote s (a ++ b)
wrote_both s a b h =
    let sum = length-append a b in
    let t : Written = record { bytes = paste s.bytes s.len a (length a); len = s.len + length a; lent = s.lent } in
    let size = length-paste s.bytes s.len a (length a) (omega arith) (omega arith) in
    let far : s.len + length a + length b ≡ s.len + length (a ++ b) = omega arith in
    ap (λ (u : Written). wrote u b) (sym (wrote_in s a (omega arith)))
    ∙ sym (wrote_in t b (omega arith))
    ∙ rw (paste-paste s.bytes s.len a b (length a) (length b) refl refl (omega arith), ← sum, far) (wrote_in s (a ++ b) h)

-- A sheet t on which these bytes were written behind what stood on s.
abbrev pub Holds : Written → List ℕ → Written → Type 0
Holds s more t = (t.len ≡ s.len + length more) × (length t.bytes ≡ length s.bytes) × (take t.len t.bytes ≡ take s.len s.bytes ++ more)

one : (s : Written) (bs : List ℕ) → s.len + length bs ≤ length s.bytes → Holds s bs (wrote s bs)
one s bs h =
    let has = goes_in s.bytes s.len bs h in
    rw (← has.0, ← has.1) (
      refl,
      length-paste s.bytes s.len bs (length bs) (omega arith) (omega arith),
      rw (take-paste s.bytes s.len bs (length bs) (omega arith) (omega arith), take-length),
    )

joins : (s : Written) (ls : List (List ℕ)) → s.len + length (joined ls) ≤ length s.bytes → Holds s (joined ls) (wrote_all s ls)
unfolding wrote_all
joins s [] h = (omega arith, refl, sym (append-nil _))
joins s (bs ∷ more) h =
    let sum = length-append bs (joined more) in
    let first = one s bs (omega arith) in
    let rest = joins (wrote s bs) more (omega (arith, first.0, first.1)) in
    (omega (arith, first.0, rest.0), rest.1 ∙ first.1, rest.2 ∙ rw (first.2, append_assoc))

pub room : (s : Written) {t : Written} (ls : List (List ℕ)) → t ≡ wrote_all s ls → s.len + length (joined ls) ≤ length s.bytes → Holds s (joined ls) t
room s ls e h = rw e (joins s ls h)
