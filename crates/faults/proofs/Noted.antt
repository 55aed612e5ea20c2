-- Faults noted one after another make the listing of them all: the first 64 in their places, and as many as there are.
use Rattle.std.proofs.Common.{◌≡◌, ℕ, zero, suc, ◌+◌, ◌*◌, ◌%◌, ◌^◌, ◌<◌, ◌≤◌, Bool, true, false, cond, ltb, List, [], ◌∷◌, ◌++◌, length, set, sym, refl, ap, ◌∙◌, append_assoc, append-nil, arith, length-append, lt-ltb}
use Prim.Native.Nat.compare
use Rattle.faults.specs.declared.Fault.{Fault}
use Rattle.faults.specs.declared.FaultKind.{FaultKind}
use Rattle.faults.specs.declared.Faults.{Faults}
use Rattle.faults.specs.Inner.{added, noted, added_if}
use Rattle.faults.specs.Listing.{kinds, faults_among, faults_at, faults_from, first_with_blanks, listing}
use Rattle.faults.specs.Tests.{is_fault}

pub noted_append : (g : Faults) (l m : List Fault) → noted g (l ++ m) ≡ noted (noted g l) m
unfolding noted
noted_append g [] m = refl
noted_append g (x ∷ l) m = noted_append (added g x) l m

-- ---- the first so many

ltb_suc : (m n : ℕ) → ltb (suc m) (suc n) ≡ ltb m n
ltb_suc m n = rw (compare.suc-suc)

module _ {A : Type 0} where
  same_cond : (b : Bool) (l : List A) → cond b l l ≡ l
  same_cond true l = refl
  same_cond false l = refl

  cond_cons : (b : Bool) (x : A) (l m : List A) → cond b (x ∷ l) (x ∷ m) ≡ x ∷ cond b l m
  cond_cons true x l m = refl
  cond_cons false x l m = refl

-- One more takes the place after the last, where that is among the first n; else they stay.
first_more : (n : ℕ) (m : List Fault) (x : Fault)
    → cond (ltb (length m) n) (set (first_with_blanks n m) (length m) x) (first_with_blanks n m) ≡ first_with_blanks n (m ++ (x ∷ []))
unfolding first_with_blanks
first_more zero m x = same_cond (ltb (length m) 0) []
first_more (suc n) [] x = rw (lt-ltb 0 (suc n) (omega arith))
first_more (suc n) (y ∷ m) x =
    rw (ltb_suc (length m) n, cond_cons (ltb (length m) n) y (set (first_with_blanks n m) (length m) x) (first_with_blanks n m), first_more n m x)

-- ---- what is noted

added_listing : (m : List Fault) (x : Fault) → length m + 1 < 2 ^ 32 → added (listing m) x ≡ listing (m ++ (x ∷ []))
added_listing m x h =
    let more = length-append m (x ∷ []) in
    let total : (length m + 1) % 2 ^ 32 ≡ length (m ++ (x ∷ [])) = omega arith in
    λ i. record { total = total i; listed = first_more 64 m x i }

-- From the listing of some on, more are noted: it is the listing of them all.
pub noted_listing : (m l : List Fault) → length m + length l < 2 ^ 32 → noted (listing m) l ≡ listing (m ++ l)
unfolding noted
noted_listing m [] h = ap listing (sym (append-nil m))
noted_listing m (x ∷ l) h =
    let more = length-append m (x ∷ []) in
    ap (λ (g : Faults). noted g l) (added_listing m x (omega arith))
    ∙ noted_listing (m ++ (x ∷ [])) l (omega arith) ∙ ap listing (append_assoc m (x ∷ []) l)

-- ---- a page has few faults

few_if : (b : Bool) (kind : FaultKind) (w : ℕ) (l : List Fault) (n : ℕ) → length l ≤ n → length (added_if b kind w l) ≤ suc n
few_if true kind w l n h = omega arith
few_if false kind w l n h = omega arith

among_few : (ks : List FaultKind) (page : List ℕ) (w : ℕ) → length (faults_among ks page w) ≤ length ks
among_few [] page w = omega arith
among_few (k ∷ ks) page w = few_if (is_fault page k w) k w (faults_among ks page w) (length ks) (among_few ks page w)

pub from_few : (page : List ℕ) (w n : ℕ) → length (faults_from page w n) ≤ 5 * n
unfolding faults_from faults_at
from_few page w zero = omega arith
from_few page w (suc n) =
    let here = among_few kinds page w in
    let rest = from_few page (suc w) n in
    let both = length-append (faults_among kinds page w) (faults_from page (suc w) n) in
    omega arith
