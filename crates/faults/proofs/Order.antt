-- Document 02, request (v): the list has every fault that applies and no other, in order and none twice; what is given is the first 64 and the total.
-- Each is a walk along the kinds of a word, then along the words: what is listed there has that place, and a kind of those.
use Rattle.std.proofs.Common.{◌≡◌, ℕ, zero, suc, ◌+◌, ◌*◌, ◌<◌, ◌≤◌, Bool, true, false, ◌⊎◌, ◌↔◌, List, [], ◌∷◌, ◌++◌, length, get_or, sym, refl, ap, ◌∙◌, subst, inl, inr, ⊎_elim, true≢false, le_of_suc-le-suc, eq-or-lt_of_le, arith}
use mathlib.Core.List.Memᴰ
use mathlib.Core.List.{Memᴰ}
use lib.ListN.{get_or-eq_default}
use Rattle.faults.specs.declared.Fault.{Fault}
use Rattle.faults.specs.declared.FaultKind.{FaultKind}
use Rattle.faults.specs.declared.FaultKind.TheVariants.{ReservedWord, ReservedBits, SetUnsupported, NoTimer, SavedOff}
use Rattle.faults.specs.Inner.{added_if}
use Rattle.faults.specs.Listing.{kinds, faults_among, faults_at, faults_from, faults_of, blank_fault, first_with_blanks, listing}
use Rattle.faults.specs.Tests.{kind_number, is_fault}
use Rattle.faults.proofs.Noted.{from_few}

-- ---- what is listed applies

-- Of one that may be wrong and others: it is that one, or one of the others.
if_cases : (b : Bool) (k : FaultKind) (w : ℕ) (l : List Fault) (f : Fault) → Memᴰ f (added_if b k w l)
    → ((b ≡ true) × (f ≡ record { kind = k; place = w })) ⊎ Memᴰ f l
if_cases true k w l f m = ⊎_elim (λ (e : f ≡ record { kind = k; place = w }). inl (refl, e)) inr (Memᴰ.cases_cons m)
if_cases false k w l f m = inr m

-- What a fault among those of some kinds at a word is.
record At (ks : List FaultKind) (page : List ℕ) (w : ℕ) (f : Fault) : Type 0 where
  place : f.place ≡ w
  kind : Memᴰ f.kind ks
  applies : is_fault page f.kind f.place ≡ true

among_has : (ks : List FaultKind) (page : List ℕ) (w : ℕ) (f : Fault) → Memᴰ f (faults_among ks page w) → At ks page w f
among_has [] page w f m = absurd (Memᴰ.not-nil m)
among_has (k ∷ ks) page w f m =
    elim (if_cases (is_fault page k w) k w (faults_among ks page w) f m) [
      | inl e ↦ record { place = ap (λ (g : Fault). g.place) e.1; kind = Memᴰ.head (ap (λ (g : Fault). g.kind) e.1); applies = rw e.1 e.0 }
      | inr n ↦ let rest = among_has ks page w f n in record { place = rest.place; kind = Memᴰ.tail rest.kind; applies = rest.applies }
    ]

-- What a fault among those of some words is.
record Within (page : List ℕ) (w n : ℕ) (f : Fault) : Type 0 where
  from : w ≤ f.place
  below : f.place < w + n
  applies : is_fault page f.kind f.place ≡ true

from_has : (page : List ℕ) (w n : ℕ) (f : Fault) → Memᴰ f (faults_from page w n) → Within page w n f
unfolding faults_from faults_at
from_has page w zero f m = absurd (Memᴰ.not-nil m)
from_has page w (suc n) f m =
    elim (Memᴰ.append_cases (faults_among kinds page w) m) [
      | inl h ↦ let here = among_has kinds page w f h in record { from = omega arith; below = omega arith; applies = here.applies }
      | inr h ↦ let rest = from_has page (suc w) n f h in record { from = omega arith; below = omega arith; applies = rest.applies }
    ]

-- ---- what applies is listed

in_if : (b : Bool) (k : FaultKind) (w : ℕ) (l : List Fault) → b ≡ true → Memᴰ (record { kind = k; place = w }) (added_if b k w l)
in_if true k w l e = Memᴰ.head refl
in_if false k w l e = absurd (true≢false (sym e))

after_if : (b : Bool) (k : FaultKind) (w : ℕ) {l : List Fault} {f : Fault} → Memᴰ f l → Memᴰ f (added_if b k w l)
after_if true k w m = Memᴰ.tail m
after_if false k w m = m

in_among : (ks : List FaultKind) (page : List ℕ) (w : ℕ) (k : FaultKind) → Memᴰ k ks → is_fault page k w ≡ true
    → Memᴰ (record { kind = k; place = w }) (faults_among ks page w)
in_among [] page w k m e = absurd (Memᴰ.not-nil m)
in_among (j ∷ ks) page w k m e =
    elim (Memᴰ.cases_cons m) [
      | inl same ↦ rw same (in_if (is_fault page j w) j w (faults_among ks page w) (rw same at e))
      | inr rest ↦ after_if (is_fault page j w) j w (in_among ks page w k rest e)
    ]

ruleset in_List = (Memᴰ.head, Memᴰ.tail)

every_kind : (k : FaultKind) → Memᴰ k kinds
every_kind ReservedWord = search in_List depth 6
every_kind ReservedBits = search in_List depth 6
every_kind SetUnsupported = search in_List depth 6
every_kind NoTimer = search in_List depth 6
every_kind SavedOff = search in_List depth 6

in_from : (page : List ℕ) (w n v : ℕ) (k : FaultKind) → w ≤ v → v < w + n → is_fault page k v ≡ true
    → Memᴰ (record { kind = k; place = v }) (faults_from page w n)
unfolding faults_from faults_at
in_from page w zero v k from below e = absurd (omega arith)
in_from page w (suc n) v k from below e =
    elim (eq-or-lt_of_le from) [
      | inl same ↦ rw (← same) (Memᴰ.append_left (faults_from page (suc w) n) (in_among kinds page w k (every_kind k) (rw (← same) at e)))
      | inr past ↦ Memᴰ.append_right (faults_among kinds page w) (in_from page (suc w) n v k past (omega arith) e)
    ]

-- ---- a place in the list

-- A fault stands in the list, at some place.
abbrev pub IsIn : Fault → List Fault → Type 0
IsIn f l = (i : ℕ) × (i < length l) × (get_or l i blank_fault ≡ f)

at_in : (l : List Fault) (i : ℕ) → i < length l → Memᴰ (get_or l i blank_fault) l
at_in [] i h = absurd (omega arith)
at_in (f ∷ l) zero h = Memᴰ.head refl
at_in (f ∷ l) (suc i) h = Memᴰ.tail (at_in l i (le_of_suc-le-suc h))

in_at : (l : List Fault) (f : Fault) → Memᴰ f l → IsIn f l
in_at [] f m = absurd (Memᴰ.not-nil m)
in_at (g ∷ l) f m =
    elim (Memᴰ.cases_cons m) [
      | inl e ↦ (0, omega arith, sym e)
      | inr n ↦ let rest = in_at l f n in (suc rest.0, omega arith, rest.2)
    ]

-- "Every one that applies is listed", and no other.
pub in_list_exactly : (page : List ℕ) (k : FaultKind) (w : ℕ)
    → IsIn (record { kind = k; place = w }) (faults_of page) ↔ ((w < 256) × (is_fault page k w ≡ true))
unfolding faults_of
in_list_exactly page k w = (has, λ h. in_at (faults_from page 0 256) _ (in_from page 0 256 w k (omega arith) h.0 h.1))
  where
    has : IsIn (record { kind = k; place = w }) (faults_from page 0 256) → (w < 256) × (is_fault page k w ≡ true)
    has (i, h, e) = let it = from_has page 0 256 _ (rw e at (at_in (faults_from page 0 256) i h)) in (it.below, it.applies)

-- ---- a page without faults

nothing_in_lem : (l : List Fault) → ((f : Fault) → IsIn f l → ⊥) → l ≡ []
nothing_in_lem [] none = refl
nothing_in_lem (f ∷ l) none = absurd (none f (0, omega arith, refl))

-- No fault is listed: then no test holds at any word,
pub none_each : (page : List ℕ) → faults_of page ≡ [] → (w : ℕ) → w < 256 → (k : FaultKind) → is_fault page k w ≡ false
none_each page none w h k = on (is_fault page k w) refl
  where
    on : (applies : Bool) → is_fault page k w ≡ applies → is_fault page k w ≡ false
    on true e =
        let it = (in_list_exactly page k w).1 (h, e) in
        let empty = ap length none in
        absurd (omega arith)
    on false e = e

-- and the other way round.
pub none_all : (page : List ℕ) → ((w : ℕ) → w < 256 → (k : FaultKind) → is_fault page k w ≡ false) → faults_of page ≡ []
none_all page none =
    nothing_in_lem (faults_of page) (λ f m.
    let it = (in_list_exactly page f.kind f.place).0 m in
    true≢false (sym it.1 ∙ none f.place it.0 f.kind))

-- ---- the order

-- "by place", "at one place in the order just named": a smaller place, or the same place and a smaller number of the kind.
abbrev pub IsBefore : Fault → Fault → Type 0
IsBefore f g = (f.place < g.place) ⊎ ((f.place ≡ g.place) × (kind_number f.kind < kind_number g.kind))

-- Each is before all that follow.
abbrev Sorted : List Fault → Type 0
Sorted [] = Unit
Sorted (f ∷ l) = ((g : Fault) → Memᴰ g l → IsBefore f g) × Sorted l

sorted_at : (l : List Fault) → Sorted l → (i j : ℕ) → i < j → j < length l → IsBefore (get_or l i blank_fault) (get_or l j blank_fault)
sorted_at [] s i j h below = absurd (omega arith)
sorted_at (f ∷ l) s i zero h below = absurd (omega arith)
sorted_at (f ∷ l) s zero (suc j) h below = s.0 (get_or l j blank_fault) (at_in l j (le_of_suc-le-suc below))
sorted_at (f ∷ l) s (suc i) (suc j) h below = sorted_at l s.1 i j (le_of_suc-le-suc h) (le_of_suc-le-suc below)

sorted_append : (l m : List Fault) → Sorted l → Sorted m → ((f g : Fault) → Memᴰ f l → Memᴰ g m → IsBefore f g) → Sorted (l ++ m)
sorted_append [] m s t across = t
sorted_append (f ∷ l) m s t across = (
  λ g h. ⊎_elim (s.0 g) (across f g (Memᴰ.head refl)) (Memᴰ.append_cases l h),
  sorted_append l m s.1 t (λ e g a b. across e g (Memᴰ.tail a) b),
)

sorted_if : (b : Bool) (k : FaultKind) (w : ℕ) (l : List Fault) → Sorted l
    → ((g : Fault) → Memᴰ g l → IsBefore (record { kind = k; place = w }) g) → Sorted (added_if b k w l)
sorted_if true k w l s first = (first, s)
sorted_if false k w l s first = s

-- The kinds' numbers go up by one, from n.
abbrev Numbered : ℕ → List FaultKind → Type 0
Numbered n [] = Unit
Numbered n (k ∷ ks) = (kind_number k ≡ n) × Numbered (suc n) ks

kinds_numbered : Numbered 0 kinds
kinds_numbered = (refl, (refl, (refl, (refl, (refl, tt)))))

numbered_from : (n : ℕ) (ks : List FaultKind) → Numbered n ks → (k : FaultKind) → Memᴰ k ks → n ≤ kind_number k
numbered_from n [] up k m = absurd (Memᴰ.not-nil m)
numbered_from n (j ∷ ks) up k m =
    elim (Memᴰ.cases_cons m) [
      | inl e ↦ let same = ap kind_number e in omega arith
      | inr rest ↦ let later = numbered_from (suc n) ks up.1 k rest in omega arith
    ]

among_sorted : (n : ℕ) (ks : List FaultKind) → Numbered n ks → (page : List ℕ) (w : ℕ) → Sorted (faults_among ks page w)
among_sorted n [] up page w = tt
among_sorted n (k ∷ ks) up page w =
    sorted_if (is_fault page k w) k w (faults_among ks page w) (among_sorted (suc n) ks up.1 page w) (λ g m.
    let it = among_has ks page w g m in
    let later = numbered_from (suc n) ks up.1 g.kind it.kind in
    inr (sym it.place, omega arith))

from_sorted : (page : List ℕ) (w n : ℕ) → Sorted (faults_from page w n)
unfolding faults_from faults_at
from_sorted page w zero = tt
from_sorted page w (suc n) =
    sorted_append (faults_among kinds page w) (faults_from page (suc w) n) (among_sorted 0 kinds kinds_numbered page w) (from_sorted page (suc w) n) (λ f g a b.
    let here = among_has kinds page w f a in
    let later = from_has page (suc w) n g b in
    inl (omega arith))

-- Of two in the list, the first is before the second.
pub in_order_lem : (page : List ℕ) (i j : ℕ) → i < j → j < length (faults_of page)
    → IsBefore (get_or (faults_of page) i blank_fault) (get_or (faults_of page) j blank_fault)
unfolding faults_of
in_order_lem page i j h below = sorted_at (faults_from page 0 256) (from_sorted page 0 256) i j h below

not_before_itself : (f g : Fault) → f ≡ g → IsBefore f g → ⊥
not_before_itself f g e (inl h) = let same = ap (λ (x : Fault). x.place) e in omega arith
not_before_itself f g e (inr h) = let same = ap (λ (x : Fault). kind_number x.kind) e in omega arith

-- So none is in the list twice.
pub in_list_once : (page : List ℕ) (i j : ℕ) → i < length (faults_of page) → j < length (faults_of page)
    → get_or (faults_of page) i blank_fault ≡ get_or (faults_of page) j blank_fault → i ≡ j
in_list_once page i j h m e =
    let first : i < j → ⊥ = λ before. not_before_itself _ _ e (in_order_lem page i j before m) in
    let second : j < i → ⊥ = λ before. not_before_itself _ _ (sym e) (in_order_lem page j i before h) in
    omega arith

-- ---- what is given

first_length : (n : ℕ) (l : List Fault) → length (first_with_blanks n l) ≡ n
unfolding first_with_blanks
first_length zero l = refl
first_length (suc n) [] = ap suc (first_length n [])
first_length (suc n) (f ∷ l) = ap suc (first_length n l)

first_at : (n : ℕ) (l : List Fault) (i : ℕ) → i < n → get_or (first_with_blanks n l) i blank_fault ≡ get_or l i blank_fault
unfolding first_with_blanks
first_at zero l i h = absurd (omega arith)
first_at (suc n) [] zero h = refl
first_at (suc n) [] (suc i) h = first_at n [] i (le_of_suc-le-suc h)
first_at (suc n) (f ∷ l) zero h = refl
first_at (suc n) (f ∷ l) (suc i) h = first_at n l i (le_of_suc-le-suc h)

-- "the total is given": of all, also of those that are not listed.
pub total_all : (l : List Fault) → (listing l).total ≡ length l
total_all l = refl

-- "At most 64 faults are listed": 64 places,
pub listed_places : (l : List Fault) → length (listing l).listed ≡ 64
listed_places l = first_length 64 l

-- with the first 64 of the list, each in its place,
pub listed_first : (l : List Fault) (i : ℕ) → i < 64 → get_or (listing l).listed i blank_fault ≡ get_or l i blank_fault
listed_first l i h = first_at 64 l i h

-- and kind 0 at word 0 after its last.
pub listed_blank : (l : List Fault) (i : ℕ) → length l ≤ i → i < 64 → get_or (listing l).listed i blank_fault ≡ record { kind = ReservedWord; place = 0 }
listed_blank l i past h = first_at 64 l i h ∙ get_or-eq_default l blank_fault past

-- A page has 256 words, and a word at most one fault of each of the five kinds.
pub at_most : (page : List ℕ) → length (faults_of page) ≤ 256 * 5
unfolding faults_of
at_most page = let few = from_few page 0 256 in omega arith

-- ---- the array that is given

-- Each of its entries before the total applies,
pub given_applies : (page : List ℕ) (i : ℕ) → i < 64 → i < length (faults_of page)
    → let f = get_or (listing (faults_of page)).listed i blank_fault in (f.place < 256) × (is_fault page f.kind f.place ≡ true)
given_applies page i h m =
    let f = get_or (faults_of page) i blank_fault in
    subst (λ (g : Fault). (g.place < 256) × (is_fault page g.kind g.place ≡ true)) (sym (listed_first (faults_of page) i h))
    ((in_list_exactly page f.kind f.place).0 (i, m, refl))

-- and where there are no more than 64, each that applies is one of them.
pub given_all : (page : List ℕ) (k : FaultKind) (w : ℕ) → length (faults_of page) ≤ 64 → w < 256 → is_fault page k w ≡ true
    → (i : ℕ) × (i < length (faults_of page)) × (get_or (listing (faults_of page)).listed i blank_fault ≡ record { kind = k; place = w })
given_all page k w few small applies =
    let found = (in_list_exactly page k w).1 (small, applies) in
    (found.0, found.1, listed_first (faults_of page) found.0 (omega (arith, found.1)) ∙ found.2)

-- What fills it after the last is no page's fault.
pub blank_none : (page : List ℕ) → is_fault page blank_fault.kind blank_fault.place ≡ false
unfolding is_fault
blank_none page = refl
