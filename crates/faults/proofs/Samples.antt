-- Pages that are computed: some for each kind of fault, two kinds at one word, and more faults than are listed.
use Rattle.std.proofs.Common.{◌≡◌, ℕ, zero, suc, ◌+◌, ◌*◌, ◌/◌, ◌%◌, List, [], ◌∷◌, ◌++◌, map, length, get_or, take, set, replicate, refl, ap, arith}
use Rattle.conditions.specs.Conditions.{falling}
use Rattle.conditions.specs.declared.Condition.{Condition}
use Rattle.pages.specs.Logs.{log_place}
use Rattle.faults.specs.declared.Fault.{Fault}
use Rattle.faults.specs.declared.FaultKind.{FaultKind}
use Rattle.faults.specs.declared.FaultKind.TheVariants.{ReservedWord, ReservedBits, SetUnsupported, NoTimer, SavedOff}
use Rattle.faults.specs.Listing.{kinds, faults_among, faults_at, faults_from, faults_of, blank_fault, first_with_blanks, listing}
use Rattle.faults.specs.Tests.{is_fault}

-- A word, and what it is set to.
infix 70 ◌is◌
pub record Word : Type 0 where
  pub place : ℕ
  pub value : ℕ

abbrev ◌is◌ : ℕ → ℕ → Word
w is v = record { place = w; value = v }

-- A page of zeros but for these words.
abbrev page_with : List Word → List ℕ
page_with [] = replicate 512 0
page_with (x ∷ xs) = set (set (page_with xs) (2 * x.place) (x.value % 256)) (2 * x.place + 1) (x.value / 256)

infix 70 ◌at◌
abbrev ◌at◌ : FaultKind → ℕ → Fault
kind at w = record { kind = kind; place = w }

-- A page by its words, and every fault that it has.
pub record Sample : Type 0 where
  pub words : List Word
  pub faults : List Fault

infix 5 ◌has◌
abbrev ◌has◌ : List Word → List Fault → Sample
words has faults = record { words = words; faults = faults }

-- A maker's page with one condition in order: supported, saveable and changeable, 100 ms, default and saved on at 2 s, current off at 0.7 s.
abbrev in_order : List Word
in_order = 0x10 is 100 ∷ 0x11 is 0xE000 ∷ 0x12 is 0x8000 ∷ 0x13 is 20 ∷ 0x14 is 0x8000 ∷ 0x15 is 20 ∷ 0x17 is 7 ∷ []

abbrev pub samples : List Sample
samples =
    -- none: a page of zeros, and one in order
    ([] has [])
    ∷ (in_order has [])
    -- kind 0: the first and the last reserved word of the conditions, the first and the last after them
    ∷ (0x08 is 1 ∷ [] has ReservedWord at 0x08 ∷ [])
    ∷ (0x4F is 0x100 ∷ [] has ReservedWord at 0x4F ∷ [])
    ∷ (0x50 is 1 ∷ 0xFF is 0x8000 ∷ [] has ReservedWord at 0x50 ∷ ReservedWord at 0xFF ∷ [])
    -- kind 1: the highest reserved bit of +1, on a supported condition; that of +2 and the lowest of a standby condition's +6, where nothing named is
    -- set, so there is no kind 2
    ∷ (0x11 is 0x9000 ∷ [] has ReservedBits at 0x11 ∷ [])
    ∷ (0x02 is 0x4000 ∷ 0x46 is 1 ∷ [] has ReservedBits at 0x02 ∷ ReservedBits at 0x46 ∷ [])
    -- kind 2: a recovery time, or a bit, on a condition that is not supported
    ∷ (0x20 is 100 ∷ [] has SetUnsupported at 0x21 ∷ [])
    ∷ (0x31 is 0x2000 ∷ [] has SetUnsupported at 0x31 ∷ [])
    -- kind 3: at the flag word of the setting
    ∷ (0x01 is 0xC000 ∷ 0x02 is 0x8000 ∷ [] has NoTimer at 0x02 ∷ [])
    ∷ (0x01 is 0xC000 ∷ 0x06 is 0x8000 ∷ [] has NoTimer at 0x06 ∷ [])
    -- kind 4: by the timer, by the flag; not where the condition is saveable
    ∷ (0x41 is 0x8000 ∷ 0x45 is 5 ∷ [] has SavedOff at 0x44 ∷ [])
    ∷ (0x41 is 0x8000 ∷ 0x43 is 5 ∷ 0x44 is 0x8000 ∷ 0x45 is 5 ∷ [] has SavedOff at 0x44 ∷ [])
    ∷ (0x41 is 0xC000 ∷ 0x45 is 5 ∷ [] has [])
    -- saved shorter than default, and changeable; saved as default though current is not; saveable though not supported
    ∷ (0x11 is 0xA000 ∷ 0x13 is 2 ∷ 0x15 is 1 ∷ [] has SavedOff at 0x14 ∷ [])
    ∷ (0x11 is 0x8000 ∷ 0x13 is 2 ∷ 0x15 is 2 ∷ 0x17 is 1 ∷ [] has [])
    ∷ (0x31 is 0x4000 ∷ 0x35 is 1 ∷ [] has SetUnsupported at 0x31 ∷ [])
    -- reserved bits of +1 alone set nothing of the record
    ∷ (0x01 is 0x1FFF ∷ [] has ReservedBits at 0x01 ∷ [])
    -- two kinds at one word, and three faults of one condition
    ∷ (0x01 is 0xC000 ∷ 0x04 is 0x8001 ∷ [] has ReservedBits at 0x04 ∷ NoTimer at 0x04 ∷ [])
    ∷ (0x14 is 0x8000 ∷ [] has SetUnsupported at 0x11 ∷ NoTimer at 0x14 ∷ SavedOff at 0x14 ∷ [])
    -- by place before kind
    ∷ (0x08 is 1 ∷ 0x11 is 0x9000 ∷ 0x18 is 1 ∷ [] has ReservedWord at 0x08 ∷ ReservedBits at 0x11 ∷ ReservedWord at 0x18 ∷ [])
    ∷ []

-- Each has just these faults, in this order.
pub samples_hold : map (λ (s : Sample). faults_of (page_with s.words)) samples ≡ map (λ (s : Sample). s.faults) samples
unfolding faults_of faults_from faults_at is_fault
samples_hold = refl

-- A page of nothing but ones: 236 faults, of which the first 64 are listed; the last of these is the reserved word 53h.
abbrev all_ones : List ℕ
all_ones = replicate 512 0xFF

pub many_counted : (listing (faults_of all_ones)).total ≡ 236
unfolding faults_of faults_from faults_at is_fault
many_counted = refl

pub many_listed : get_or (listing (faults_of all_ones)).listed 63 blank_fault ≡ ReservedWord at 0x53
unfolding faults_of faults_from faults_at is_fault first_with_blanks
many_listed = refl

-- ---- wrong lists

abbrev of_kind : FaultKind → List ℕ → ℕ → ℕ → List Fault
of_kind kind page w zero = []
of_kind kind page w (suc n) = faults_among (kind ∷ []) page w ++ of_kind kind page (suc w) n

-- By kind before place: every fault that applies, but in another order.
abbrev by_kind : List ℕ → List FaultKind → List Fault
by_kind page [] = []
by_kind page (kind ∷ rest) = of_kind kind page 0 256 ++ by_kind page rest

pub by_kind_refuted : ((page : List ℕ) → length page ≡ 512 → by_kind page kinds ≡ faults_of page) → ⊥
unfolding faults_of faults_from faults_at is_fault
by_kind_refuted same =
    let page = page_with (0x08 is 1 ∷ 0x11 is 0x9000 ∷ 0x18 is 1 ∷ []) in
    let second : ◌≡◌ {A = ℕ} 0x18 0x11 = ap (λ (l : List Fault). (get_or l 1 blank_fault).place) (same page refl) in
    omega arith

-- Stops at the first fault of a condition.
abbrev first_only : List ℕ → List Condition → List Fault
first_only page [] = faults_from page 0x50 176
first_only page (c ∷ rest) = take 1 (faults_from page (log_place c) 16) ++ first_only page rest

pub first_only_refuted : ((page : List ℕ) → length page ≡ 512 → first_only page falling ≡ faults_of page) → ⊥
unfolding faults_of faults_from faults_at is_fault
first_only_refuted same =
    let count : ◌≡◌ {A = ℕ} 1 3 = ap length (same (page_with (0x14 is 0x8000 ∷ [])) refl) in
    omega arith
