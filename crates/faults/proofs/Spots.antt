-- The faults at a word, by where it stands: what can be wrong there, and nothing else.
use Rattle.std.proofs.Common.{◌≡◌, ℕ, zero, suc, ◌+◌, ◌-◌, ◌*◌, ◌%◌, ◌<◌, ◌≤◌, Bool, true, false, not, ◌&&◌, ◌||◌, eqb, ltb, leb, List, [], ◌++◌, sym, refl, ap, ◌∙◌, append_assoc, append-nil, arith, ltb-true, eqb-true, le-leb}
use Rattle.std.proofs.Math.Bool.{or-false, or-true}
use borrow.Author.Tests.{lt-leb}
use Rattle.bits.specs.Bits.{some_one}
use Rattle.rows.proofs.Places.{and_left, and_right}
use Rattle.conditions.specs.Conditions.{condition_at}
use Rattle.drive.specs.declared.Record.{Record}
use Rattle.drive.specs.declared.Setting.{Setting}
use Rattle.pages.specs.Logs.{log_place}
use Rattle.pages.proofs.Words.{place_start}
use Rattle.pages.specs.Readings.{page_word, page_setting, record_from, page_record}
use Rattle.faults.specs.declared.Fault.{Fault}
use Rattle.faults.specs.declared.FaultKind.{FaultKind}
use Rattle.faults.specs.declared.FaultKind.TheVariants.{ReservedWord, ReservedBits, SetUnsupported, NoTimer, SavedOff}
use Rattle.faults.specs.declared.Faults.{Faults}
use Rattle.faults.specs.Inner.{noted, added_if, nonzero_from, head_faults, setting_faults, named_faults}
use Rattle.faults.specs.Listing.{faults_at, faults_from, faults_of, listing}
use Rattle.faults.specs.Tests.{is_at, owner_of, is_reserved_word, is_set_unsupported, enabled_without_timer, is_saved_off, is_fault}
use Rattle.faults.proofs.Noted.{noted_append, noted_listing, from_few}
use Rattle.faults.proofs.Where.{is_at_lem, is_reserved, owner, past_reserved}

-- ---- the list of so many words

from_append : (page : List ℕ) (w n m : ℕ) → faults_from page w (n + m) ≡ faults_from page w n ++ faults_from page (w + n) m
unfolding faults_from
from_append page w zero m =
    let none : 0 + m ≡ m = omega arith in
    let here : w + 0 ≡ w = omega arith in
    rw (none, here)
from_append page w (suc n) m =
    let more : suc n + m ≡ suc (n + m) = omega arith in
    let next : w + suc n ≡ suc w + n = omega arith in
    rw (more, next, from_append page (suc w) n m) (sym (append_assoc (faults_at page w) (faults_from page (suc w) n) (faults_from page (suc w + n) m)))

-- No words,
pub no_words : (page : List ℕ) (w : ℕ) → faults_from page w 0 ≡ []
unfolding faults_from
no_words page w = refl

-- and all of them.
pub every_word : (page : List ℕ) → faults_of page ≡ faults_from page 0 256
unfolding faults_of
every_word page = refl

-- The words from 0 on, and then so many more of them.
pub listed_more : (page : List ℕ) (n k : ℕ) → n + k ≤ 256 → noted (listing (faults_from page 0 n)) (faults_from page n k) ≡ listing (faults_from page 0 (n + k))
listed_more page n k few =
    let start : 0 + n ≡ n = omega arith in
    let first = from_few page 0 n in
    let next = from_few page n k in
    noted_listing (faults_from page 0 n) (faults_from page n k) (omega arith)
    ∙ ap (λ (w : ℕ). listing (faults_from page 0 n ++ faults_from page w k)) (sym start) ∙ ap listing (sym (from_append page 0 n k))

-- ---- a word by where it stands

-- The faults at a word w that is `reserved`, or +1, +2, +4 or +6 of the condition whose record is r.
abbrev by_tests : Bool → Bool → Bool → Bool → Bool → Record → List ℕ → ℕ → List Fault
by_tests reserved one two four six r page w =
    added_if (reserved && not (eqb (page_word page w) 0)) ReservedWord w
    (added_if ((one && some_one 12 0 (page_word page w)) || ((two || four || six) && some_one 14 0 (page_word page w))) ReservedBits w
    (added_if (one && is_set_unsupported r) SetUnsupported w
    (added_if ((two || four || six) && enabled_without_timer (page_setting page w)) NoTimer w
    (added_if (four && is_saved_off r) SavedOff w []))))

by_tests_lem : (page : List ℕ) (w : ℕ)
    → faults_at page w ≡ by_tests (is_reserved_word w) (is_at 1 w) (is_at 2 w) (is_at 4 w) (is_at 6 w) (page_record page (owner_of w)) page w
unfolding faults_at is_fault
by_tests_lem page w = refl

-- What stands at +k of the condition of a place.
abbrev spot_faults : List ℕ → ℕ → ℕ → List Fault
spot_faults page place k =
    by_tests (leb 8 k) (eqb k 1) (eqb k 2) (eqb k 4) (eqb k 6) (record_from page (16 * place)) page (16 * place + k)

-- A word that is that far on has those faults.
at_spot : (page : List ℕ) (place k w : ℕ) → place < 5 → k < 16 → w ≡ 16 * place + k → faults_at page w ≡ spot_faults page place k
at_spot page place k w h m e =
    let c = condition_at place in
    let start = place_start place h in
    let here : w ≡ log_place c + k = e ∙ ap (λ (n : ℕ). n + k) (sym start) in
    let at = is_at_lem c k m in
    ap (faults_at page) here ∙ by_tests_lem page (log_place c + k)
    ∙ (λ i. by_tests (is_reserved c k m i) (at 1 i) (at 2 i) (at 4 i) (at 6 i) (page_record page (owner c k m i)) page (log_place c + k))
    ∙ (λ i. by_tests (leb 8 k) (eqb k 1) (eqb k 2) (eqb k 4) (eqb k 6) (record_from page (start i)) page (start i + k))

-- ---- the named words of a condition

-- One that may be wrong, and then the others.
if_first : (b : Bool) (kind : FaultKind) (w : ℕ) (l : List Fault) → added_if b kind w l ≡ added_if b kind w [] ++ l
if_first true kind w l = refl
if_first false kind w l = refl

-- At the condition's own flag word.
head_spot : (page : List ℕ) (place : ℕ) → spot_faults page place 1 ≡ head_faults page (16 * place + 1) (record_from page (16 * place))
head_spot page place =
    let w = 16 * place + 1 in
    let last = added_if (is_set_unsupported (record_from page (16 * place))) SetUnsupported w [] in
    ap (λ (b : Bool). added_if b ReservedBits w last) (or-false (some_one 12 0 (page_word page w)))
    ∙ if_first (some_one 12 0 (page_word page w)) ReservedBits w last

-- At a setting's,
setting_spot : (page : List ℕ) (w : ℕ) (s : Setting)
    → added_if (some_one 14 0 (page_word page w)) ReservedBits w (added_if (enabled_without_timer s) NoTimer w []) ≡ setting_faults page w s
setting_spot page w s = if_first (some_one 14 0 (page_word page w)) ReservedBits w (added_if (enabled_without_timer s) NoTimer w [])

-- and at saved's with kind 4 as the last.
abbrev off_faults : Record → ℕ → List Fault
off_faults r w = added_if (is_saved_off r) SavedOff w []

saved_spot : (page : List ℕ) (place : ℕ)
    → spot_faults page place 4
    ≡ setting_faults page (16 * place + 4) (record_from page (16 * place)).saved ++ off_faults (record_from page (16 * place)) (16 * place + 4)
saved_spot page place =
    let w = 16 * place + 4 in
    let last = off_faults (record_from page (16 * place)) w in
    let timer = enabled_without_timer (page_setting page w) in
    let bits = some_one 14 0 (page_word page w) in
    let first = added_if bits ReservedBits w [] in
    if_first bits ReservedBits w (added_if timer NoTimer w last) ∙ ap (λ (l : List Fault). first ++ l) (if_first timer NoTimer w last)
    ∙ sym (append_assoc first (added_if timer NoTimer w []) last)

named_eight : (page : List ℕ) (place : ℕ) → place < 5 → faults_from page (16 * place) 8 ≡ named_faults page (16 * place) (record_from page (16 * place))
unfolding faults_from
named_eight page place h =
    let w = 16 * place in
    let r = record_from page w in
    let zeroth = at_spot page place 0 w h (omega arith) (omega arith) in
    let first = at_spot page place 1 (suc w) h (omega arith) (omega arith) ∙ head_spot page place in
    let second = at_spot page place 2 (suc (suc w)) h (omega arith) (omega arith) ∙ setting_spot page (w + 2) r.default in
    let third = at_spot page place 3 (suc (suc (suc w))) h (omega arith) (omega arith) in
    let fourth = at_spot page place 4 (suc (suc (suc (suc w)))) h (omega arith) (omega arith) ∙ saved_spot page place in
    let fifth = at_spot page place 5 (suc (suc (suc (suc (suc w))))) h (omega arith) (omega arith) in
    let sixth = at_spot page place 6 (suc (suc (suc (suc (suc (suc w)))))) h (omega arith) (omega arith) ∙ setting_spot page (w + 6) r.current in
    let seventh = at_spot page place 7 (suc (suc (suc (suc (suc (suc (suc w))))))) h (omega arith) (omega arith) in
    let saved = setting_faults page (w + 4) r.saved in
    let current = setting_faults page (w + 6) r.current in
    (λ i. zeroth i ++ (first i ++ (second i ++ (third i ++ (fourth i ++ (fifth i ++ (sixth i ++ (seventh i ++ []))))))))
    ∙ ap (λ (l : List Fault). head_faults page (w + 1) r ++ (setting_faults page (w + 2) r.default ++ l))
    (append_assoc saved (off_faults r (w + 4)) (current ++ []) ∙ ap (λ (l : List Fault). saved ++ (off_faults r (w + 4) ++ l)) (append-nil current))

-- ---- reserved words

-- Within the conditions, +8 to +15.
other_reserved : (place w : ℕ) → 16 * place + 8 ≤ w → w < 16 * place + 16 → is_reserved_word w ≡ true
other_reserved place w h m = rw (le-leb 8 (w % 16) (omega arith)) (or-true (leb 0x50 w))

not_named : (w k : ℕ) → k < 8 → is_reserved_word w ≡ true → is_at k w ≡ false
not_named w k h e = on (is_at k w) refl
  where
    on : (b : Bool) → is_at k w ≡ b → b ≡ false
    on false t = refl
    on true t =
        let low = ltb-true w 0x50 (and_left _ _ t) in
        let offset = eqb-true (w % 16) k (and_right (ltb w 0x50) _ t) in
        let unreserved : is_reserved_word w ≡ false = rw (lt-leb 0x50 w low, lt-leb 8 (w % 16) (omega arith)) in
        sym e ∙ unreserved

at_reserved : (page : List ℕ) (w : ℕ) → is_reserved_word w ≡ true → faults_at page w ≡ added_if (not (eqb (page_word page w) 0)) ReservedWord w []
at_reserved page w e =
    let one = not_named w 1 (omega arith) e in
    let two = not_named w 2 (omega arith) e in
    let four = not_named w 4 (omega arith) e in
    let six = not_named w 6 (omega arith) e in
    by_tests_lem page w ∙ (λ i. by_tests (e i) (one i) (two i) (four i) (six i) (page_record page (owner_of w)) page w)

-- So of reserved words the faults are those that are not zero.
all_reserved : (page : List ℕ) (w n : ℕ) → ((v : ℕ) → w ≤ v → v < w + n → is_reserved_word v ≡ true) → faults_from page w n ≡ nonzero_from page w n
unfolding faults_from nonzero_from
all_reserved page w zero each = refl
all_reserved page w (suc n) each =
    let here = at_reserved page w (each w (omega arith) (omega arith)) in
    let rest = all_reserved page (suc w) n (λ v h m. each v (omega arith) (omega arith)) in
    λ i. here i ++ rest i

-- A condition's sixteen words: the named ones, then the others.
pub condition_words : (page : List ℕ) (place : ℕ) → place < 5
    → faults_from page (16 * place) 16 ≡ named_faults page (16 * place) (record_from page (16 * place)) ++ nonzero_from page (16 * place + 8) 8
condition_words page place h =
    from_append page (16 * place) 8 8
    ∙ (λ i. named_eight page place h i ++ all_reserved page (16 * place + 8) 8 (λ v at below. other_reserved place v at (omega arith)) i)

-- The words after the conditions.
pub past_words : (page : List ℕ) → nonzero_from page 80 176 ≡ faults_from page 80 176
past_words page = sym (all_reserved page 80 176 (λ v at below. past_reserved v at))

-- One more word looked at.
nonzero_append : (page : List ℕ) (w n : ℕ)
    → nonzero_from page w (suc n) ≡ nonzero_from page w n ++ added_if (not (eqb (page_word page (w + n)) 0)) ReservedWord (w + n) []
unfolding nonzero_from
nonzero_append page w zero =
    let here : w + 0 ≡ w = omega arith in
    rw here (append-nil (added_if (not (eqb (page_word page w) 0)) ReservedWord w []))
nonzero_append page w (suc n) =
    let next : w + suc n ≡ suc w + n = omega arith in
    let first = added_if (not (eqb (page_word page w) 0)) ReservedWord w [] in
    rw next (ap (λ (l : List Fault). first ++ l) (nonzero_append page (suc w) n)
    ∙ sym (append_assoc first (nonzero_from page (suc w) n) (added_if (not (eqb (page_word page (suc w + n)) 0)) ReservedWord (suc w + n) [])))

pub nonzero_more : (page : List ℕ) (from w : ℕ) → from ≤ w
    → nonzero_from page from (w + 1 - from) ≡ nonzero_from page from (w - from) ++ added_if (not (eqb (page_word page w) 0)) ReservedWord w []
nonzero_more page from w h =
    let count : w + 1 - from ≡ suc (w - from) = omega arith in
    let place : from + (w - from) ≡ w = omega arith in
    ap (nonzero_from page from) count ∙ nonzero_append page from (w - from)
    ∙ ap (λ (v : ℕ). nonzero_from page from (w - from) ++ added_if (not (eqb (page_word page v) 0)) ReservedWord v []) place

-- None looked at yet.
pub noted_none : (f : Faults) (page : List ℕ) (from : ℕ) → noted f (nonzero_from page from (from - from)) ≡ f
unfolding noted nonzero_from
noted_none f page from = let none : from - from ≡ 0 = omega arith in rw none

-- What a turn over reserved words needs,
pub ruleset reserved_steps = (noted_none, nonzero_more, noted_append)

-- and the list of a page.
pub ruleset page_steps = (no_words, listed_more, past_words, every_word)
