-- What stands at each word of the log: sixteen words a record, by the record's place, and zeros from there on.
use mathlib.Core.Path.{◌≡◌, refl, ap, ◌∙◌}
use mathlib.Core.List.{List, [], ◌∷◌, ◌++◌}
use Prim.Native.Nat.{ℕ, zero, suc, ◌+◌, ◌-◌, ◌*◌, ◌<◌, ◌≤◌}
use native.Mathlib.Nat.{zero-add, not-suc-le-zero, le_of_suc-le-suc}
use native.Mathlib.Omega.{arith}
use lib.ListN.{length, get_or, replicate, get_or-replicate, get_or-append}
use lib.Seq.{get_or-append-add}
use Rattle.conditions.proofs.Conditions.{place_below, place_at}
use Rattle.conditions.specs.declared.Condition.{Condition}
use Rattle.conditions.specs.declared.Condition.TheVariants.{IdleA, IdleB, IdleC, StandbyY, StandbyZ}
use Rattle.drive.specs.declared.Record.{Record}
use Rattle.conditions.specs.Conditions.{place_of, condition_at}
use Rattle.pages.specs.Logs.{named_words, log_place, logged_words, log_words}
use Rattle.pages.proofs.Page.{logged_length}

-- The table of word places: sixteen words a condition, in falling power.
pub place_words : (c : Condition) → log_place c ≡ 16 * place_of c
place_words IdleA = refl
place_words IdleB = refl
place_words IdleC = refl
place_words StandbyY = refl
place_words StandbyZ = refl

-- So the condition of a place begins at sixteen times the place.
pub place_start : (place : ℕ) → place < 5 → log_place (condition_at place) ≡ 16 * place
place_start place h = place_words (condition_at place) ∙ ap (λ (i : ℕ). 16 * i) (place_at place h)

logged_at : (rs : List Record) (place k : ℕ) (z : Record) (d : ℕ) → place < length rs → k < 16
    → get_or (logged_words rs) (16 * place + k) d ≡ get_or (named_words (get_or rs place z) ++ replicate 8 0) k d
unfolding logged_words
logged_at [] place k z d h m = absurd (not-suc-le-zero h)
logged_at (r ∷ rs) zero k z d h m = rw zero-add (get_or-append (named_words r ++ replicate 8 0) (logged_words rs) d k m)
logged_at (r ∷ rs) (suc place) k z d h m =
    let next : 16 * suc place + k ≡ 16 + (16 * place + k) = omega arith in
    rw next (get_or-append-add (named_words r ++ replicate 8 0) (logged_words rs) (16 * place + k) d
    ∙ logged_at rs place k z d (le_of_suc-le-suc h) m)

log_at : (rs : List Record) (c : Condition) (k : ℕ) (z : Record) (d : ℕ) → length rs ≡ 5 → k < 16
    → get_or (log_words rs) (log_place c + k) d ≡ get_or (named_words (get_or rs (place_of c) z) ++ replicate 8 0) k d
unfolding log_words
log_at rs c k z d five m =
    let below = place_below c in
    let inside : 16 * place_of c + k < length (logged_words rs) = rw logged_length (omega arith) in
    rw (place_words c)
    (get_or-append (logged_words rs) _ d (16 * place_of c + k) inside ∙ logged_at rs (place_of c) k z d (omega arith) m)

-- The k-th of a condition's named words stands k words after the condition's place.
pub named_word : (rs : List Record) (c : Condition) (k : ℕ) (z : Record) (d : ℕ) → length rs ≡ 5 → k < 8
    → get_or (log_words rs) (log_place c + k) d ≡ get_or (named_words (get_or rs (place_of c) z)) k d
named_word rs c k z d five h =
    log_at rs c k z d five (omega arith) ∙ get_or-append (named_words (get_or rs (place_of c) z)) (replicate 8 0) d k h

-- The other eight words of a condition are zero.
pub unnamed_word : (rs : List Record) (c : Condition) (k : ℕ) (d : ℕ) → length rs ≡ 5 → 8 ≤ k → k < 16
    → get_or (log_words rs) (log_place c + k) d ≡ 0
unnamed_word [] c k d five h m = omega arith
unnamed_word (r ∷ rs) c k d five h m =
    let after : k ≡ 8 + (k - 8) = omega arith in
    log_at (r ∷ rs) c k r d five m
    ∙ ap (λ (n : ℕ). get_or (named_words (get_or (r ∷ rs) (place_of c) r) ++ replicate 8 0) n d) after
    ∙ get_or-append-add (named_words (get_or (r ∷ rs) (place_of c) r)) (replicate 8 0) (k - 8) d
    ∙ get_or-replicate 8 (k - 8) 0 d (omega arith)

-- And so is every word after the five conditions.
pub word_past : (rs : List Record) (j : ℕ) (d : ℕ) → length rs ≡ 5 → 80 ≤ j → j < 256 → get_or (log_words rs) j d ≡ 0
unfolding log_words
word_past rs j d five h m =
    let size = logged_length rs in
    let after : j ≡ length (logged_words rs) + (j - 80) = omega arith in
    rw after (get_or-append-add (logged_words rs) _ (j - 80) d ∙ get_or-replicate (256 - length (logged_words rs)) (j - 80) 0 d (omega arith))
