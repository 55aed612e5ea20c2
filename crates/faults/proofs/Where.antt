-- Where a word stands: what can be wrong at +k of a condition, and after the conditions.
use Rattle.std.proofs.Common.{◌≡◌, ℕ, ◌+◌, ◌*◌, ◌/◌, ◌%◌, ◌<◌, ◌≤◌, Bool, true, false, not, ◌&&◌, ◌||◌, eqb, leb, List, sym, ap, ◌∙◌, arith, le-ltb, lt-ltb, le-leb}
use borrow.Author.Tests.{lt-leb}
use Rattle.bits.specs.Bits.{some_one}
use Rattle.conditions.specs.Conditions.{place_of, condition_at}
use Rattle.conditions.specs.declared.Condition.{Condition}
use Rattle.conditions.proofs.Conditions.{place_below, at_place}
use Rattle.pages.specs.Logs.{log_place}
use Rattle.pages.specs.Readings.{page_word, page_setting, page_record}
use Rattle.pages.proofs.Words.{place_words, place_start}
use Rattle.faults.specs.declared.FaultKind.{FaultKind}
use Rattle.faults.specs.declared.FaultKind.TheVariants.{ReservedWord, ReservedBits, SetUnsupported, NoTimer, SavedOff}
use Rattle.faults.specs.Tests.{is_at, owner_of, is_reserved_word, is_set_unsupported, enabled_without_timer, is_saved_off, is_fault}

-- ---- within the conditions

module _ (c : Condition) (k : ℕ) (h : k < 16) where
  pub inside : log_place c + k < 0x50
  inside = let below = place_below c in rw (place_words c) (omega arith)

  pub is_at_lem : (j : ℕ) → is_at j (log_place c + k) ≡ eqb k j
  is_at_lem j =
      let offset : (log_place c + k) % 16 ≡ k = rw (place_words c) (omega arith) in
      rw (lt-ltb (log_place c + k) 0x50 inside, offset)

  pub is_reserved : is_reserved_word (log_place c + k) ≡ leb 8 k
  is_reserved =
      let offset : (log_place c + k) % 16 ≡ k = rw (place_words c) (omega arith) in
      rw (lt-leb 0x50 (log_place c + k) inside, offset)

  pub owner : owner_of (log_place c + k) ≡ c
  owner =
      let own : (log_place c + k) / 16 ≡ place_of c = rw (place_words c) (omega arith) in
      ap condition_at own ∙ at_place c

  -- What is a fault there, kind by kind.
  module _ (page : List ℕ) where
    abbrev word : ℕ
    word = page_word page (log_place c + k)

    pub reserved_word : is_fault page ReservedWord (log_place c + k) ≡ (leb 8 k && not (eqb word 0))
    unfolding is_fault
    reserved_word = λ i. is_reserved i && not (eqb word 0)

    pub reserved_bits : is_fault page ReservedBits (log_place c + k)
        ≡ ((eqb k 1 && some_one 12 0 word) || ((eqb k 2 || eqb k 4 || eqb k 6) && some_one 14 0 word))
    unfolding is_fault
    reserved_bits = λ i. (is_at_lem 1 i && some_one 12 0 word) || ((is_at_lem 2 i || is_at_lem 4 i || is_at_lem 6 i) && some_one 14 0 word)

    pub set_unsupported : is_fault page SetUnsupported (log_place c + k) ≡ (eqb k 1 && is_set_unsupported (page_record page c))
    unfolding is_fault
    set_unsupported = λ i. is_at_lem 1 i && is_set_unsupported (page_record page (owner i))

    pub no_timer : is_fault page NoTimer (log_place c + k) ≡ ((eqb k 2 || eqb k 4 || eqb k 6) && enabled_without_timer (page_setting page (log_place c + k)))
    unfolding is_fault
    no_timer = λ i. (is_at_lem 2 i || is_at_lem 4 i || is_at_lem 6 i) && enabled_without_timer (page_setting page (log_place c + k))

    pub saved_off : is_fault page SavedOff (log_place c + k) ≡ (eqb k 4 && is_saved_off (page_record page c))
    unfolding is_fault
    saved_off = λ i. is_at_lem 4 i && is_saved_off (page_record page (owner i))

-- ---- after them

module _ (w : ℕ) (h : 0x50 ≤ w) where
  pub past_reserved : is_reserved_word w ≡ true
  past_reserved = rw (le-leb 0x50 w h)

  past_at : (j : ℕ) → is_at j w ≡ false
  past_at j = rw (le-ltb w 0x50 h)

  -- The faults there: every word that is not zero, of the first kind.
  abbrev pub past_fault : List ℕ → FaultKind → Bool
  past_fault page ReservedWord = not (eqb (page_word page w) 0)
  past_fault page ReservedBits = false
  past_fault page SetUnsupported = false
  past_fault page NoTimer = false
  past_fault page SavedOff = false

  pub past_fault_lem : (page : List ℕ) (kind : FaultKind) → is_fault page kind w ≡ past_fault page kind
  unfolding is_fault
  past_fault_lem page ReservedWord = λ i. past_reserved i && not (eqb (page_word page w) 0)
  past_fault_lem page ReservedBits =
      λ i. (past_at 1 i && some_one 12 0 (page_word page w)) || ((past_at 2 i || past_at 4 i || past_at 6 i) && some_one 14 0 (page_word page w))
  past_fault_lem page SetUnsupported = λ i. past_at 1 i && is_set_unsupported (page_record page (owner_of w))
  past_fault_lem page NoTimer = λ i. (past_at 2 i || past_at 4 i || past_at 6 i) && enabled_without_timer (page_setting page w)
  past_fault_lem page SavedOff = λ i. past_at 4 i && is_saved_off (page_record page (owner_of w))

-- ---- every word

-- A word before 50h is +k of a condition.
pub spot_of : (w : ℕ) → w < 0x50 → w ≡ log_place (owner_of w) + w % 16
spot_of w h =
    let place : w / 16 < 5 = omega arith in
    let start = place_start (w / 16) place in
    let whole : w ≡ 16 * (w / 16) + w % 16 = omega arith in
    whole ∙ ap (λ (n : ℕ). n + w % 16) (sym start)
