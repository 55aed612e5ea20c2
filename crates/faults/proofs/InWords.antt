-- The tests of a record and of a setting in other words than their definitions', and the bits that are read and the kinds' numbers once more from the
-- papers.
use Rattle.std.proofs.Common.{◌≡◌, ℕ, ◌+◌, Bool, true, false, not, ◌&&◌, ◌⊎◌, ◌↔◌, List, [], ◌∷◌, map, sym, refl, ap, inl, inr, true≢false, eq-eqb, eqb-true}
use Rattle.std.proofs.Math.Bool.{and-false}
use mathlib.Core.Bool.{beq}
use borrow.Author.Tests.{not-false}
use Rattle.rows.proofs.Places.{and_left, and_right, and_both}
use Rattle.bits.specs.Bits.{bit}
use Rattle.conditions.specs.declared.Condition.{Condition}
use Rattle.drive.specs.declared.Setting.{Setting}
use Rattle.drive.specs.declared.Record.{Record}
use Rattle.drive.specs.Records.{others_zero, unsupported}
use Rattle.drive.proofs.WellFormed.{zero_record}
use Rattle.pages.specs.Logs.{log_place}
use Rattle.pages.specs.Readings.{page_word, page_record}
use Rattle.faults.specs.declared.FaultKind.TheVariants.{ReservedWord, ReservedBits, SetUnsupported, NoTimer, SavedOff}
use Rattle.faults.specs.Tests.{kind_number, is_set_unsupported, enabled_without_timer, is_same_setting, is_saved_off}

-- Kind 2 is not there exactly if the condition is supported, or its record is the one with everything zero.
pub set_unsupported_is : (r : Record) → (is_set_unsupported r ≡ false) ↔ ((r.supported ≡ true) ⊎ (r ≡ unsupported))
set_unsupported_is r = (on r.supported refl, back)
  where
    on : (b : Bool) → r.supported ≡ b → (not b && not (others_zero r)) ≡ false → (r.supported ≡ true) ⊎ (r ≡ unsupported)
    on true e h = inl e
    on false e h = inr (zero_record r e (not-false (others_zero r) h))

    back : (r.supported ≡ true) ⊎ (r ≡ unsupported) → is_set_unsupported r ≡ false
    back (inl e) = rw e
    back (inr e) = ap is_set_unsupported e

-- Kind 3 is there exactly if the setting is enabled and its timer zero.
pub no_timer_is : (s : Setting) → (enabled_without_timer s ≡ true) ↔ ((s.enabled ≡ true) × (s.timer.0 ≡ 0))
no_timer_is s = (
  λ h. (and_left s.enabled _ h, eqb-true s.timer.0 0 (and_right s.enabled _ h)),
  λ p. and_both s.enabled _ p.0 (eq-eqb s.timer.0 0 p.1),
)

-- Not "saved off default while not saveable".
abbrev pub KeepsDefault : Record → Type 0
KeepsDefault r = (r.saveable ≡ true) ⊎ (r.saved ≡ r.default)

same_setting : (s t : Setting) → is_same_setting s t ≡ true → s ≡ t
same_setting s t h =
    let flag = same_flag s.enabled t.enabled (and_left _ _ h) in
    let timer = eqb-true s.timer.0 t.timer.0 (and_right (beq s.enabled t.enabled) _ h) in
    λ i. record { enabled = flag i; timer = record { 0 = timer i } }
  where
    same_flag : (a b : Bool) → beq a b ≡ true → a ≡ b
    same_flag true true e = refl
    same_flag true false e = absurd (true≢false (sym e))
    same_flag false true e = absurd (true≢false (sym e))
    same_flag false false e = refl

own_setting : (s : Setting) → is_same_setting s s ≡ true
own_setting s = and_both _ _ (own s.enabled) (eq-eqb s.timer.0 s.timer.0 refl)
  where
    own : (a : Bool) → beq a a ≡ true
    own true = refl
    own false = refl

-- Kind 4 is not there exactly if the condition is saveable, or saved is default.
pub keeps_default : (r : Record) → (is_saved_off r ≡ false) ↔ KeepsDefault r
keeps_default r = (on r.saveable refl, back)
  where
    on : (saveable : Bool) → r.saveable ≡ saveable → (not saveable && not (is_same_setting r.saved r.default)) ≡ false → KeepsDefault r
    on true e h = inl e
    on false e h = inr (same_setting r.saved r.default (not-false _ h))

    back : KeepsDefault r → is_saved_off r ≡ false
    back (inl e) = rw e
    back (inr e) = rw (e, own_setting r.default) (and-false (not r.saveable))

-- "in the order just named": the first of them is 0.
pub kind_numbers : map kind_number (ReservedWord ∷ ReservedBits ∷ SetUnsupported ∷ NoTimer ∷ SavedOff ∷ []) ≡ 0 ∷ 1 ∷ 2 ∷ 3 ∷ 4 ∷ []
kind_numbers = refl

-- The flags that are read, bit by bit, whatever else the page has.
module _ (page : List ℕ) (c : Condition) where
  abbrev at : ℕ → ℕ
  at k = page_word page (log_place c + k)

  pub reads_own : let r = page_record page c in
      (r.supported ≡ bit 15 (at 1)) × (r.saveable ≡ bit 14 (at 1)) × (r.changeable ≡ bit 13 (at 1))
  reads_own = (refl, refl, refl)

  pub reads_enabled : let r = page_record page c in
      (r.default.enabled ≡ bit 15 (at 2)) × (r.saved.enabled ≡ bit 15 (at 4)) × (r.current.enabled ≡ bit 15 (at 6))
  reads_enabled = (refl, refl, refl)
