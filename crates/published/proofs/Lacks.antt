-- 11, "for a new page asked of a draft unit or a page above 1", exactly.
use mathlib.Core.Path.{◌≡◌, refl, ap, ◌∙◌}
use mathlib.Core.Bool.{true, false, true≢false}
use mathlib.Core.Logic.{◌⊎◌, inl, inr, ◌↔◌}
use Prim.Native.Nat.{ℕ, ◌<◌, ◌≤◌}
use lib.Dec.{ltb}
use borrow.Author.Tests.{ltb-true, ltb-false, lt-ltb, le-ltb}
use Rattle.drive.specs.declared.Edition.{Edition}
use Rattle.drive.specs.declared.Edition.TheVariants.{Draft, Published}
use Rattle.published.specs.Descriptors.{lacks_page}

pub lacks_exactly : (e : Edition) (number : ℕ) → (lacks_page e number ≡ true) ↔ ((e ≡ Draft) ⊎ (1 < number))
lacks_exactly Draft number = (λ h. inl refl, λ h. refl)
lacks_exactly Published number = (λ h. inr (ltb-true 1 number h), above)
  where
    above : (Published ≡ Draft) ⊎ (1 < number) → lacks_page Published number ≡ true
    above (inl same) = ap (λ (e : Edition). lacks_page e number) same
    above (inr h) = lt-ltb 1 number h

-- And so a page is there exactly if it is 0 or 1, of a published unit.
pub has_exactly : (e : Edition) (number : ℕ) → (lacks_page e number ≡ false) ↔ ((e ≡ Published) × (number ≤ 1))
has_exactly Draft number = (
  λ h. absurd (true≢false h),
  λ h. let same : true ≡ ltb 1 number = ap (λ (e : Edition). lacks_page e number) h.0 in same ∙ le-ltb 1 number h.1,
)
has_exactly Published number = (λ h. (refl, ltb-false 1 number h), λ h. le-ltb 1 number h.1)
