-- "Bits not named are reserved": the LBA bits that the table names, row by row, and that the abort knows every other one of bits 0 to 31. The
-- ranges of the definition are counted out bit by bit (bits/Ranges) and are, for each edition and subcommand number, the bits that its row leaves.
use mathlib.Core.Path.{◌≡◌, refl, sym, subst, ◌∙◌}
use mathlib.Core.Bool.{true, false, ◌&&◌, ◌||◌, or-false}
use mathlib.Core.List.{List, [], ◌∷◌, ◌++◌}
use Prim.Native.Nat.{ℕ, ◌<◌}
use native.Mathlib.Omega.{arith}
use lib.Dec.{eqb, ltb}
use lib.ListN.{get_or}
use borrow.Author.Tests.{eqb-true, eqb-false, lt-ltb}
use Rattle.rows.proofs.Choices.{chosen}
use Rattle.bits.specs.Bits.{bits, bit}
use Rattle.bits.specs.Reserved.{span, some_unnamed}
use Rattle.bits.proofs.Ranges.{range, two_ranges}
use Rattle.drive.specs.declared.Edition.{Edition}
use Rattle.drive.specs.declared.Edition.TheVariants.{Draft, Published}
use Rattle.drive.specs.declared.Record.{Record}
use Rattle.registers.specs.declared.Registers.{Registers}
use Rattle.epc.specs.Epc.{sub_of, reserved_below, reserved_in_lba, is_unknown, aborts}
use Rattle.epc.specs.declared.Sub.{Sub}
use Rattle.epc.specs.declared.Sub.TheVariants.{Restore, GoTo, SetTimer, SetState, Unknown}

-- ---- the table, a row a number; "LBA bits 3:0 are the subcommand"

-- Document 02, request (vi), of a published unit: "Subcommand 2h takes LBA bit 7: one means minutes"; "the draft still aborts on bit 7".
abbrev pub minutes_bit : Edition → List ℕ
minutes_bit Draft = []
minutes_bit Published = 7 ∷ []

abbrev pub other_bits : Edition → List (List ℕ)
other_bits e =
    -- "0h restore" "6 from default, 4 save"
    (6 ∷ 4 ∷ [])
    -- "1h go to" "none"
    ∷ []
    -- "2h timer" "23:8 timer, 5 enable, 4 save"
    ∷ (span 23 8 ++ minutes_bit e ++ (5 ∷ 4 ∷ []))
    -- "3h state" "5 enable, 4 save"
    ∷ (5 ∷ 4 ∷ [])
    ∷ []

abbrev pub named_bits : Edition → ℕ → List ℕ
named_bits e number = span 3 0 ++ get_or (other_bits e) number []

-- ---- the law

-- What holds of each number with its subcommand holds of what an LBA has.
pub by_number : (P : ℕ → Sub → Type 0) → P 0 Restore → P 1 GoTo → P 2 SetTimer → P 3 SetState → ((n : ℕ) → 3 < n → P n Unknown)
    → (lba : ℕ) → P (bits 3 0 lba) (sub_of lba)
by_number P restore goes timer state other lba =
    let n = bits 3 0 lba in
    chosen (P n) (eqb n 0) _ _ (is 0 Restore restore) (λ a. chosen (P n) (eqb n 1) _ _ (is 1 GoTo goes)
    (λ b. chosen (P n) (eqb n 2) _ _ (is 2 SetTimer timer) (λ c. chosen (P n) (eqb n 3) _ _ (is 3 SetState state)
    (λ d. other n (omega (arith, eqb-false n 0 a, eqb-false n 1 b, eqb-false n 2 c, eqb-false n 3 d))))))
  where
    is : (k : ℕ) (s : Sub) → P k s → eqb (bits 3 0 lba) k ≡ true → P (bits 3 0 lba) s
    is k s p e = subst (λ (m : ℕ). P m s) (sym (eqb-true (bits 3 0 lba) k e)) p

timer_bits : (e : Edition) (lba : ℕ) → reserved_in_lba e SetTimer lba ≡ some_unnamed 31 (named_bits e 2) lba
timer_bits Draft = two_ranges 7 6 31 24
timer_bits Published = two_ranges 6 6 31 24

-- "subcommand above 3h; a reserved bit is one": exactly if the number is above 3 or, of bits 31:0, one is that its row does not name.
pub reserved_exactly : (e : Edition) (lba : ℕ)
    → (is_unknown (sub_of lba) || reserved_in_lba e (sub_of lba) lba) ≡ (ltb 3 (bits 3 0 lba) || some_unnamed 31 (named_bits e (bits 3 0 lba)) lba)
reserved_exactly e lba =
    by_number (λ n sub. (is_unknown sub || reserved_in_lba e sub lba) ≡ (ltb 3 n || some_unnamed 31 (named_bits e n) lba)) (two_ranges 5 5 31 7 lba)
    (range 31 4 lba) (timer_bits e lba) (range 31 6 lba) (λ n above. rw (lt-ltb 3 n above)) lba

-- ---- the two editions

-- Where bit 7 is zero, bit 6 alone is reserved below the timer.
below_timer : (e : Edition) (lba : ℕ) → bit 7 lba ≡ false → reserved_below e lba ≡ bit 6 lba
below_timer Draft lba zero = range 7 6 lba ∙ rw zero (or-false (bit 6 lba))
below_timer Published lba zero = refl

module _ (e f : Edition) where
  reserved_agrees : (lba : ℕ) → (eqb (bits 3 0 lba) 2 && bit 7 lba) ≡ false → reserved_in_lba e (sub_of lba) lba ≡ reserved_in_lba f (sub_of lba) lba
  reserved_agrees lba =
      by_number (λ n sub. (eqb n 2 && bit 7 lba) ≡ false → reserved_in_lba e sub lba ≡ reserved_in_lba f sub lba) (λ none. refl) (λ none. refl)
      (λ none. rw (below_timer e lba none ∙ sym (below_timer f lba none))) (λ none. refl) (λ n above none. refl) lba

  -- They abort alike but for 2h with LBA bit 7 one.
  pub aborts_agree : (q : Registers) (rs : List Record) → (eqb (bits 3 0 q.lba) 2 && bit 7 q.lba) ≡ false → aborts e q rs ≡ aborts f q rs
  unfolding aborts
  aborts_agree q rs none = rw (reserved_agrees q.lba none)
