-- What std says of a chain over a row, in the words of `Rows`: the answer of `any`, and the array that `from_fn` makes.
use mathlib.Core.Path.{◌≡◌, sym, ◌∙◌}
use mathlib.Core.Bool.{Bool, true, false}
use mathlib.Core.List.{List}
use Prim.Native.Nat.{ℕ, zero, suc, ◌+◌, ◌<◌}
use native.Mathlib.Nat.{add-zero, zero-add}
use native.Mathlib.Omega.{arith}
use lib.ListN.{length, get_or}
use denote.Param.Members.{Mut, Called}
use Rattle.std.specs.Array.{IsFromFnResult, IsFromFnResultFrom}
use Rattle.std.specs.Bool.{MatchBool}
use Rattle.std.proofs.lemmas.List.{same_lists}
use Rattle.rows.specs.Rows.{some_at, map_at}
use Rattle.rows.proofs.Places.{length-map_at, get_d_map_at}
use Rattle.rows.proofs.Some.{some_from, none_from}

module _ {A : Type 0} (f : ℕ → A → Bool) (l : List A) (z : A) where
  -- Some place passes, or each doesn't.
  abbrev pub SomeAnswer : Bool → Type 0
  SomeAnswer r = MatchBool r ((i : ℕ) × (i < length l) × (f i (get_or l i z) ≡ true)) ((i : ℕ) → i < length l → f i (get_or l i z) ≡ false)

  -- what `any` answers
  pub some_answer : (r : Bool) → SomeAnswer r → r ≡ some_at f 0 l
  some_answer true h = sym (some_from f l z h.0 h.1 h.2)
  some_answer false h = sym (none_from f l z h)

-- An array that `from_fn` makes, by a closure that its calls leave as it was: at each place stands the change of what another row has there.
module _ {F A B : Type 0} (g : Mut F (ℕ × Unit {0}) B) (f : F) (change : ℕ → A → B) (l : List A) (z : A)
    (same : (i : ℕ) (y : B) (q : F) → i < length l → Called g f (i, tt) y q → (q ≡ f) × (y ≡ change i (get_or l i z))) where
  made_at : (ys : List B) (d : B) (at n : ℕ) → at + n ≡ length l → IsFromFnResultFrom g f ys at n
      → (i : ℕ) → i < n → get_or ys (at + i) d ≡ change (at + i) (get_or l (at + i) z)
  made_at ys d at zero e h i k = absurd (omega arith)
  made_at ys d at (suc n) e h zero k = let one = same at h.1 h.0 (omega arith) h.3 in rw add-zero (h.2.1 d ∙ one.1)
  made_at ys d at (suc n) e h (suc i) k =
      let one = same at h.1 h.0 (omega arith) h.3 in
      let rest = made_at ys d (at + 1) n (omega arith) (rw one.0 at h.4) i (omega arith) in
      let next : at + suc i ≡ at + 1 + i = omega arith in
      rw next rest

  pub from_fn_row : (ys : List B) (n : ℕ) → length l ≡ n → IsFromFnResult g f ys n → ys ≡ map_at change 0 l
  from_fn_row ys n e h = same_lists ys (map_at change 0 l) (h.long ∙ sym e ∙ sym (length-map_at change l))
      (λ i d k. let inside : i < length l = omega (arith, h.long) in
      rw zero-add at (made_at ys d 0 n (zero-add n ∙ sym e) h.each i (omega (arith, h.long))) ∙ sym (get_d_map_at change l z d i inside))
