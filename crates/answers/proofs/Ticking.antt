-- Ticks one after another: while one is left and the last was done, the next is made; with none left, or after a refusal, they end.
use Prim.Native.Nat.{zero}
use Rattle.std.proofs.Common.{◌≡◌, ℕ, suc, ◌+◌, ◌-◌, ◌<◌, ◌≤◌, true, false, refl, arith, Ok, Err}
use Rattle.std.specs.Result.{is_err}
use Rattle.engine.specs.Engine.{tick_outcome}
use Rattle.refusals.specs.Refusals.{Verdict}
use Rattle.outcomes.specs.declared.Called.{Called}
use Rattle.answers.specs.Answers.{ticks_after}

-- One more of those that are left.
one_more : (n : ℕ) (c : Called) → c.answer ≡ Ok tt → ticks_after (suc n) c ≡ ticks_after n (tick_outcome c.unit)
unfolding ticks_after
one_more n c e = rw e

pub tick_made : (n k : ℕ) (c t : Called) → k < n → c.answer ≡ Ok tt → t ≡ tick_outcome c.unit
    → ticks_after (n - k) c ≡ ticks_after (n - (k + 1)) t
tick_made n k c t below done made =
    let left : n - k ≡ suc (n - (k + 1)) = omega arith in
    rw (left, made) (one_more (n - (k + 1)) c done)

pub all_made : (n k : ℕ) (c : Called) → n ≤ k → ticks_after (n - k) c ≡ c
unfolding ticks_after
all_made n k c past = let none : n - k ≡ 0 = omega arith in rw none

-- With a refusal no more are made.
pub ticks_end : (n : ℕ) (c : Called) → is_err c.answer ≡ true → ticks_after n c ≡ c
unfolding ticks_after
ticks_end zero c e = refl
ticks_end (suc n) c e = on c.answer refl e
  where
    on : (a : Verdict) → c.answer ≡ a → is_err a ≡ true → ticks_after (suc n) c ≡ c
    on (Ok _) is e = let no : ◌≡◌ {A = ℕ} 0 1 = cc in absurd (omega arith)
    on (Err r) is e = rw is

pub not_refused : (a : Verdict) → is_err a ≡ false → a ≡ Ok tt
not_refused (Ok _) e = refl
not_refused (Err r) e = let no : ◌≡◌ {A = ℕ} 0 1 = cc in absurd (omega arith)
