-- What a change of the drive counts: the entry of the condition that it is in after it, if that is another than before, in the column of what changed it.
use mathlib.Core.Path.{◌≡◌, refl, sym, ap, ◌∙◌}
use mathlib.Core.Bool.{false, false≢true}
use mathlib.Core.List.{List, [], ◌∷◌}
use mathlib.Core.Logic.{⊎_elim}
use Prim.Native.Nat.{ℕ, suc, ◌<◌}
use native.Mathlib.Omega.{arith}
use lib.Dec.{eqb}
use borrow.Author.Tests.{eq-eqb}
use Rattle.rows.specs.Rows.{fold_at}
use Rattle.rows.proofs.Choices.{either}
use Rattle.conditions.specs.Conditions.{condition_at, depth}
use Rattle.conditions.specs.declared.Cause.TheVariants.{Timer}
use Rattle.conditions.specs.declared.Power.{Power}
use Rattle.conditions.specs.declared.Power.TheVariants.{Active, Low}
use Rattle.transitions.specs.Counts.{column_of, counts_after}
use Rattle.transitions.proofs.Counts.{held_kept_lem}
use Rattle.drive.specs.declared.Record.{Record}
use Rattle.drive.specs.declared.Drive.{Drive}
use Rattle.drive.specs.Drives.{with_idle, entered, ran_out, heard, timers_ask, ticked, used, powered_on}
use Rattle.drive.proofs.Ticks.{tick_whole, tick_either}

-- The counts of e are those of d with the entry of e's condition, if it is another than d's; and then its column is this one.
pub record CountsAs (side : ℕ) (d e : Drive) : Type 0 where
  pub counts : e.counts ≡ counts_after d.power e.power d.counts
  pub column : eqb (depth d.power) (depth e.power) ≡ false → column_of e.power ≡ side

-- What leaves power and counts is as nothing: there is no entry.
pub still_counts : (side : ℕ) (d e : Drive) → e.power ≡ d.power → e.counts ≡ d.counts → CountsAs side d e
still_counts side d e power counts = record {
  counts = counts ∙ sym (held_kept_lem d.power d.counts) ∙ ap (λ (p : Power). counts_after d.power p d.counts) (sym power);
  column = λ other. absurd (false≢true (sym other ∙ eq-eqb _ _ (ap depth (sym power))));
}

-- A condition entered that has the second column.
pub entered_counts : (p : Power) (n : ℕ) (d : Drive) → column_of p ≡ 1 → CountsAs 1 d (entered p (with_idle n d))
entered_counts p n d second = record { counts = refl; column = λ other. second }

-- The timers ask for Active or for a condition by a timer.
abbrev AsksByTimer : Power → Type 0
AsksByTimer p = 0 < depth p → column_of p ≡ 0

asks_by_timer : (count at : ℕ) (asked : Power) (rs : List Record) → AsksByTimer asked → AsksByTimer (fold_at (heard count) at asked rs)
asks_by_timer count at asked [] h = h
asks_by_timer count at asked (r ∷ rs) h =
    asks_by_timer count (suc at) (heard count at r asked) rs
    (either AsksByTimer (ran_out count r) (Low (condition_at at) Timer) asked (λ below. refl) h)

asked_by_timer : (rs : List Record) (count : ℕ) → AsksByTimer (timers_ask rs count)
unfolding timers_ask
asked_by_timer rs count = asks_by_timer count 0 Active rs (λ below. absurd (omega arith))

-- So a tick's entry has the first column.
pub ticked_counts : (top : ℕ) (d : Drive) → CountsAs 0 d (ticked top d)
ticked_counts top d = record {
  counts = ap (λ (e : Drive). e.counts) (tick_whole top d);
  column = λ other. ⊎_elim
      (λ falls. rw falls.1 (asked_by_timer d.records _ (omega arith)))
      (λ stays. absurd (false≢true (sym other ∙ eq-eqb _ _ (ap depth (sym stays.1)))))
      (tick_either top d);
}

-- The medium's use and a power-on enter Active.
pub used_counts : (d : Drive) → CountsAs 1 d (used d)
unfolding used
used_counts d = entered_counts Active 0 d refl

pub powered_on_counts : (d : Drive) → CountsAs 1 d (powered_on d)
unfolding powered_on used
powered_on_counts d = record { counts = refl; column = λ other. refl }
