-- A block is its lines, one behind the other.
use mathlib.Core.Path.{◌≡◌}
use Rattle.unit.specs.declared.Unit.{Unit}
use Rattle.words.specs.Codes.{codes}
use Rattle.asked.specs.declared.Part.TheVariants.{IsOf, Stands, HasOut}
use Rattle.asked.specs.Records.{settings_of, state_of, slot_part, held_part, counts_part}
use Rattle.digits.specs.Sheets.{Written}
use Rattle.digits.specs.Sheets.{wrote_all}
use Rattle.digits.proofs.Sheets.{Adds, AddsAll}
use Rattle.spelling.specs.Spelling.{part_text, shown}

module _ (u : Unit) where
  pub shown_by : (a : Written) {b c d e f g h i j : Written}
      → Adds a (codes "unit") b
      → Adds b (part_text (IsOf u.edition)) c
      → AddsAll c (λ k. part_text (settings_of u k)) 5 d
      → Adds d (part_text (Stands (state_of u))) e
      → AddsAll e (λ k. part_text (slot_part u k)) 4 f
      → AddsAll f (λ k. part_text (held_part u k)) 4 g
      → Adds g (part_text (HasOut u.out)) h
      → Adds h (part_text (counts_part u)) i
      → Adds i (codes "end") j
      → j ≡ wrote_all a (shown u)
  unfolding wrote_all shown
  shown_by a e1 e2 e3 e4 e5 e6 e7 e8 e9 = rw (e9, e8, e7, e6, e5, e4, e3, e2, e1)
