-- After k turns the first k of a loop's lines are written.
use Rattle.asked.specs.Records.{settings_of, slot_part, held_part}
use Rattle.digits.specs.Sheets.{written}
use Rattle.digits.proofs.Sheets.{AddsAll}
use Rattle.spelling.specs.Spelling.{part_text}
use Rattle.spelling.proofs.show.Given as goal

abbrev pub invariant-loop-place : goal.invariant-loop-place
invariant-loop-place l = AddsAll (written l.initial.out) (λ k. part_text (settings_of l.u k)) l.place (written l.out)

abbrev pub invariant-loop-host : goal.invariant-loop-host
invariant-loop-host l = AddsAll (written l.initial.out) (λ k. part_text (slot_part l.u k)) l.host (written l.out)

abbrev pub invariant-loop-holder : goal.invariant-loop-holder
invariant-loop-holder l = AddsAll (written l.initial.out) (λ k. part_text (held_part l.u k)) l.holder (written l.out)
