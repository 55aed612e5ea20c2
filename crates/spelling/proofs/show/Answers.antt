-- Each line is written behind those before it, and a loop's lines one behind the other.
use mathlib.Core.Path.{◌≡◌}
use native.Mathlib.Omega.{arith}
use Rattle.asked.specs.Records.{settings_of, slot_part, held_part}
use Rattle.digits.specs.Sheets.{written}
use Rattle.digits.proofs.Sheets.{adds, adds_next}
use Rattle.spelling.specs.Spelling.{part_text}
use Rattle.spelling.proofs.Lines.{shown_by}
use Rattle.spelling.proofs.show.Goals as goal

pub loop-place-preserved : goal.loop-place-preserved
loop-place-preserved c =
    adds_next _ (λ k. part_text (settings_of c.args.u k)) c.loop-place.place c.loop-place.invariant c.put_line-in-loop-place.ensures
    (rw c.settings_of.ensures at c.spell-in-loop-place.ensures)

pub loop-host-preserved : goal.loop-host-preserved
loop-host-preserved c =
    adds_next _ (λ k. part_text (slot_part c.args.u k)) c.loop-host.host c.loop-host.invariant c.put_line-in-loop-host.ensures
    (rw c.slot_of.ensures at c.spell-in-loop-host.ensures)

pub loop-holder-preserved : goal.loop-holder-preserved
loop-holder-preserved c =
    adds_next _ (λ k. part_text (held_part c.args.u k)) c.loop-holder.holder c.loop-holder.invariant c.put_line-in-loop-holder.ensures
    (rw c.held_of.ensures at c.spell-in-loop-holder.ensures)

pub returns : goal.returns
returns c =
    let places : c.loop-place.place ≡ 5 = omega arith in
    let hosts : c.loop-host.host ≡ 4 = omega arith in
    let holders : c.loop-holder.holder ≡ 4 = omega arith in
    shown_by c.args.u (written c.args.out.now)
    (adds _ _ c.put_line.ensures c.of.ensures)
    (adds _ _ c.put_line-2.ensures c.spell.ensures)
    (rw places at c.loop-place.invariant)
    (adds _ _ c.put_line-3.ensures (rw c.state_of.ensures at c.spell-2.ensures))
    (rw hosts at c.loop-host.invariant)
    (rw holders at c.loop-holder.invariant)
    (adds _ _ c.put_line-4.ensures c.spell-3.ensures)
    (adds _ _ c.put_line-5.ensures (rw c.table_of.ensures at c.spell-4.ensures))
    (adds _ _ c.put_line-6.ensures c.of-2.ensures)
