-- A clear verdict says that the buffer has 18 bytes, and the copy fills it; a refusal touches nothing.
use Rattle.std.proofs.Common.{Ok}
use mathlib.Core.Path.{◌≡◌, refl, sym, ◌∙◌}
use native.Mathlib.Omega.{arith}
use lib.ListN.{length}
use Rattle.refusals.proofs.Lowest.{clear_length}
use Rattle.rows.proofs.Copied.{copied_whole}
use Rattle.readouts.specs.Readouts.{sense_rows, sense_effect, sense_outcome}
use Rattle.refusals.specs.Refusals.{lowest}
use Rattle.readouts.proofs.request_sense.Goals as goal

pub copy_in-requires : goal.copy_in-requires
copy_in-requires c = let clear = sym c.sense_verdict-v.ensures ∙ c.in-Ok.is in
    let full : length c.args.buffer.now ≡ 18 = clear_length _ _ _ clear in
    omega arith

pub returns-in-Ok : goal.returns-in-Ok
unfolding sense_outcome
returns-in-Ok c = let clear : lowest (sense_rows c.args.u c.args.host c.args.buffer.now) ≡ Ok tt =
    rw (← c.unit_ok-ok.ensures, ← c.is_out.ensures, ← c.sense_verdict-v.ensures) c.in-Ok.is in
    let full : length c.args.buffer.now ≡ 18 = clear_length _ _ _ clear in
    let whole = copied_whole c.args.buffer.now c.told-bytes.result (omega (arith, c.told-bytes.type_inv)) in (
      rw clear (c.settle.ensures c.args.u (sense_effect c.args.host c.args.u) c.with_held.ensures),
      rw (clear, c.copy_in.ensures, whole) c.told-bytes.ensures,
    )

pub returns-in-Err : goal.returns-in-Err
unfolding sense_outcome
returns-in-Err c = let given = rw (c.is_out.ensures, c.unit_ok-ok.ensures)
    at (sym c.sense_verdict-v.ensures ∙ c.in-Err.is) in
    (rw given (c.settle-in-Err.ensures c.args.u (sense_effect c.args.host c.args.u) refl), rw given)
