-- After i turns the digits of the first i bytes stand on it: one turn is `wrote_both`, since all of them have room.
use mathlib.Core.Path.{◌≡◌, sym, ap, ◌∙◌}
use mathlib.Core.List.{[], ◌∷◌, ◌++◌}
use Prim.Native.Nat.{◌+◌, ◌*◌, ◌≤◌, ◌<◌}
use native.Mathlib.Numerals.{add-one}
use native.Mathlib.Omega.{arith}
use borrow.Author.Rules.{rules}
use borrow.Author.Tests.{leb-true, leb-false}
use lib.ListN.{length, get_or, take, length-take}
use lib.Seq.{take-suc}
use Rattle.digits.specs.Numerals.{pairs}
use Rattle.digits.proofs.Digits.{pairs_length, pairs-append, bytes_some}
use Rattle.digits.specs.Sheets.{written, wrote}
use Rattle.digits.proofs.Sheets.{wrote_none, wrote_both, wrote_out}
use Rattle.digits.proofs.Sheet.put_bytes.Goals as goal

pub loop-b-init : goal.loop-b-init
unfolding pairs
loop-b-init c = let s = written c.args.self.now in
    let has : s.len + 2 * length c.args.bytes.now ≤ length s.bytes = leb-true _ _ (sym c.has_room.ensures ∙ c.if-has_room.true) in
    wrote_none s (omega arith)

pub loop-b-preserved : goal.loop-b-preserved
loop-b-preserved c = let s = written c.args.self.now in
    let bytes = c.args.bytes.now in
    let i = c.loop-b.b-index in
    let has : s.len + 2 * length bytes ≤ length s.bytes = leb-true _ _ (sym c.has_room.ensures ∙ c.if-has_room.true) in
    let next = get_or bytes i 0 in
    let more = take-suc bytes i 0 (omega arith) in
    let fits : s.len + length (pairs (take i bytes) ++ pairs (next ∷ [])) ≤ length s.bytes =
    rw (← pairs-append (take i bytes) (next ∷ []), ← more, pairs_length, length-take) (omega arith) in
    c.put-in-loop-b.ensures ∙ ap (λ t. wrote t c.pair.result) c.loop-b.invariant
    ∙ rw (c.pair.ensures, add-one, more, pairs-append) (wrote_both s (pairs (take i bytes)) (pairs (next ∷ [])) fits)

pub returns-else-has_room : goal.returns-else-has_room
returns-else-has_room c = let s = written c.args.self.now in
    let bytes = c.args.bytes.now in
    let short : length s.bytes < s.len + 2 * length bytes = leb-false _ _ (sym c.has_room.ensures ∙ c.if-has_room.false) in
    let some : length bytes ≡ 0 → ⊥ = search rules in
    rw (bytes_some bytes some) (wrote_out s (pairs bytes) (omega (arith, pairs_length bytes)))
