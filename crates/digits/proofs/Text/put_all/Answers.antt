-- As many bytes as there is room for stand behind what it says.
use mathlib.Core.Path.{◌≡◌, ◌∙◌}
use Prim.Native.Nat.{◌+◌, ◌-◌}
use native.Mathlib.Omega.{arith}
use borrow.Author.Rules.{rules}
use lib.ListN.{length, length-take}
use Rattle.std.proofs.lemmas.Slice.{take-put_mid}
use Rattle.digits.specs.Texts.{said}
use Rattle.digits.proofs.Digits.{Whole, put_more}
use Rattle.digits.proofs.Text.put_all.Goals as goal

pub returns : goal.returns
unfolding said
returns c = let t = c.args.self in
    let at = c.min-at.result in
    let n = c.min-n.result in
    let copied = c.copy_from_slice in
    let whole : Whole t = search rules in
    let far : at + n ≡ at + length copied.new.self = rw (copied.ensures.after, length-take) (omega arith) in
    take-put_mid at (at + n - at) t.bytes copied.new.self (at + n) far (omega arith)
    ∙ rw copied.ensures.after (put_more t c.args.more.now at n whole c.min-at.ensures c.min-n.ensures)
