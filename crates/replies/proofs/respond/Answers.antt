-- By whether a block is open.
use mathlib.Core.Bool.{Bool, true, false, cond}
use mathlib.Core.List.{List}
use mathlib.Core.Path.{◌≡◌, ap, sym, ◌∙◌}
use Prim.Native.Nat.{ℕ}
use Rattle.script.specs.Lines.{line_of_text}
use Rattle.blocks.specs.Sessions.{is_open}
use Rattle.blocks.specs.declared.Session.{Session}
use Rattle.replies.specs.Lines.{in_block, outside, response}
use Rattle.replies.proofs.respond.Goals as goal

answered : (s : Session) (text : List ℕ) (b : Bool) → is_open s.block ≡ b
    → response s text ≡ cond b (in_block s (line_of_text text)) (outside s (line_of_text text) text)
unfolding response
answered s text b e = ap (λ (b : Bool). cond b (in_block s (line_of_text text)) (outside s (line_of_text text) text)) e

pub returns-then-is_open : goal.returns-then-is_open
returns-then-is_open c = rw (answered c.args.s c.args.text.now true (sym c.is_open.ensures ∙ c.if-is_open.true))
    (rw c.read-line.ensures at c.in_block.ensures)

pub returns : goal.returns
returns c = rw (answered c.args.s c.args.text.now false (sym c.is_open.ensures ∙ c.if-is_open.false))
    (rw c.read-line.ensures at c.outside.ensures)
