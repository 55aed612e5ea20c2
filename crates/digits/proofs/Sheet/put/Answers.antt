-- If there is room, the bytes are copied; if not, none is.
use mathlib.Core.Path.{sym, ◌∙◌}
use borrow.Author.Tests.{leb-true, leb-false}
use Rattle.digits.specs.Sheets.{written}
use Rattle.digits.proofs.Sheets.{wrote_in, wrote_out}
use Rattle.digits.proofs.Sheet.put.Goals as goal

pub returns-then-has_room : goal.returns-then-has_room
returns-then-has_room c =
    let has = leb-true _ _ (sym c.has_room.ensures ∙ c.if-has_room.true) in
    rw c.copy_in.ensures (wrote_in (written c.args.self.now) c.args.bytes.now has)

pub returns-else-has_room : goal.returns-else-has_room
returns-else-has_room c = wrote_out (written c.args.self.now) c.args.bytes.now (leb-false _ _ (sym c.has_room.ensures ∙ c.if-has_room.false))
