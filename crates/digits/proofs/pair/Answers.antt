-- The high digit, and the low one after it.
use Rattle.digits.specs.Numerals.{pairs}
use Rattle.digits.proofs.pair.Goals as goal

pub returns : goal.returns
unfolding pairs
returns c = rw (c.glyph.ensures, c.glyph-2.ensures)
