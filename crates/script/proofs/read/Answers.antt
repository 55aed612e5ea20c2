-- The bytes handed on are the line without its CR.
use borrow.Author.Tests.{lt-ltb, le-ltb}
use Rattle.script.specs.Lines.{line_of_text}
use Rattle.script.proofs.read.Goals as goal

pub returns-then-text-gt4000 : goal.returns-then-text-gt4000
unfolding line_of_text
returns-then-text-gt4000 c = rw (lt-ltb _ _ c.if-text-gt4000.true)

pub returns : goal.returns
unfolding line_of_text
returns c = rw (le-ltb _ _ c.if-text-gt4000.false, ← c.without_return-end.ensures.0) c.read_words.ensures
