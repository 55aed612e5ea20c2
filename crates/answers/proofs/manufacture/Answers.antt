-- The line is what is said of manufacture's outcome.
use Rattle.answers.proofs.Tellings.{line_told}
use Rattle.answers.proofs.manufacture.Goals as goal

pub returns : goal.returns
returns c = line_told _ _ c.made_by.ensures c.put_told.ensures
