-- The literal's words are the table's names, so the place found is the line's.
use mathlib.Core.Path.{refl, ◌∙◌}
use Rattle.words.specs.Words.{words, pieces, nonempty}
use Rattle.script.proofs.Tables.{stands_alone}
use Rattle.script.proofs.read_lone.Goals as goal

pub returns : goal.returns
unfolding words pieces nonempty
returns c = c.kind_at.ensures ∙ stands_alone c.args.line.now (rw (← c.word_count.ensures, c.if-word_count-ne1.false) refl)
