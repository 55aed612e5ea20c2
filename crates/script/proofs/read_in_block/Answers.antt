-- The literal's words are the table's names: a place among them is the reader's, and where there is none the line is handed on.
use mathlib.Core.Path.{sym, ◌∙◌}
use Rattle.words.specs.Words.{words, pieces, nonempty}
use Rattle.script.specs.Lines.{lone_entries, part_entries}
use Rattle.script.proofs.Tables.{in_table, behind_table}
use Rattle.script.proofs.read_in_block.Goals as goal

pub returns-in-Some : goal.returns-in-Some
unfolding words pieces nonempty
returns-in-Some c =
    c.part_at.ensures ∙ in_table c.args.line.now part_entries lone_entries c.in-Some.place (sym c.name_at.ensures ∙ c.in-Some.is)

pub returns-in-None : goal.returns-in-None
unfolding words pieces nonempty
returns-in-None c =
    c.read_lone.ensures ∙ behind_table c.args.line.now part_entries lone_entries (sym c.name_at.ensures ∙ c.in-None.is)
