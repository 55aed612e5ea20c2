-- A line with no word is blank. Any other is read by the first table if its name is there, and else by what follows it.
use mathlib.Core.Path.{sym, ◌∙◌}
use mathlib.Core.List.{◌++◌}
use Rattle.words.specs.Words.{words, pieces, nonempty}
use Rattle.script.specs.Lines.{line_of_words, call_entries, lone_entries, part_entries}
use Rattle.script.proofs.Tables.{in_table, behind_table, some_words}
use Rattle.script.proofs.read_words.Goals as goal

pub returns-then-word_count-eq0 : goal.returns-then-word_count-eq0
unfolding line_of_words
returns-then-word_count-eq0 c = rw (← c.word_count.ensures, c.if-word_count-eq0.true)

pub returns-in-Some : goal.returns-in-Some
unfolding words pieces nonempty
returns-in-Some c = let line = c.args.line.now in
    let some = some_words line (λ e. c.if-word_count-eq0.false (c.word_count.ensures ∙ e)) in
    c.call_at.ensures ∙ in_table line call_entries (part_entries ++ lone_entries) c.in-Some.place (sym c.name_at.ensures ∙ c.in-Some.is) ∙ sym some

pub returns-in-None : goal.returns-in-None
unfolding words pieces nonempty
returns-in-None c = let line = c.args.line.now in
    let some = some_words line (λ e. c.if-word_count-eq0.false (c.word_count.ensures ∙ e)) in
    c.read_in_block.ensures ∙ behind_table line call_entries (part_entries ++ lone_entries) (sym c.name_at.ensures ∙ c.in-None.is) ∙ sym some
