-- Behind the blanks a text starts with a word of that length, or none.
use mathlib.Core.Path.{◌≡◌, sym, ◌∙◌}
use Rattle.std.proofs.Common.{rules}
use Rattle.words.specs.Words.{word_length, behind_blanks, first_word, behind_word}
use Rattle.words.proofs.Cuts.{no_first, a_first}
use Rattle.words.proofs.first_word.Goals as goal

pub returns-then-len-eq0-clause-cases : goal.returns-then-len-eq0-clause-cases
returns-then-len-eq0-clause-cases c = let l = c.args.line.now in
    let n : c.word_length-len.result ≡ word_length (behind_blanks l) = search rules in
    no_first l (sym n ∙ c.if-len-eq0.true)

pub returns-clause-cases : goal.returns-clause-cases
returns-clause-cases c = let l = c.args.line.now in
    let n : c.word_length-len.result ≡ word_length (behind_blanks l) = search rules in
    let word : c.split_at-2.result.0.now ≡ first_word l = search rules in
    let others : c.split_at-2.result.1.now ≡ behind_word l = search rules in
    rw (word, others) (a_first l (λ e. c.if-len-eq0.false (n ∙ e)))
