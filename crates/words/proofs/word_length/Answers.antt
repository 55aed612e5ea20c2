-- The chain finds the first byte at which the scan ends.
use borrow.Author.Tests.{tests}
use Rattle.std.proofs.Common.{rules}
use Rattle.std.proofs.lemmas.Iterator.{YieldsList-from_slice}
use Rattle.std.proofs.lemmas.Iterator.Search.{position_from_yields_List}
use Rattle.words.specs.Words.{ends_word}
use Rattle.words.proofs.Scans.{word, found}
use Rattle.words.proofs.word_length.Goals as goal

pub returns : goal.returns
returns c = let text = c.args.text.now in
    let place = position_from_yields_List (ends_word) _ _ c.position.result c.position.ensures.ran
    (YieldsList-from_slice text c.iter.ensures.rest) (λ x b q k. search (rules, tests)) in
    rw c.unwrap_or.ensures (found word text c.position.result place)
