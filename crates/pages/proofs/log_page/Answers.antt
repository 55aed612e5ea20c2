-- After so many turns the page is that of the records so far: one turn is `page_more`.
use Rattle.std.proofs.Common.{refl, ◌∙◌, arith}
use Rattle.pages.specs.Logs.{logged_words, log_words, log_bytes}
use Rattle.pages.proofs.Page.{page_more}
use Rattle.pages.proofs.log_page.Goals as goal

pub loop-place-init : goal.loop-place-init
unfolding log_bytes log_words logged_words
loop-place-init c = refl

pub loop-place-preserved : goal.loop-place-preserved
loop-place-preserved c = c.copy_in.ensures
    ∙ rw (c.named_bytes.ensures, c.loop-place.invariant) (page_more c.args.records c.loop-place.place _ (omega arith) (omega arith))
