-- A clear verdict says that the page has 512 bytes.
use Rattle.std.proofs.Common.{sym, ◌∙◌}
use Rattle.refusals.proofs.Lowest.{clear_length}
use Rattle.reader.proofs.whole.Goals as goal

pub unwrap-requires : goal.unwrap-requires
unwrap-requires c = c.try_into.ensures.0 (clear_length _ _ _ (sym c.reader_verdict.ensures ∙ c.in_ok-reader_verdict.was))
