-- The length's row, then the record's.
use Rattle.refusals.proofs.Lowest.{lowest_append}
use Rattle.refusals.proofs.page_verdict.Goals as goal

pub returns : goal.returns
returns c = rw (c.and.ensures, c.record_verdict.ensures, c.refused_if.ensures) (lowest_append _ _)
