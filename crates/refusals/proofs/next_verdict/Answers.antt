-- The host's rows, then its own slot's.
use Rattle.refusals.proofs.Lowest.{lowest_append}
use Rattle.refusals.proofs.next_verdict.Goals as goal

pub returns : goal.returns
returns c = rw (c.and.ensures, c.refused_if.ensures, c.host_verdict.ensures) (lowest_append _ _)
