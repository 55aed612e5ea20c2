-- The host's rows, then the stopped mark's.
use Rattle.refusals.proofs.Lowest.{lowest_append}
use Rattle.refusals.proofs.medium_verdict.Goals as goal

pub returns : goal.returns
returns c = rw (c.and.ensures, c.refused_if.ensures, c.host_verdict.ensures) (lowest_append _ _)
