-- The length and the host, then the CDB.
use mathlib.Core.List.{[], ◌∷◌}
use Rattle.refusals.proofs.Lowest.{lowest_append}
use Rattle.refusals.specs.Verdicts.{bad_length_row}
use Rattle.refusals.proofs.start_stop_verdict.Goals as goal

pub returns : goal.returns
returns c = rw (
  c.and.ensures,
  c.cdb_verdict.ensures,
  c.and-before.ensures,
  c.host_verdict.ensures,
  c.refused_if.ensures,
  lowest_append (bad_length_row c.args.size 6 ∷ []) _,
)
    (lowest_append _ _)
