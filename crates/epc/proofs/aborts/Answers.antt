-- The registers alone decide first; where they read right, Count and the records do.
use Rattle.epc.proofs.Clauses.{in_turn}
use Rattle.epc.proofs.aborts.Goals as goal

pub returns-then-misread : goal.returns-then-misread
returns-then-misread c = rw (← in_turn c.args.e c.args.q c.args.records, ← c.sub_of-sub.ensures, ← c.misread.ensures, c.if-misread.true)

pub returns-else-misread : goal.returns-else-misread
returns-else-misread c = rw (
  ← in_turn c.args.e c.args.q c.args.records,
  ← c.sub_of-sub.ensures,
  ← c.misread.ensures,
  c.if-misread.false,
  c.unfit.ensures,
  c.save.ensures,
  c.named_by.ensures,
)
