-- A go to enters the condition; any other subcommand changes records alone.
use Rattle.epc.specs.Epc.{performed}
use Rattle.epc.proofs.perform.Goals as goal

pub returns-then-is_go_to : goal.returns-then-is_go_to
unfolding performed
returns-then-is_go_to c = rw (
  ← c.sub_of.ensures,
  ← c.is_go_to.ensures,
  c.if-is_go_to.true,
  c.go_to.ensures,
  c.named_by.ensures,
  c.restart-fresh.ensures,
)

pub returns-else-is_go_to : goal.returns-else-is_go_to
unfolding performed
returns-else-is_go_to c = rw (
  ← c.sub_of.ensures,
  ← c.is_go_to.ensures,
  c.if-is_go_to.false,
  c.with_records.ensures,
  c.change_all.ensures,
  c.restart-fresh.ensures,
)
