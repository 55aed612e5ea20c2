-- Each row is put behind the one before it: six pastes on the header and zeros make the page.
use Rattle.transitions.proofs.Page.{six_rows}
use Rattle.transitions.proofs.page_of.Goals as goal

pub returns : goal.returns
returns c = rw (
  c.put_row.ensures,
  c.put_row-z.ensures,
  c.put_row-c.ensures,
  c.put_row-b.ensures,
  c.put_row-a.ensures,
  c.put_row-active.ensures,
)
    (six_rows c.args.t)
