-- The number tells the page.
use borrow.Author.Tests.{ne_eqb}
use Rattle.published.specs.Descriptors.{descriptor_page}
use Rattle.published.proofs.descriptor_page.Goals as goal

pub returns-else-number-eq0 : goal.returns-else-number-eq0
unfolding descriptor_page
returns-else-number-eq0 c = rw (c.standby_page.ensures, ne_eqb _ _ c.if-number-eq0.false)
