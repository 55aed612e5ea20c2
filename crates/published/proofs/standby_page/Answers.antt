-- Two copies into zeros, the second behind the first.
use mathlib.Core.Path.{◌∙◌}
use Rattle.published.proofs.Copies.{standby_copies}
use Rattle.published.proofs.standby_page.Goals as goal

pub returns : goal.returns
returns c = c.copy_in-2.ensures
    ∙ standby_copies c.args.records _ _ _ c.named_bytes.ensures c.named_bytes-2.ensures
    c.copy_in.ensures
