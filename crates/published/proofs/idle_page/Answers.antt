-- Three copies into zeros, each behind the descriptor before it.
use mathlib.Core.Path.{◌∙◌}
use Rattle.published.proofs.Copies.{idle_copies}
use Rattle.published.proofs.idle_page.Goals as goal

pub returns : goal.returns
returns c = c.copy_in-3.ensures
    ∙ idle_copies c.args.records _ _ _ _ _ c.named_bytes.ensures
    c.named_bytes-2.ensures c.named_bytes-3.ensures c.copy_in.ensures
    c.copy_in-2.ensures
