-- Each place has its record restored unless it is kept: so either all are restored, or each is its own.
use mathlib.Core.Path.{◌∙◌}
use Rattle.std.proofs.Common.{rules}
use Rattle.rows.proofs.Chains.{from_fn_row}
use Rattle.drive.specs.Records.{unsupported}
use Rattle.drive.proofs.Kept.{restored_unless, restored_kept}
use Rattle.drive.proofs.restore_unless.Goals as goal

pub returns : goal.returns
returns c =
    from_fn_row _ _ (restored_unless c.args.kept) c.args.records unsupported (λ i y q k m. search rules)
    c.from_fn.result 5 (search rules) c.from_fn.ensures.items
    ∙ restored_kept c.args.kept c.args.records
