-- Each place has its record changed, by the subcommand and the Count of the registers.
use Rattle.std.proofs.Common.{rules}
use Rattle.rows.proofs.Chains.{from_fn_row}
use Rattle.drive.specs.Records.{unsupported}
use Rattle.epc.specs.Epc.{changed_at}
use Rattle.epc.proofs.change_all.Goals as goal

pub returns : goal.returns
returns c =
    from_fn_row _ _ (changed_at c.args.q) c.args.records unsupported (λ i y q k m. search rules)
    c.from_fn.result 5 (search rules) c.from_fn.ensures.items
