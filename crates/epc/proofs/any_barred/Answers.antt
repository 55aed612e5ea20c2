-- The test of each place.
use Rattle.std.proofs.Common.{rules}
use Rattle.rows.proofs.Chains.{some_answer}
use Rattle.drive.specs.Records.{unsupported}
use Rattle.registers.specs.declared.Named.TheVariants.{Every}
use Rattle.epc.specs.Inner.{selected_barred}
use Rattle.epc.proofs.any_barred.Goals as goal

pub returns : goal.returns
returns c = some_answer (selected_barred c.args.sub Every c.args.save) c.args.records unsupported c.any.result (search rules)
