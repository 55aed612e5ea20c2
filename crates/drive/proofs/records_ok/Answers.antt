-- After so many turns the flag and what is left to test say what the whole test says.
use Rattle.std.proofs.Common.{◌≡◌, sym, ◌∙◌, length, arith, rules}
use Rattle.rows.proofs.Folds.{every_end}
use Rattle.drive.specs.Records.{record_well_formed, records_well_formed}
use Rattle.drive.proofs.records_ok.Goals as goal

pub returns : goal.returns
unfolding records_well_formed
returns c = let five : length c.args.records ≡ 5 = search rules in
    let all = every_end (λ at r. record_well_formed c.args.top.0 r) c.args.records c.loop-r.r-index c.loop-r.ok (omega arith) in
    rw five (sym all ∙ c.loop-r.invariant)
