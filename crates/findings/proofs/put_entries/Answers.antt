-- After k turns the first k entries are written.
use mathlib.Core.Path.{◌∙◌}
use native.Mathlib.Omega.{arith}
use Rattle.digits.specs.Sheets.{wrote, written}
use Rattle.digits.proofs.Sheets.{wrote_item}
use Rattle.findings.specs.Findings.{entry_text}
use Rattle.findings.proofs.put_entries.Goals as goal

pub loop-fault-preserved : goal.loop-fault-preserved
loop-fault-preserved c =
    c.put_text.ensures ∙ (λ i. wrote (c.loop-fault.invariant i) (c.entry.ensures i))
    ∙ wrote_item (written c.args.out.now) entry_text _ c.loop-fault.fault-index _ (omega arith)
