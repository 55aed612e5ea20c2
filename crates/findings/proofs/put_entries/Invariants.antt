-- After k turns the first k entries are written.
use mathlib.Core.Path.{◌≡◌}
use mathlib.Core.List.{map}
use lib.ListN.{take}
use Rattle.digits.specs.Sheets.{written, wrote_all}
use Rattle.findings.specs.Findings.{entry_text}
use Rattle.findings.proofs.put_entries.Given as goal

abbrev pub invariant-loop-fault : goal.invariant-loop-fault
invariant-loop-fault l = written l.out ≡ wrote_all (written l.initial.out) (map entry_text (take l.fault-index l.listed))
