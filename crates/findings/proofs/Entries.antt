-- Each piece has a bound, whatever its numbers, so that none is cut.
use Prim.Native.Nat.{ℕ}
use Rattle.words.specs.Codes.{codes}
use Rattle.digits.proofs.Lengths.{Within, whole, ◌then◌, hex}
use Rattle.faults.specs.declared.Fault.{Fault}
use Rattle.faults.specs.Tests.{kind_number}
use Rattle.findings.specs.Findings.{ok_total, entry_text}

pub total_within : (n : ℕ) → Within (ok_total n) 11
total_within n = whole (codes "ok") then (whole (codes " ") then hex n)

pub entry_within : (f : Fault) → Within (entry_text f) 18
entry_within f = whole (codes " ") then hex (kind_number f.kind) then whole (codes "@") then hex f.place
