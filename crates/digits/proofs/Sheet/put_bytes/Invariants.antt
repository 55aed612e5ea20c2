-- After i turns the digits of the first i bytes stand on it: one turn is `wrote_both`, since all of them have room.
use mathlib.Core.Path.{◌≡◌}
use lib.ListN.{take}
use Rattle.digits.specs.Numerals.{pairs}
use Rattle.digits.specs.Sheets.{written, wrote}
use Rattle.digits.proofs.Sheet.put_bytes.Given as goal

abbrev pub invariant-loop-b : goal.invariant-loop-b
invariant-loop-b l = written l.self ≡ wrote (written l.initial.self) (pairs (take l.b-index l.bytes))
