-- At each turn the bytes so far and the words from `i` on make the CDB, and the line is one if all of these words are bytes.
use mathlib.Core.Path.{◌≡◌}
use mathlib.Core.List.{◌++◌}
use lib.ListN.{length, take, drop}
use Rattle.commands.specs.Commands.{are_bytes, byte_words, is_cdb, values}
use Rattle.commands.proofs.cdb_in.Given as goal

abbrev pub invariant-loop-i : goal.invariant-loop-i
invariant-loop-i l = (is_cdb l.line ≡ are_bytes (drop l.i (byte_words l.line)))
    × (values (byte_words l.line) ≡ take l.i l.b-items ++ values (drop l.i (byte_words l.line)))
    × (length l.b-items ≡ l.len)
