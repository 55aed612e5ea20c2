-- The format page's head: where the script comes from, and logcheck's page likewise; and which of the bytes that were read a turn of the program
-- answers. Assumes nothing.
use Rattle.std.specs.Prelude.{Bool, cond, ◌&&◌, ℕ, min, eqb, ltb, leb, Option, Some, None}
use Rattle.intake.specs.declared.Pace.{Pace}
use Rattle.intake.specs.declared.Source.{Source}
use Rattle.intake.specs.declared.Source.TheVariants.{Standard, File, Misused}

-- "`replay FILE` reads a script from FILE, `replay` alone reads it from standard input", "More than one argument: a line on how to use it".
-- The program's own name is the first of the words that it was started with, and may be missing; FILE is the one behind it.
abbrev pub source_of : ℕ → Source
source_of args = cond (ltb args 2) Standard (cond (eqb args 2) (File 1) Misused)

-- "A file that opens and can't be read to its end counts up to where it could be read": a read that fails gives no bytes.
abbrev pub clamped : Option ℕ → ℕ → ℕ
clamped (Some n) most = min n most
clamped None most = 0

abbrev pub is_answered : ℕ → ℕ → Bool
is_answered from to = leb to from

-- What was read and is not answered comes first, then the n bytes that a read gives, from the buffer's start on. The program goes on while there are
-- such bytes, and what it printed could be written out.
abbrev pub pace_next : ℕ → ℕ → Bool → ℕ → Pace
pace_next from to written n =
    cond (is_answered from to)
    (record { from = 0; to = n; goes = written && ltb 0 n })
    (record { from = from; to = to; goes = written })
