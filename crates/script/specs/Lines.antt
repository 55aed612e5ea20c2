-- The format page: what a line asks for. Assumes nothing.
use Rattle.std.specs.Prelude.{cond, Option, Some, None, List, [], ◌∷◌, ◌++◌, ℕ, zero, suc, ltb, length}
use Prim.Native.String.{String}
use Rattle.asked.specs.declared.Line.{Line}
use Rattle.asked.specs.declared.Line.TheVariants.{Blank, Opens, Closes, Shows, Tables}
use Rattle.words.specs.Codes.{codes}
use Rattle.words.specs.Words.{same, word_at}
use Rattle.words.specs.Fields.{has_words}
use Rattle.asked.specs.Offers.{offered}
use Rattle.commands.specs.Commands.{tick_line, epc_line, read_line, write_line, reset_line, start_stop_line, next_line, answer_line, sense_line, log_line, transitions_line, new_page_line, make_line}
use Rattle.pairs.specs.Pairs.{faults_line, record_line}
use Rattle.parts.specs.Parts.{condition_line, state_line, counts_line, edition_line, maker_line}
use Rattle.hosts.specs.Hosts.{slot_line, held_line, out_line}
use Rattle.words.specs.Lines.{line_in}

-- A command: its name, and what a line that starts with it asks for.
pub record Entry : Type 0 where
  pub name : List ℕ
  pub reader : List ℕ → Option Line

infixl 20 ◌reads◌
abbrev pub ◌reads◌ : String → (List ℕ → Option Line) → Entry
name reads reader = record { name = codes name; reader = reader }

abbrev pub call_entries : List Entry
call_entries =
    ("tick" reads tick_line)
    ∷ ("epc" reads epc_line)
    ∷ ("read" reads read_line)
    ∷ ("write" reads write_line)
    ∷ ("reset" reads reset_line)
    ∷ ("ssu" reads start_stop_line)
    ∷ ("next" reads next_line)
    ∷ ("answer" reads answer_line)
    ∷ ("sense" reads sense_line)
    ∷ ("log" reads log_line)
    ∷ ("trans" reads transitions_line)
    ∷ ("faults" reads faults_line)
    ∷ ("record" reads record_line)
    ∷ ("page" reads new_page_line)
    ∷ ("make" reads make_line)
    ∷ []

-- The lines of a `unit` block, and of a `make` block.
abbrev pub part_entries : List Entry
part_entries =
    ("c" reads condition_line)
    ∷ ("state" reads state_line)
    ∷ ("slot" reads slot_line)
    ∷ ("held" reads held_line)
    ∷ ("out" reads out_line)
    ∷ ("counts" reads counts_line)
    ∷ ("ed" reads edition_line)
    ∷ ("m" reads maker_line)
    ∷ []

-- A word that stands alone.
abbrev pub alone : Line → List ℕ → Option Line
alone asked line = offered (has_words 1 line) (Some asked)

abbrev pub lone_entries : List Entry
lone_entries = ("unit" reads alone Opens) ∷ ("end" reads alone Closes) ∷ ("show" reads alone Shows) ∷ ("table" reads alone Tables) ∷ []

abbrev pub names : List Entry → List (List ℕ)
names [] = []
names (e ∷ es) = e.name ∷ names es

abbrev pub reader_at : List Entry → ℕ → List ℕ → Option Line
reader_at [] k line = None
reader_at (e ∷ es) zero line = e.reader line
reader_at (e ∷ es) (suc k) line = reader_at es k line

-- The reader whose name is the line's first word.
abbrev pub read_by : List Entry → List ℕ → Option Line
read_by [] line = None
read_by (e ∷ es) line = cond (same (word_at 0 line) e.name) (e.reader line) (read_by es line)

-- "A line with no word prints nothing."
unfoldable pub line_of_words : List ℕ → Option Line
line_of_words line = cond (has_words 0 line) (Some Blank) (read_by (call_entries ++ part_entries ++ lone_entries) line)

-- "A line of more than 4,000 bytes before the LF is `error`, whatever is in it."
unfoldable pub line_of_text : List ℕ → Option Line
line_of_text text = cond (ltb 4000 (length text)) None (line_of_words (line_in text))
