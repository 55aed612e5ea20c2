-- The format page: what each line of a script leaves of the session, and what it prints. Assumes nothing.
use Rattle.std.specs.Prelude.{Bool, true, false, cond, Option, Some, None, is_some, List, [], ◌∷◌, ℕ}
use Rattle.words.specs.Codes.{codes}
use Rattle.digits.specs.Sheets.{line_text}
use Rattle.asked.specs.declared.Line.{Line}
use Rattle.asked.specs.declared.Line.TheVariants.{Blank, Asks, Sets, Tells, Opens, Makes, Closes, Shows, Tables}
use Rattle.script.specs.Lines.{line_of_text}
use Rattle.blocks.specs.Sessions.{with_unit, is_open, opened, opened_make, after_line, closed_with, closed}
use Rattle.spelling.specs.Spelling.{shown}
use Rattle.blocks.specs.declared.Block.{Block}
use Rattle.blocks.specs.declared.Block.TheVariants.{UnitBlock, MakeBlock}
use Rattle.blocks.specs.declared.Session.{Session}
use Rattle.unit.specs.declared.Unit.{Unit}
use Rattle.table.specs.Table.{table_lines}
use Rattle.answers.specs.Answers.{CallResponse, call_response, made_response}

-- The session after a line, and what is printed, piece by piece.
pub record Response : Type 0 where
  pub session : Session
  pub pieces : List (List ℕ)

abbrev pub silent : Session → Response
silent s = record { session = s; pieces = [] }

abbrev pub ok_or_error : Bool → List (List ℕ)
ok_or_error good = line_text (cond good (codes "ok") (codes "error")) ∷ []

abbrev pub says_ok : Bool → Session → Response
says_ok good s = record { session = s; pieces = ok_or_error good }

abbrev pub is_end : Option Line → Bool
is_end (Some Closes) = true
is_end (Some Blank) = false
is_end (Some (Asks c)) = false
is_end (Some (Sets p)) = false
is_end (Some (Tells c r)) = false
is_end (Some Opens) = false
is_end (Some (Makes e)) = false
is_end (Some Shows) = false
is_end (Some Tables) = false
is_end None = false

-- "prints one `ok`, at `end`"; a bad line in the block: "`error`, printed once, at `end`".
abbrev pub ended_unit : Session → Response
ended_unit s = says_ok (is_some s.planned) (closed s)

-- "manufacture; prints `ok`, or `refused 3 -` and the record stays as it was; bad lines as in a `unit` block".
abbrev pub make_replied : Session → CallResponse → Response
make_replied s r = record { session = closed_with r.unit s; pieces = r.pieces }

abbrev pub made_of : Session → Option Unit → Response
made_of s (Some planned) = make_replied s (made_response s.unit planned)
made_of s None = says_ok false (closed_with s.unit s)

abbrev pub ended_make : Session → Response
ended_make s = made_of s s.planned

abbrev pub ended_block : Option Block → Session → Response
ended_block None s = says_ok false s
ended_block (Some UnitBlock) s = ended_unit s
ended_block (Some MakeBlock) s = ended_make s

abbrev pub in_block : Session → Option Line → Response
in_block s line = cond (is_end line) (ended_block s.block s) (silent (after_line line s))

abbrev pub replied : Session → CallResponse → Response
replied s r = record { session = with_unit r.unit s; pieces = r.pieces }

-- "A line with no word prints nothing." "`end` outside a block is `error`".
abbrev pub outside : Session → Option Line → List ℕ → Response
outside s (Some Blank) text = silent s
outside s (Some (Asks c)) text = replied s (call_response s.unit c text)
outside s (Some (Sets p)) text = says_ok false s
outside s (Some (Tells c r)) text = says_ok false s
outside s (Some Opens) text = silent (opened s)
outside s (Some (Makes e)) text = silent (opened_make e s)
outside s (Some Closes) text = says_ok false s
outside s (Some Shows) text = record { session = s; pieces = shown s.unit }
outside s (Some Tables) text = record { session = s; pieces = table_lines s.unit }
outside s None text = says_ok false s

-- What the line whose bytes before the LF are `text` gets.
unfoldable pub response : Session → List ℕ → Response
response s text = cond (is_open s.block) (in_block s (line_of_text text)) (outside s (line_of_text text) text)
