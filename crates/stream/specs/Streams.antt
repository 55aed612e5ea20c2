-- The format page, "Lines and words": what a script prints, byte by byte, so that nothing hangs on the pieces it comes in. Assumes nothing.
use Rattle.std.specs.Prelude.{false, cond, List, [], ◌∷◌, ◌++◌, ℕ, ◌-◌, eqb, drop, take}
use Prim.Native.Char.{code}
use Rattle.digits.specs.Sheets.{joined}
use Rattle.blocks.specs.Sessions.{start_session, is_open}
use Rattle.blocks.specs.declared.Session.{Session}
use Rattle.replies.specs.Lines.{Response, response, ok_or_error}
use Rattle.stream.specs.declared.Run.{Run}

-- A run of a script: its session, the bytes of a line that has not ended, and what has been printed.
pub record Stream : Type 0 where
  pub session : Session
  pub kept : List ℕ
  pub printed : List ℕ

abbrev pub after_answer : Stream → Response → Stream
after_answer s r = record { session = r.session; kept = []; printed = s.printed ++ joined r.pieces }

-- "A line ends with LF": it gets its answer.
abbrev pub answered : Stream → Stream
answered s = after_answer s (response s.session s.kept)

-- Of a line's bytes 4,001 are kept: enough to see that it has "more than 4,000".
abbrev pub keeps_byte : Stream → ℕ → Stream
keeps_byte s b = record { session = s.session; kept = take 4001 (s.kept ++ (b ∷ [])); printed = s.printed }

abbrev pub fed : Stream → ℕ → Stream
fed s b = cond (eqb b (code "\n")) (answered s) (keeps_byte s b)

unfoldable pub fed_all : Stream → List ℕ → Stream
fed_all s [] = s
fed_all s (b ∷ bs) = fed_all (fed s b) bs

-- "the end of input inside a block prints one `error`".
abbrev pub closed_off : Stream → List ℕ
closed_off s = cond (is_open s.session.block) (s.printed ++ joined (ok_or_error false)) s.printed

-- "a last line without LF counts".
abbrev pub finished : Stream → List ℕ
finished s = closed_off (answered s)

-- A run that has been fed nothing yet.
abbrev pub unfed : Stream
unfed = record { session = start_session; kept = []; printed = [] }

-- What a whole script prints.
abbrev pub printed_by : List ℕ → List ℕ
printed_by script = finished (fed_all unfed script)

-- What was printed has been written out.
abbrev pub emptied : Stream → Stream
emptied s = record { session = s.session; kept = s.kept; printed = [] }

-- ---- the code's run

abbrev pub stream_of : Run → List ℕ → List ℕ → Stream
stream_of r line out = record { session = r.session; kept = take r.len line; printed = take r.at out }

-- The bytes from a place up to another.
abbrev pub bytes_between : ℕ → ℕ → List ℕ → List ℕ
bytes_between from to l = take (to - from) (drop from l)
