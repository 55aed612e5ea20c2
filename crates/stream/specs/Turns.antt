-- The format page's head: what the program writes, turn by turn, of the script that it reads. Assumes nothing.
use Rattle.std.specs.Prelude.{◌≡◌, Bool, true, false, cond, List, [], ◌∷◌, ◌++◌, ℕ, ◌<◌, ◌≤◌, length, drop, take}
use Rattle.intake.specs.Intake.{is_answered}
use Rattle.stream.specs.Streams.{Stream, fed_all, finished, unfed, printed_by, emptied, stream_of, bytes_between}
use Rattle.stream.specs.declared.Turn.{Turn}

-- Where the program stands before a turn: its stream, of which what was printed is to be written out; the bytes that it has read and not answered; whether
-- it goes on.
pub record Standing : Type 0 where
  pub stream : Stream
  pub unanswered : List ℕ
  pub goes : Bool

abbrev pub started : Standing
started = record { stream = unfed; unanswered = []; goes = true }

-- Only these bytes are still to be written out.
abbrev pub over_with : Stream → List ℕ → Standing
over_with s last = record { stream = record { session = s.session; kept = s.kept; printed = last }; unanswered = []; goes = false }

-- What a turn is to answer: the bytes that are left or, if none are, the piece that its read gave.
abbrev pub bytes_next : List ℕ → List ℕ → List ℕ
bytes_next [] piece = piece
bytes_next (b ∷ bs) piece = b ∷ bs

-- It answers the first of them and as many more as there is room for. If there are none, the script is at its end.
abbrev pub answered_of : Stream → List ℕ → ℕ → Standing
answered_of s [] more = over_with s (finished (emptied s))
answered_of s (b ∷ bs) more = record { stream = fed_all (emptied s) (b ∷ take more bs); unanswered = drop more bs; goes = true }

-- A turn, given whether what was printed could be written out: if it could not, nothing more is.
abbrev pub turned : Standing → Bool → List ℕ → ℕ → Standing
turned s written piece more = cond written (answered_of s.stream (bytes_next s.unanswered piece) more) (over_with s.stream [])

abbrev pub Turned : Standing → Bool → List ℕ → Standing → Type 0
Turned s written piece e = (more : ℕ) × (e ≡ turned s written piece more)

-- ---- all turns

-- What is read: all that the reads give, one after the other, up to the first that gives nothing, as at the end of the input. "A file that opens and can't be
-- read to its end counts up to where it could be read".
abbrev pub script : List (List ℕ) → List ℕ
script [] = []
script ([] ∷ later) = []
script ((b ∷ bs) ∷ later) = b ∷ bs ++ script later

abbrev pub first_of : List (List ℕ) → List ℕ
first_of [] = []
first_of (piece ∷ later) = piece

-- The reads that are left after a turn: it reads if it finds nothing that is not answered.
abbrev pub reads_left : List ℕ → List (List ℕ) → List (List ℕ)
reads_left [] [] = []
reads_left [] (piece ∷ later) = later
reads_left (b ∷ bs) reads = reads

-- What is written out where all of it can be: at each turn what was printed before it, and what was printed last. `turns` says how many bytes each turn
-- answers behind the first.
unfoldable pub written_in_turns : Standing → List (List ℕ) → List ℕ → List ℕ
written_in_turns s reads [] = s.stream.printed
written_in_turns s reads (more ∷ turns) =
    cond s.goes
    (s.stream.printed ++ written_in_turns (turned s true (first_of reads) more) (reads_left s.unanswered reads) turns)
    s.stream.printed

-- That is what the script prints: no piece is left out, and none is taken for the last while another one comes. As many turns as bytes and one are enough.
abbrev pub InTurns : Type 0
InTurns = (reads : List (List ℕ)) (turns : List ℕ) → length (script reads) < length turns → written_in_turns started reads turns ≡ printed_by (script reads)

-- Behind what could not be written nothing is.
abbrev pub NothingMore : Type 0
NothingMore = (s : Standing) (piece : List ℕ) (more : ℕ) (reads : List (List ℕ)) (turns : List ℕ) → written_in_turns (turned s false piece more) reads turns ≡ []

-- ---- the code's turns

abbrev pub standing_of : Turn → List ℕ → List ℕ → List ℕ → Standing
standing_of t input line out = record { stream = stream_of t.run line out; unanswered = bytes_between t.run.from t.to input; goes = t.goes }

abbrev pub Starts : Turn → Type 0
Starts t = ((input line out : List ℕ) → standing_of t input line out ≡ started) × (t.to ≡ 0) × (t.run.at ≡ 0)

abbrev pub nothing_in : List ℕ → Bool
nothing_in [] = true
nothing_in (b ∷ bs) = false

-- By the places of the buffer the program can tell whether it is to read.
abbrev pub ReadsIfNone : Type 0
ReadsIfNone =
    (t : Turn) (input line out : List ℕ) → t.to ≤ length input
    → is_answered t.run.from t.to ≡ nothing_in (standing_of t input line out).unanswered
