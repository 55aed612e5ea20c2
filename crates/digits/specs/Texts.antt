-- A text that is being written: what it says, and how much room it has. Assumes nothing.
use Rattle.std.specs.Prelude.{Bool, cond, List, ℕ, ◌+◌, leb, length, take}
use Rattle.std.proofs.Math.Seq.{paste}
use Rattle.digits.specs.declared.Text.{Text}

-- What a text says.
unfoldable pub said : Text → List ℕ
said t = take t.len t.bytes

-- A text has room for 128 bytes; what goes beyond is not written.
unfoldable pub cut : List ℕ → List ℕ
cut bs = take 128 bs

-- Bytes are written into a buffer from a place on if there is room for all of them.
abbrev pub has_room : List ℕ → ℕ → List ℕ → Bool
has_room out at bs = leb (at + length bs) (length out)

unfoldable pub written_at : List ℕ → ℕ → List ℕ → List ℕ
written_at out at bs = cond (has_room out at bs) (paste out at bs (length bs)) out

unfoldable pub after : List ℕ → ℕ → List ℕ → ℕ
after out at bs = cond (has_room out at bs) (at + length bs) at
