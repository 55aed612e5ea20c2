-- A sheet that lines are written on, one after the other: what it holds and how far it is written. Assumes nothing.
use Rattle.std.specs.Prelude.{List, [], ◌∷◌, ◌++◌, ℕ}
use Prim.Native.Char.{code}
use Rattle.digits.specs.Texts.{cut, written_at, after}
use Rattle.digits.specs.declared.Sheet.{Sheet}

-- What stands in the buffer that was lent, how far it is written, and which buffer that is.
pub record Written : Type 0 where
  pub bytes : List ℕ
  pub len : ℕ
  pub lent : ℕ

abbrev pub written : Sheet → Written
written s = record { bytes = s.bytes.now; len = s.len; lent = s.bytes.ghost_name }

-- A piece is written whole or, where there is no room, not at all.
abbrev pub wrote : Written → List ℕ → Written
wrote s bs = record { bytes = written_at s.bytes s.len bs; len = after s.bytes s.len bs; lent = s.lent }

unfoldable pub wrote_all : Written → List (List ℕ) → Written
wrote_all s [] = s
wrote_all s (bs ∷ more) = wrote_all (wrote s bs) more

-- The pieces, one behind the other.
abbrev pub joined : List (List ℕ) → List ℕ
joined [] = []
joined (bs ∷ more) = bs ++ joined more

-- A line with its LF; a text has room for 128 bytes.
abbrev pub line_text : List ℕ → List ℕ
line_text bs = cut (bs ++ (code "\n" ∷ []))
