-- More than 128 blanks are cut.
use Prim.Native.Nat.{ℕ, min}
use native.Mathlib.Omega.{arith}
use Rattle.std.proofs.lemmas.List.{take-replicate}
use Rattle.digits.specs.Texts.{said}
use Rattle.digits.proofs.Digits.{cut_blanks}
use Rattle.digits.proofs.Text.put_blanks.Goals as goal

pub returns : goal.returns
returns c = let n = c.args.n in
    rw (c.put_all.ensures, c.min.ensures, take-replicate {X = ℕ} (min n 128) 128 32 (omega arith)) (cut_blanks (said c.args.self) n)
