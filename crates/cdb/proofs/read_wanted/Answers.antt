-- The four fields are read where they stand.
use native.Mathlib.Nat.{div-one}
use Rattle.cdb.specs.Cdb.{wanted}
use Rattle.cdb.proofs.read_wanted.Goals as goal

pub returns : goal.returns
unfolding wanted
returns c = rw (c.decide.ensures, c.byte_at.ensures, c.byte_at-b.ensures) (simp div-one)
