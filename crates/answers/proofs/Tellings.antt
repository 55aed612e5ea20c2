-- What is said of a call, written as a line, is the line of the call's outcome.
use mathlib.Core.Path.{◌≡◌}
use mathlib.Core.List.{List, [], ◌∷◌}
use Prim.Native.Nat.{ℕ}
use Rattle.digits.specs.Sheets.{Written}
use Rattle.digits.specs.Sheets.{wrote, wrote_all, line_text}
use Rattle.digits.specs.Texts.{cut}
use Rattle.digits.proofs.Sheets.{line_once}
use Rattle.unit.specs.declared.Unit.{Unit}

pub line_told : {after told printed : Unit} {said : List ℕ} {end : Written} (text : List ℕ) (before : Written)
    → (told ≡ after) × (said ≡ cut text)
    → (printed ≡ told) × (end ≡ wrote before (line_text said))
    → (printed ≡ after) × (end ≡ wrote_all before (line_text text ∷ []))
unfolding wrote_all
line_told text before t p = (rw t.0 at p.0, rw (t.1, line_once) at p.1)
