-- What a read of a log page leaves, whatever page it is: a clear verdict says that the buffer has the page's length, so the copy fills it; a refusal
-- touches nothing.
use Rattle.std.proofs.Common.{Ok, Err}
use mathlib.Core.Path.{◌≡◌, sym, ◌∙◌}
use mathlib.Core.Bool.{Bool}
use mathlib.Core.List.{List, ◌∷◌}
use Prim.Native.Nat.{ℕ}
use lib.ListN.{length}
use lib.Seq.{paste}
use Rattle.rows.proofs.Copied.{copied_whole}
use Rattle.refusals.specs.Refusals.{Row, lowest}
use Rattle.refusals.specs.Verdicts.{bad_length_row}
use Rattle.refusals.specs.declared.Refusal.{Refusal}
use Rattle.refusals.proofs.Lowest.{clear_length}
use Rattle.unit.specs.Units.{well_formed}
use Rattle.unit.specs.declared.Unit.{Unit}
use Rattle.readouts.specs.Readouts.{Filled, filled}
use Rattle.refusals.specs.Refusals.{Verdict}

-- The rows of a page: its length first, then those that look at the record.
abbrev pub page_rows : ℕ → (Bool → List Row) → List ℕ → Bool → List Row
page_rows size others buffer ok = bad_length_row (length buffer) size ∷ others ok

-- The verdict of these rows, as the code comes by it: from the record's test.
abbrev pub GivenBy : ℕ → (Bool → List Row) → Unit → List ℕ → Bool → Verdict → Type 0
GivenBy size others u buffer ok v = (ok ≡ well_formed u) × (v ≡ lowest (page_rows size others buffer ok))

-- A clear verdict: the buffer has the page's length.
pub page_fits : (size : ℕ) (others : Bool → List Row) (u : Unit) (buffer : List ℕ) (ok : Bool) (v : Verdict) → GivenBy size others u buffer ok v
    → v ≡ Ok tt → length buffer ≡ size
page_fits size others u buffer ok v told clear = clear_length _ _ _ (sym told.1 ∙ clear)

module _ (size : ℕ) (others : Bool → List Row) (u : Unit) (bytes buffer : List ℕ) (ok : Bool) (v : Verdict) (told : GivenBy size others u buffer ok v) where
  abbrev reading : Filled
  reading = filled u u bytes buffer (lowest (page_rows size others buffer (well_formed u)))

  verdict : v ≡ lowest (page_rows size others buffer (well_formed u))
  verdict = rw (← told.0) told.1

  pub page_fills : v ≡ Ok tt → (page exit : List ℕ) → page ≡ bytes → length page ≡ size → exit ≡ paste buffer 0 page (length page)
      → ((Ok tt) ≡ reading.called.answer) × (exit ≡ reading.buffer)
  page_fills clear page exit made long copied =
      let given : lowest (page_rows size others buffer (well_formed u)) ≡ Ok tt = sym verdict ∙ clear in
      let whole = copied_whole buffer page (long ∙ sym (page_fits size others u buffer ok v told clear)) in
      (rw given, rw given (copied ∙ whole ∙ made))

  pub page_refuses : (r : Refusal) → v ≡ Err r → (Err r ≡ reading.called.answer) × (buffer ≡ reading.buffer)
  page_refuses r e =
      let given : lowest (page_rows size others buffer (well_formed u)) ≡ Err r = sym verdict ∙ e in
      (rw given, rw given)
