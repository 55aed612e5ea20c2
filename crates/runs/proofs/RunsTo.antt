-- A run with its deeds and the record that it leaves, put together from its first call and the rest, or from two runs.
use mathlib.Core.Path.{◌≡◌, refl, sym, ap, ◌∙◌}
use mathlib.Core.List.{List, [], ◌∷◌, ◌++◌, append_assoc}
use Rattle.unit.specs.declared.Unit.{Unit}
use Rattle.calls.specs.Calls.{Call, step, run, history}
use Rattle.runs.specs.Deeds.{Deed, deeds}
use Rattle.runs.specs.Serial.{gather}
use Rattle.runs.proofs.Deeds.{deed_at}

pub record RunsTo (v : Unit) (cs : List Call) (ds : List Deed) (w : Unit) : Type 0 where
  pub came : deeds (history v cs) ≡ ds
  pub left : run v cs ≡ w

pub runs_nothing : (v : Unit) → RunsTo v [] [] v
runs_nothing v = record { came = refl; left = refl }

pub runs_on : (v w x : Unit) (c : Call) (d : Deed) (cs : List Call) (ds : List Deed) → deed_at v c ≡ d → step v c ≡ w → RunsTo w cs ds x
    → RunsTo v (c ∷ cs) (d ∷ ds) x
runs_on v w x c d cs ds deed left more = record { came = rw (deed, left) (ap (λ l. d ∷ l) more.came); left = rw left more.left }

pub runs_append : (v w x : Unit) (cs ds : List Call) (es fs : List Deed) → RunsTo v cs es w → RunsTo w ds fs x → RunsTo v (cs ++ ds) (es ++ fs) x
runs_append v w x cs ds es fs first more = record {
  came = came v cs ∙ rw (first.came, first.left, more.came);
  left = left v cs ∙ rw (first.left, more.left);
}
  where
    came : (v : Unit) (cs : List Call) → deeds (history v (cs ++ ds)) ≡ deeds (history v cs) ++ deeds (history (run v cs) ds)
    came v [] = refl
    came v (c ∷ cs) = ap (λ l. deed_at v c ∷ l) (came (step v c) cs)

    left : (v : Unit) (cs : List Call) → run v (cs ++ ds) ≡ run (run v cs) ds
    left v [] = refl
    left v (c ∷ cs) = left (step v c) cs

-- ---- what two runs give

pub gather_append : {A : Type 0} (f : Deed → List A) (ds es : List Deed) → gather f (ds ++ es) ≡ gather f ds ++ gather f es
gather_append f [] es = refl
gather_append f (d ∷ ds) es = ap (λ l. f d ++ l) (gather_append f ds es) ∙ sym (append_assoc (f d) (gather f ds) (gather f es))
