-- The clauses of the abort, apart as the paper has them and together as the code tests them.
use mathlib.Core.Path.{◌≡◌, refl, sym, ap, ◌∙◌}
use mathlib.Core.Bool.{Bool, true, false, not, ◌&&◌, ◌||◌}
use mathlib.Core.List.{List}
use Prim.Native.Nat.{ℕ}
use lib.Dec.{eqb}
use Rattle.rows.specs.Rows.{some_at}
use Rattle.rows.proofs.Some.{or_left, or_right, some_same, some_or, some_when}
use Rattle.drive.specs.declared.Edition.{Edition}
use Rattle.drive.specs.declared.Record.{Record}
use Rattle.epc.specs.Epc.{sub_of, reserved_in_lba, is_unknown, save, selects, is_go_to, is_every, is_unlisted, selected_without, aborts}
use Rattle.registers.specs.Commands.{named}
use Rattle.epc.specs.Inner.{misread, misnamed, selected_barred, unfit}
use Rattle.epc.specs.declared.Sub.{Sub}
use Rattle.registers.specs.declared.Registers.{Registers}
use Rattle.registers.specs.declared.Named.{Named}

spread : (s a b c d e : Bool) → (s && (a || b && c || d && e)) ≡ (s && a || b && (s && c) || d && (s && e))
spread true a b c d e = refl
spread false a true c true e = refl
spread false a true c false e = refl
spread false a false c true e = refl
spread false a false c false e = refl

-- One walk that asks whether a selected condition bars the subcommand finds what the three clauses find, each with a walk of its own.
barred_apart : (sub : Sub) (n : Named) (saves : Bool) (rs : List Record)
    → some_at (selected_barred sub n saves) 0 rs
    ≡ (selected_without (λ r. r.supported) sub n rs
    || not (is_go_to sub) && selected_without (λ r. r.changeable) sub n rs
    || saves && selected_without (λ r. r.saveable) sub n rs)
barred_apart sub n saves rs =
    let goes = is_go_to sub in
    let a : ℕ → Record → Bool = λ i r. selects sub n i r && not r.supported in
    let b : ℕ → Record → Bool = λ i r. selects sub n i r && not r.changeable in
    let d : ℕ → Record → Bool = λ i r. selects sub n i r && not r.saveable in
    some_same (selected_barred sub n saves) (λ i r. a i r || not goes && b i r || saves && d i r) 0 rs
    (λ i r. spread (selects sub n i r) (not r.supported) (not goes) (not r.changeable) saves (not r.saveable))
    ∙ some_or (λ i r. a i r || not goes && b i r) (λ i r. saves && d i r) 0 rs
    ∙ ap (λ (x : Bool). x || some_at (λ i r. saves && d i r) 0 rs) (some_or a (λ i r. not goes && b i r) 0 rs)
    ∙ rw (some_when (not goes) b 0 rs, some_when saves d 0 rs)

-- The order in which the clauses are joined does not matter.
joined : (m u g s a b c : Bool) → (m || (u || g) || s || (a || b || c)) ≡ (m || u || s || a || g || b || c)
joined true u g s a b c = refl
joined false true g s a b c = refl
joined false false true true a b c = refl
joined false false true false true b c = refl
joined false false true false false b c = refl
joined false false false true a b c = refl
joined false false false false true b c = refl
joined false false false false false b c = refl

-- What the code decides is what the paper's clauses say.
pub together : (e : Edition) (q : Registers) (rs : List Record)
    → (misread e q (sub_of q.lba) || misnamed (is_go_to (sub_of q.lba)) (named q.count)
    || not (some_at (selects (sub_of q.lba) (named q.count)) 0 rs)
    || some_at (selected_barred (sub_of q.lba) (named q.count) (save q.lba)) 0 rs)
    ≡ aborts e q rs
unfolding aborts
together e q rs =
    let sub = sub_of q.lba in
    let n = named q.count in
    rw (barred_apart sub n (save q.lba) rs)
    (joined (misread e q sub) (is_unlisted n) (is_go_to sub && is_every n) (not (some_at (selects sub n) 0 rs)) (selected_without (λ r. r.supported) sub n rs)
    (not (is_go_to sub) && selected_without (λ r. r.changeable) sub n rs)
    (save q.lba && selected_without (λ r. r.saveable) sub n rs))

regrouped : (m n s b : Bool) → (m || n || s || b) ≡ (m || (n || s || b))
regrouped true n s b = refl
regrouped false n s b = refl

-- The registers alone first, then Count and the records.
pub in_turn : (e : Edition) (q : Registers) (rs : List Record)
    → (misread e q (sub_of q.lba) || unfit (sub_of q.lba) (named q.count) (save q.lba) rs) ≡ aborts e q rs
in_turn e q rs =
    let sub = sub_of q.lba in
    let n = named q.count in
    sym
    (regrouped (misread e q sub) (misnamed (is_go_to sub) n) (not (some_at (selects sub n) 0 rs)) (some_at (selected_barred sub n (save q.lba)) 0 rs))
    ∙ together e q rs

-- Where nothing aborts, no reserved bit is one,
pub none_reserved : (e : Edition) (q : Registers) (rs : List Record) → aborts e q rs ≡ false → reserved_in_lba e (sub_of q.lba) q.lba ≡ false
none_reserved e q rs h =
    or_right (not (eqb q.command 0xEF) || not (eqb q.feature 0x4A) || is_unknown (sub_of q.lba)) _
    (or_left (misread e q (sub_of q.lba)) _ (in_turn e q rs ∙ h))

-- and no selected condition bars the subcommand.
pub none_barred : (e : Edition) (q : Registers) (rs : List Record) → aborts e q rs ≡ false
    → some_at (selected_barred (sub_of q.lba) (named q.count) (save q.lba)) 0 rs ≡ false
none_barred e q rs h =
    or_right
    (misread e q (sub_of q.lba) || misnamed (is_go_to (sub_of q.lba)) (named q.count) || not (some_at (selects (sub_of q.lba) (named q.count)) 0 rs))
    _
    (together e q rs ∙ h)
