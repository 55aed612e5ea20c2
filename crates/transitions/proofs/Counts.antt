-- What an entry does to the counts: nothing where the condition is already held, else one more in the cell of its row and column, and in no other.
use mathlib.Core.Path.{◌≡◌, refl, ap, sym, ◌∙◌}
use mathlib.Core.Bool.{Bool, true, false, not, ◌&&◌, cond}
use mathlib.Core.List.{List, [], ◌∷◌}
use Prim.Native.Nat.{ℕ, ◌+◌, ◌*◌, ◌<◌, ◌≤◌}
use native.Mathlib.Omega.{arith}
use lib.Dec.{eqb, ltb}
use lib.ListN.{length, get_or, set}
use lib.Seq.{get_or-set_same, get_or-set_other}
use borrow.Author.Tests.{eq-eqb, eqb-true, eqb-false, ltb-true, ltb-false, le-ltb}
use Rattle.rows.proofs.Values.{value_in, own_values}
use Rattle.conditions.specs.Conditions.{depth}
use Rattle.conditions.specs.declared.Cause.TheVariants.{Timer, Command}
use Rattle.conditions.specs.declared.Power.{Power}
use Rattle.conditions.specs.declared.Power.TheVariants.{Active, Low}
use Rattle.transitions.specs.Counts.{full, held_full, one_entry, column_of, cell, counted_in, pair_at, table_of, flat_of, table_after, counts_after}
use Rattle.conditions.proofs.Conditions.{depth_below}

-- ---- the condition already held

-- "going to the condition already held counts nothing", whatever the cause,
pub same_kept : (p q : Power) (counts : List ℕ) → depth p ≡ depth q → counts_after p q counts ≡ counts
unfolding counts_after
same_kept p q counts e = rw (eq-eqb (depth p) (depth q) e)

-- in the table as in the row,
pub table_kept : (p q : Power) (t : List (List ℕ)) → depth p ≡ depth q → t ≡ table_after p q t
table_kept p q t e = rw (eq-eqb (depth p) (depth q) e)

-- so entering the very power that the drive has.
pub held_kept_lem : (p : Power) (counts : List ℕ) → counts_after p p counts ≡ counts
held_kept_lem p counts = same_kept p p counts refl

-- ---- "kept flat inside the record", a table between functions

-- Twelve counts read as a table and laid flat are the same counts,
flat_back : (counts : List ℕ) → length counts ≡ 12 → flat_of (table_of counts) ≡ counts
unfolding table_of flat_of
flat_back counts twelve = own_values counts 0 12 twelve

-- so counting in the table is counting in the row.
pub flat_after : (p q : Power) (counts : List ℕ) → length counts ≡ 12 → flat_of (table_after p q (table_of counts)) ≡ counts_after p q counts
unfolding counts_after
flat_after p q counts twelve = on (eqb (depth p) (depth q))
  where
    on : (b : Bool) → let after = cond b (table_of counts) (counted_in (depth q) (column_of q) (table_of counts)) in
        flat_of after ≡ cond b counts (flat_of after)
    on true = flat_back counts twelve
    on false = refl

-- ---- the cells

column_below : (p : Power) → column_of p < 2
column_below Active = omega arith
column_below (Low c Timer) = omega arith
column_below (Low c Command) = omega arith

-- A table read off a flat row has six rows of two.
row_pair : (counts : List ℕ) (row : ℕ) → row < 6 → get_or (table_of counts) row [] ≡ pair_at (2 * row) counts
unfolding table_of
row_pair counts row h = value_in (λ i. pair_at (2 * i) counts) 6 row [] [] h

table_six : (counts : List ℕ) → length (table_of counts) ≡ 6
unfolding table_of
table_six counts = refl

-- The cells of a table that was laid flat and read again.
cell_back : (t : List (List ℕ)) (row column : ℕ) → row < 6 → column < 2 → cell row column (table_of (flat_of t)) ≡ cell row column t
unfolding table_of flat_of
cell_back t row column h k =
    ap (λ (l : List ℕ). get_or l column 0) (value_in (λ i. cell i 0 t ∷ cell i 1 t ∷ []) 6 row [] [] h)
    ∙ value_in (λ j. cell row j t) 2 column [] 0 k

-- A cell after a cell is written.
cell_set : (t : List (List ℕ)) (r k n row column : ℕ) → r < length t → k < length (get_or t r [])
    → cell row column (set t r (set (get_or t r []) k n)) ≡ cond (eqb r row && eqb k column) n (cell row column t)
cell_set t r k n row column inside within = on (eqb r row) refl
  where
    there : (b : Bool) → eqb k column ≡ b → get_or (set (get_or t r []) k n) column 0 ≡ cond b n (cell r column t)
    there true e = rw (← eqb-true k column e) (get_or-set_same (get_or t r []) k n 0 within)
    there false e = get_or-set_other (get_or t r []) k column n 0 (λ same. eqb-false k column e (sym same))

    on : (b : Bool) → eqb r row ≡ b → cell row column (set t r (set (get_or t r []) k n)) ≡ cond (b && eqb k column) n (cell row column t)
    on true e =
        rw (← eqb-true r row e)
        (ap (λ (l : List ℕ). get_or l column 0) (get_or-set_same t r (set (get_or t r []) k n) [] inside) ∙ there (eqb k column) refl)
    on false e = ap (λ (l : List ℕ). get_or l column 0) (get_or-set_other t r row (set (get_or t r []) k n) [] (λ same. eqb-false r row e (sym same)))

-- One entry more in a cell of a table of six rows of two.
cell_counted : (counts : List ℕ) (r k row column : ℕ) → r < 6 → k < 2
    → let t = table_of counts in
    cell row column (counted_in r k t) ≡ cond (eqb r row && eqb k column) (one_entry (cell row column t)) (cell row column t)
unfolding counted_in
cell_counted counts r k row column h j =
    cell_set (table_of counts) r k (one_entry (cell r k (table_of counts))) row column (omega (arith, table_six counts)) (omega (arith, two))
    ∙ here (eqb r row) (eqb k column) refl refl
  where
    two : length (get_or (table_of counts) r []) ≡ 2
    two = ap length (row_pair counts r h)

    -- the cell that was counted is the one that is looked at, or another is
    here : (b c : Bool) → eqb r row ≡ b → eqb k column ≡ c → let t = table_of counts in
        cond (b && c) (one_entry (cell r k t)) (cell row column t) ≡ cond (b && c) (one_entry (cell row column t)) (cell row column t)
    here true true e f = rw (eqb-true r row e, eqb-true k column f)
    here true false e f = refl
    here false c e f = refl

-- "entries into Active and each of the five conditions": the counts after an entry, cell by cell.
pub cell_after : (p q : Power) (counts : List ℕ) (row column : ℕ) → row < 6 → column < 2
    → let n = cell row column (table_of counts) in
    cell row column (table_of (counts_after p q counts))
    ≡ cond (not (eqb (depth p) (depth q)) && (eqb (depth q) row && eqb (column_of q) column)) (one_entry n) n
unfolding counts_after
cell_after p q counts row column h k = on (eqb (depth p) (depth q))
  where
    on : (b : Bool) → let n = cell row column (table_of counts) in
        let after = cond b (table_of counts) (counted_in (depth q) (column_of q) (table_of counts)) in
        cell row column (table_of (cond b counts (flat_of after)))
        ≡ cond (not b && (eqb (depth q) row && eqb (column_of q) column)) (one_entry n) n
    on true = refl
    on false =
        cell_back (counted_in (depth q) (column_of q) (table_of counts)) row column h k
        ∙ cell_counted counts (depth q) (column_of q) row column (depth_below q) (column_below q)

-- ---- "staying at the top once there"

pub below_full : (n : ℕ) → n ≤ full → held_full n ≡ n
below_full n h = on (ltb n full) refl
  where
    on : (b : Bool) → ltb n full ≡ b → cond b n full ≡ n
    on true e = refl
    on false e = omega (arith, ltb-false n full e)

pub one_entry_below : (n : ℕ) → n ≤ full → one_entry n ≤ full
one_entry_below n h = on (ltb n full) refl
  where
    on : (b : Bool) → ltb n full ≡ b → cond b (n + 1) n ≤ full
    on true e = omega (arith, ltb-true n full e)
    on false e = h

-- An entry now and k later are k + 1 entries.
pub entries_add : (n k : ℕ) → n ≤ full → held_full (one_entry n + k) ≡ held_full (n + (1 + k))
entries_add n k h = on (ltb n full) refl
  where
    on : (b : Bool) → ltb n full ≡ b → held_full (cond b (n + 1) n + k) ≡ held_full (n + (1 + k))
    on true e = let same : n + 1 + k ≡ n + (1 + k) = omega arith in ap held_full same
    on false e =
        let top : full ≤ n = ltb-false n full e in
        let more : full ≤ n + k = omega arith in
        let most : full ≤ n + (1 + k) = omega arith in
        rw (le-ltb (n + k) full more, le-ltb (n + (1 + k)) full most)
