-- "Reserved bits must be zero (H).": the bits that document 01 names, byte by byte, and that every other bit of bytes 1 to 4 is number 8's. The
-- ranges of the definition are counted out bit by bit (bits/Ranges) and are, byte by byte, the bits that are not named.
use mathlib.Core.Path.{◌≡◌, refl, ◌∙◌}
use mathlib.Core.Bool.{Bool, true, false, not, ◌||◌, or-true, or-false, or_assoc}
use mathlib.Core.List.{List, [], ◌∷◌, ◌++◌}
use Prim.Native.Nat.{ℕ, ◌≤◌, ◌<◌, suc-le-suc}
use native.Mathlib.Nat.{le_of_suc-le-suc}
use native.Mathlib.Omega.{arith}
use lib.Dec.{eqb}
use lib.ListN.{get_or}
use borrow.Author.Tests.{eqb-true}
use Rattle.rows.specs.Rows.{some_at}
use Rattle.drive.specs.declared.Record.{Record}
use Rattle.bits.specs.Bits.{bits, bit, some_one}
use Rattle.bits.specs.Reserved.{span, is_named, some_unnamed}
use Rattle.bits.proofs.Ranges.{range, some_in, none_in, unnamed_one, unnamed_zero}
use Rattle.cdb.specs.Cdb.{byte, reserved_in_cdb, is_listed}

-- ---- the bits that document 01 names

abbrev pub named_bytes : List (List ℕ)
named_bytes =
    -- "byte 0 is 1Bh;"
    span 7 0
    -- "byte 1 bit 0 IMMED;"
    ∷ (0 ∷ [])
    -- Of byte 2 it names none.
    ∷ []
    -- "byte 3 bits 3:0 modifier;"
    ∷ span 3 0
    -- "byte 4 bits 7:4 power condition, bit 2 NO_FLUSH, bit 1 LOEJ, bit 0 START;"
    ∷ (span 7 4 ++ (2 ∷ 1 ∷ 0 ∷ []))
    ∷ []

abbrev pub named_in : ℕ → List ℕ
named_in i = get_or named_bytes i []

-- ---- the law

-- the whole of byte 2 is a range
whole : (b : ℕ) → b < 256 → not (eqb b 0) ≡ some_one 7 0 b
whole b h =
    let e : bits 7 0 b ≡ b = omega arith in
    rw e

joined : {a b c d e f g h : Bool} → a ≡ e → b ≡ f → c ≡ g → d ≡ h → (a || b || c || d) ≡ (e || (f || (g || (h || false))))
joined {e} {f} {g} {h} p q r s = rw (p, q, r, s, or-false h, or_assoc (e || f) g h, or_assoc e f (g || h))

-- A reserved bit is one exactly if, of bits 7:0 of bytes 1 to 4, one is that is not named.
pub reserved_exactly : (cdb : List ℕ) → byte 2 cdb < 256 → reserved_in_cdb cdb ≡ some_at (λ at i. some_unnamed 7 (named_in i) (byte i cdb)) 0 (span 4 1)
reserved_exactly cdb h =
    joined (range 7 1 (byte 1 cdb)) (whole (byte 2 cdb) h ∙ range 7 0 (byte 2 cdb)) (range 7 4 (byte 3 cdb)) (range 3 3 (byte 4 cdb))

-- A bit that is not named is refused if it is one, whatever the CDB asks for.
pub reserved_unlisted : (rs : List Record) (cdb : List ℕ) (i k : ℕ) → 1 ≤ i → i ≤ 4 → k < 8 → is_named k (named_in i) ≡ false
    → bit k (byte i cdb) ≡ true → is_listed rs cdb ≡ false
unfolding is_listed
reserved_unlisted rs cdb i k from to below unnamed one = rw (found (eqb (byte 2 cdb) 0) refl)
  where
    found : (none : Bool) → eqb (byte 2 cdb) 0 ≡ none → reserved_in_cdb cdb ≡ true
    found true e =
        reserved_exactly cdb (let z = eqb-true (byte 2 cdb) 0 e in omega arith)
        ∙ some_in (λ i. some_unnamed 7 (named_in i) (byte i cdb)) 4 1 i from to
        (unnamed_one 7 (named_in i) (byte i cdb) k (le_of_suc-le-suc below) unnamed one)
    found false e = rw (e, or-true (some_one 7 1 (byte 1 cdb)))

-- And no other: with every bit zero that is not named, no reserved bit is one.
pub unreserved : (cdb : List ℕ) → byte 2 cdb < 256
    → ((i k : ℕ) → 1 ≤ i → i ≤ 4 → k < 8 → is_named k (named_in i) ≡ false → bit k (byte i cdb) ≡ false) → reserved_in_cdb cdb ≡ false
unreserved cdb h zeros =
    reserved_exactly cdb h ∙ none_in (λ i. some_unnamed 7 (named_in i) (byte i cdb)) 4 1
    (λ i from to. unnamed_zero 7 (named_in i) (byte i cdb) (λ k below. zeros i k from to (suc-le-suc below)))
