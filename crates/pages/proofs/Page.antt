-- The page of a row of records is their loggedWords' bytes, 32 a record, and zeros up to 512.
use mathlib.Core.Path.{◌≡◌, refl, ◌∙◌}
use mathlib.Core.List.{List, [], ◌∷◌, ◌++◌, append_assoc}
use Prim.Native.Nat.{ℕ, ◌+◌, ◌-◌, ◌*◌, ◌<◌, ◌≤◌}
use native.Mathlib.Numerals.{add-one}
use native.Mathlib.Omega.{arith}
use lib.ListN.{length, get_or, take, replicate, length-append, length-take, length-replicate, replicate-append-replicate}
use lib.Seq.{paste, take-suc, length-take-le}
use Rattle.drive.specs.declared.Record.{Record}
use Rattle.pages.specs.Logs.{bytes_of, named_words, logged_words, log_words, log_bytes}
use Rattle.pages.proofs.Bytes.{bytes_append, bytes_length, bytes_zeros, drop-replicate, paste_after}

pub logged_length : (rs : List Record) → length (logged_words rs) ≡ 16 * length rs
unfolding logged_words
logged_length [] = refl
logged_length (r ∷ rs) = let rest = logged_length rs in omega arith

pub logged_append : (rs ss : List Record) → logged_words (rs ++ ss) ≡ logged_words rs ++ logged_words ss
unfolding logged_words
logged_append [] ss = refl
logged_append (r ∷ rs) ss = rw (logged_append rs ss)

pub page_parts : (rs : List Record) → log_bytes rs ≡ bytes_of (logged_words rs) ++ replicate (512 - 32 * length rs) 0
unfolding log_bytes log_words
page_parts rs =
    let left : 2 * (256 - 16 * length rs) ≡ 512 - 32 * length rs = omega arith in
    rw (bytes_append, bytes_zeros, logged_length, left)

pub page_length : (rs : List Record) → length rs ≤ 16 → length (log_bytes rs) ≡ 512
page_length rs h = rw (page_parts rs, length-append, bytes_length, logged_length, length-replicate) (omega arith)

-- The log page of five records is 512 bytes.
pub page_512 : (rs : List Record) → length rs ≡ 5 → length (log_bytes rs) ≡ 512
page_512 rs five = page_length rs (omega arith)

page_next : (rs : List Record) (r : Record) → length rs < 16
    → paste (log_bytes rs) (32 * length rs) (bytes_of (named_words r)) 16 ≡ log_bytes (rs ++ (r ∷ []))
unfolding logged_words
page_next rs r h =
    let front = bytes_of (logged_words rs) in
    let rest : 512 - 32 * length rs - 16 ≡ 16 + (512 - 32 * (length rs + 1)) = omega arith in
    rw (page_parts rs, page_parts (rs ++ (r ∷ [])), logged_append, bytes_append, length-append)
    (paste_after front _ (bytes_of (named_words r)) (32 * length rs) (rw (bytes_length, logged_length) (omega arith))
    ∙ rw (drop-replicate, rest, ← replicate-append-replicate, append_assoc front (bytes_of (named_words r)), append_assoc front (bytes_of (logged_words (r ∷ [])))))

pub first_length : (l : List Record) (i : ℕ) → length l ≤ 16 → length (log_bytes (take i l)) ≡ 512
first_length l i h = page_length (take i l) (rw length-take (omega arith))

-- A copy of a record's named words at its place makes of the page of the first i records that of one more.
pub page_more : (l : List Record) (i : ℕ) (z : Record) → i < length l → length l ≤ 16
    → paste (log_bytes (take i l)) (32 * i) (bytes_of (named_words (get_or l i z))) 16 ≡ log_bytes (take (i + 1) l)
page_more l i z h k =
    let first : length (take i l) ≡ i = length-take-le i l (omega arith) in
    rw (add-one, take-suc l i z) (rw first at (page_next (take i l) (get_or l i z) (omega arith)))
