-- The replay lines of request (v), `faults LEN [W=V ...]` and `record X LEN [W=V ...]`: their pairs, and the page that these make. Assumes nothing.
use Rattle.std.specs.Prelude.{Bool, cond, ◌&&◌, Option, Some, is_some, List, [], ◌∷◌, ℕ, suc, ◌+◌, ◌*◌, ◌/◌, ◌%◌, eqb, drop, replicate, set, take}
use Rattle.std.specs.List.{list_all}
use Rattle.std.specs.Option.{unwrap_or}
use Prim.Native.Char.{code}
use Rattle.asked.specs.declared.CallLine.TheVariants.{PageFaults, PageRecord}
use Rattle.asked.specs.declared.Line.{Line}
use Rattle.asked.specs.declared.Line.TheVariants.{Asks}
use Rattle.asked.specs.Kinds.{condition_in}
use Rattle.asked.specs.Lengths.{buffer_length}
use Rattle.asked.specs.Offers.{offered, ◌then◌}
use Rattle.words.specs.Fields.{length_in}
use Rattle.words.specs.Lines.{line_in}
use Rattle.words.specs.Numbers.{word_number}
use Rattle.words.specs.Words.{words}
use Rattle.pairs.specs.declared.Pair.{Pair}

-- ---- W=V

-- How many bytes of a word stand before its first `=`: all of them where it has none.
unfoldable pub before_equals : List ℕ → ℕ
before_equals [] = 0
before_equals (b ∷ bs) = cond (eqb b (code "=")) 0 (suc (before_equals bs))

-- "words W (0 to FF) of value V (0 to FFFF)". Nothing is no number, and none has a `=` in it: so a good pair has exactly one.
abbrev pub pair_in : List ℕ → Pair
pair_in w = record {
  place = word_number 0xFF (take (before_equals w) w);
  value = word_number 0xFFFF (drop (suc (before_equals w)) w);
}

-- "must be well written".
abbrev pub is_pair : List ℕ → Bool
is_pair w = is_some (pair_in w).place && is_some (pair_in w).value

unfoldable pub are_pairs : List (List ℕ) → Bool
are_pairs ws = list_all is_pair ws

-- ---- the page

-- "all zero".
unfoldable pub zeros : ℕ → List ℕ
zeros len = replicate len 0

-- "low byte first". What is no number counts as 0: no line is read that has such a pair.
abbrev pub with_pair : List ℕ → Pair → List ℕ
with_pair page p =
    let place = unwrap_or p.place 0 in
    let value = unwrap_or p.value 0 in
    set (set page (2 * place) (value % 256)) (2 * place + 1) (value / 256)

-- "a later pair for the same word holds".
unfoldable pub with_pairs : List ℕ → List (List ℕ) → List ℕ
with_pairs page [] = page
with_pairs page (w ∷ ws) = with_pairs (with_pair page (pair_in w)) ws

-- "a page of LEN bytes, all zero but for words W"; "the pairs set nothing unless LEN is 200".
unfoldable pub page_in : ℕ → List (List ℕ) → List ℕ
page_in len ws = cond (eqb len 0x200) (with_pairs (zeros len) ws) (zeros len)

-- The page of a line whose pairs are the words from k on.
abbrev pub page_of : ℕ → ℕ → List ℕ → List ℕ
page_of k len text = page_in (buffer_length len) (drop k (words (line_in text)))

-- ---- the lines

unfoldable pub faults_line : List ℕ → Option Line
faults_line line = length_in 1 line then λ len. offered (are_pairs (drop 2 (words line))) (Some (Asks (PageFaults len)))

-- "condition X's record": X as in the block line `c`.
unfoldable pub record_line : List ℕ → Option Line
record_line line =
    condition_in 1 line then λ c. length_in 2 line then λ len. offered (are_pairs (drop 3 (words line))) (Some (Asks (PageRecord c len)))
