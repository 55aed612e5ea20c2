-- What is read back from the page of five records: a word from its two bytes, a record from its named words, the row from each condition's record. A
-- timer that is longer than a word is shown as FFFFh; a draft unit has none.
use mathlib.Core.Path.{◌≡◌, refl, sym, ap, ◌∙◌}
use mathlib.Core.Bool.{Bool, true, false, cond}
use mathlib.Core.List.{List, [], ◌∷◌, map}
use Prim.Native.Nat.{ℕ, zero, suc, ◌+◌, ◌*◌, ◌/◌, ◌%◌, ◌<◌, ◌≤◌}
use native.Mathlib.Omega.{arith}
use borrow.Author.Tests.{leb-true, le-leb, ltb-true, ltb-false, lt-ltb, le-ltb, ne_eqb}
use lib.Dec.{leb, ltb, eqb}
use lib.ListN.{length, get_or, length-map, get_or-map}
use Rattle.rows.proofs.Places.{and_left, and_right}
use Rattle.rows.proofs.Values.{own_values}
use Rattle.bits.specs.Bits.{bit}
use Rattle.conditions.specs.Conditions.{falling, place_of}
use Rattle.conditions.specs.declared.Condition.{Condition}
use Rattle.conditions.proofs.Conditions.{place_below}
use Rattle.drive.specs.declared.Setting.{Setting}
use Rattle.drive.specs.declared.Record.{Record}
use Rattle.drive.specs.declared.Edition.TheVariants.{Draft}
use Rattle.drive.specs.Records.{largest_timer, unsupported, setting_well_formed, record_well_formed, records_well_formed}
use Rattle.drive.proofs.WellFormed.{record_fine, records_five, records_fine}
use Rattle.pages.specs.Logs.{bytes_of, flag_at, timer_word, named_words, log_place, logged_words, log_words, log_bytes}
use Rattle.pages.specs.Readings.{page_word, page_setting, page_record, page_records, setting_shown, record_shown}
use Rattle.pages.proofs.Words.{named_word}

-- ---- a word

-- The word made again of its two bytes.
abbrev pub joined : ℕ → ℕ
joined n = n % 256 + 256 * (n / 256 % 256)

pub word_back : (n : ℕ) → n ≤ 65535 → joined n ≡ n
word_back n h = omega arith

bytes_word : (ws : List ℕ) (w : ℕ) → page_word (bytes_of ws) w ≡ joined (get_or ws w 0)
bytes_word [] w = refl
bytes_word (v ∷ ws) zero = refl
bytes_word (v ∷ ws) (suc w) =
    let low : 2 * suc w ≡ suc (suc (2 * w)) = omega arith in
    let high : 2 * suc w + 1 ≡ suc (suc (2 * w + 1)) = omega arith in
    (λ i. get_or (bytes_of (v ∷ ws)) (low i) 0 + 256 * get_or (bytes_of (v ∷ ws)) (high i) 0) ∙ bytes_word ws w

-- The word at a place of our page is that of the log's words.
pub page_word_lem : (rs : List Record) (w : ℕ) → page_word (log_bytes rs) w ≡ joined (get_or (log_words rs) w 0)
unfolding log_bytes
page_word_lem rs w = bytes_word (log_words rs) w

-- ---- a record

-- "FFFFh for more than 65,535", and any other timer as it is.
pub long_shown : (n : ℕ) → 65535 < n → timer_word n ≡ 0xFFFF
long_shown n h = rw (lt-ltb 65535 n h)

pub short_shown : (n : ℕ) → n ≤ 65535 → timer_word n ≡ n
short_shown n h = rw (le-ltb 65535 n h)

timer_word_small : (n : ℕ) → timer_word n ≤ 65535
timer_word_small n = on (ltb 65535 n) refl
  where
    on : (b : Bool) → ltb 65535 n ≡ b → cond b 0xFFFF n ≤ 65535
    on true e = omega arith
    on false e = ltb-false 65535 n e

flag_back : (flag : Bool) → bit 15 (joined (flag_at 15 flag)) ≡ flag
flag_back true = refl
flag_back false = refl

-- The three flags that share a word: a table of their eight values.
abbrev flag_word : Bool → Bool → Bool → ℕ
flag_word a b c = joined (flag_at 15 a + flag_at 14 b + flag_at 13 c)

flags_back : (a b c : Bool) → (bit 15 (flag_word a b c) ≡ a) × (bit 14 (flag_word a b c) ≡ b) × (bit 13 (flag_word a b c) ≡ c)
flags_back true true true = (refl, refl, refl)
flags_back true true false = (refl, refl, refl)
flags_back true false true = (refl, refl, refl)
flags_back true false false = (refl, refl, refl)
flags_back false true true = (refl, refl, refl)
flags_back false true false = (refl, refl, refl)
flags_back false false true = (refl, refl, refl)
flags_back false false false = (refl, refl, refl)

setting_back : (page : List ℕ) (w v : ℕ) (s : Setting) → w + 1 ≡ v
    → page_word page w ≡ joined (flag_at 15 s.enabled) → page_word page v ≡ joined (timer_word s.timer.0) → page_setting page w ≡ setting_shown s
setting_back page w v s next flag timer =
    let enabled = ap (bit 15) flag ∙ flag_back s.enabled in
    let tenths = ap (page_word page) next ∙ timer ∙ word_back (timer_word s.timer.0) (timer_word_small s.timer.0) in
    λ i. record { enabled = enabled i; timer = record { 0 = tenths i } }

-- Whatever the largest timer.
module _ (top : ℕ) (rs : List Record) (h : records_well_formed top rs ≡ true) where
  five : length rs ≡ 5
  five = records_five top rs h

  -- Each condition's words show its record.
  pub record_shown_lem : (c : Condition) → page_record (log_bytes rs) c ≡ record_shown (get_or rs (place_of c) unsupported)
  record_shown_lem c =
      let r = get_or rs (place_of c) unsupported in
      let page = log_bytes rs in
      let at = log_place c in
      let fine = (record_fine top r).0 (((records_fine top unsupported rs).0 h).each (place_of c) (place_below c)) in
      let word : (k : ℕ) → k < 8 → page_word page (at + k) ≡ joined (get_or (named_words r) k 0) =
      λ k m. page_word_lem rs (at + k) ∙ ap joined (named_word rs c k unsupported 0 five m) in
      let flags = flags_back r.supported r.saveable r.changeable in
      let start : at ≡ at + 0 = omega arith in
      let recovery = ap (page_word page) start ∙ word 0 (omega arith) ∙ word_back r.recovery.0 fine.recovery in
      let setting : (k : ℕ) (s : Setting) → page_word page (at + k) ≡ joined (flag_at 15 s.enabled)
      → page_word page (at + suc k) ≡ joined (timer_word s.timer.0) → page_setting page (at + k) ≡ setting_shown s =
      λ k s. setting_back page (at + k) (at + suc k) s (omega arith) in
      λ i. record {
        supported = (ap (bit 15) (word 1 (omega arith)) ∙ flags.0) i;
        saveable = (ap (bit 14) (word 1 (omega arith)) ∙ flags.1) i;
        changeable = (ap (bit 13) (word 1 (omega arith)) ∙ flags.2) i;
        recovery = record { 0 = recovery i };
        default = setting 2 r.default (word 2 (omega arith)) (word 3 (omega arith)) i;
        saved = setting 4 r.saved (word 4 (omega arith)) (word 5 (omega arith)) i;
        current = setting 6 r.current (word 6 (omega arith)) (word 7 (omega arith)) i;
      }

-- ---- what is shown is what is read: the page of what it shows is the page

shown_zero : (n : ℕ) → eqb (timer_word n) 0 ≡ eqb n 0
shown_zero n = on (ltb 65535 n) refl
  where
    on : (b : Bool) → ltb 65535 n ≡ b → eqb (cond b 0xFFFF n) 0 ≡ eqb n 0
    on true e = let long = ltb-true 65535 n e in sym (ne_eqb n 0 (omega arith))
    on false e = refl

shown_again : (n : ℕ) → timer_word (timer_word n) ≡ timer_word n
shown_again n = short_shown (timer_word n) (timer_word_small n)

words_again : (rs : List Record) → logged_words (map record_shown rs) ≡ logged_words rs
unfolding logged_words
words_again [] = refl
words_again (r ∷ rs) =
    rw (shown_again r.default.timer.0, shown_again r.saved.timer.0, shown_again r.current.timer.0, words_again rs)

pub page_again : (rs : List Record) → log_bytes (map record_shown rs) ≡ log_bytes rs
unfolding log_bytes log_words
page_again rs = rw (words_again rs)

setting_again : (top : ℕ) (s : Setting) → setting_well_formed top s ≡ true → setting_well_formed (largest_timer Draft) (setting_shown s) ≡ true
setting_again top s h = rw (le-leb _ _ (timer_word_small s.timer.0), shown_zero s.timer.0) (and_right (leb s.timer.0 top) _ h)

record_again : (top : ℕ) (r : Record) → record_well_formed top r ≡ true → record_well_formed (largest_timer Draft) (record_shown r) ≡ true
record_again top r h =
    let fine = (record_fine top r).0 h in
    (record_fine (largest_timer Draft) (record_shown r)).1 (record {
      recovery = fine.recovery;
      default = setting_again top r.default fine.default;
      saved = setting_again top r.saved fine.saved;
      current = setting_again top r.current fine.current;
      others = rw (shown_zero r.default.timer.0, shown_zero r.saved.timer.0, shown_zero r.current.timer.0) fine.others;
    })

module _ (top : ℕ) (rs : List Record) (h : records_well_formed top rs ≡ true) where
  -- The records that are read are those that are shown, whatever the edition,
  pub page_shown : page_records (log_bytes rs) ≡ map record_shown rs
  page_shown =
      (λ i. map (λ c. record_shown_lem top rs h c i) falling)
      ∙ (λ i. map record_shown (own_values rs unsupported 5 (records_five top rs h) i))

  -- and a draft unit may have them.
  pub shown_fine : records_well_formed (largest_timer Draft) (map record_shown rs) ≡ true
  shown_fine =
      let fine = (records_fine top unsupported rs).0 h in
      (records_fine (largest_timer Draft) (record_shown unsupported) (map record_shown rs)).1 (record {
        five = rw length-map fine.five;
        each = λ i below. ap (record_well_formed (largest_timer Draft)) (get_or-map record_shown rs i unsupported)
            ∙ record_again top (get_or rs i unsupported) (fine.each i below);
      })

-- ---- the page of a draft unit

setting_whole : (s : Setting) → setting_well_formed (largest_timer Draft) s ≡ true → setting_shown s ≡ s
setting_whole s h = rw (short_shown s.timer.0 (leb-true _ _ (and_left _ _ h)))

module _ (rs : List Record) (h : records_well_formed (largest_timer Draft) rs ≡ true) where
  -- A draft unit's timers are words, so each condition's record is what its words say.
  pub record_read_lem : (c : Condition) → page_record (log_bytes rs) c ≡ get_or rs (place_of c) unsupported
  record_read_lem c =
      let r = get_or rs (place_of c) unsupported in
      let fine = (record_fine (largest_timer Draft) r).0 (((records_fine (largest_timer Draft) unsupported rs).0 h).each (place_of c) (place_below c)) in
      record_shown_lem (largest_timer Draft) rs h c
      ∙ λ i. record {
        supported = r.supported;
        saveable = r.saveable;
        changeable = r.changeable;
        recovery = r.recovery;
        default = setting_whole r.default fine.default i;
        saved = setting_whole r.saved fine.saved i;
        current = setting_whole r.current fine.current i;
      }

  -- Five well-formed records of a draft unit can be read off their page.
  pub page_read : page_records (log_bytes rs) ≡ rs
  page_read = (λ i. map (λ c. record_read_lem c i) falling) ∙ own_values rs unsupported 5 (five (largest_timer Draft) rs h)

-- Two well-formed rows of draft units' records with the same log page are equal.
pub page_tells : (rs ss : List Record) → records_well_formed (largest_timer Draft) rs ≡ true → records_well_formed (largest_timer Draft) ss ≡ true
    → log_bytes rs ≡ log_bytes ss → rs ≡ ss
page_tells rs ss h k e = sym (page_read rs h) ∙ ap page_records e ∙ page_read ss k
