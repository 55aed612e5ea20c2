-- A page without a fault: its words are those that our writer makes of the records read, so its bytes are. And a page with the three properties of
-- `Clean` has no fault at any word.
use Rattle.std.proofs.Common.{◌≡◌, ℕ, zero, suc, ◌+◌, ◌*◌, ◌/◌, ◌%◌, ◌<◌, ◌≤◌, Bool, true, false, not, ◌&&◌, ◌||◌, eqb, ltb, leb, ◌↔◌, List, [], ◌∷◌, length, get_or, sym, refl, ap, ◌∙◌, subst, arith, ext_get_or, ltb-false, ltb-true, eq-eqb, eqb-true, le-leb, leb-true}
use borrow.Author.Tests.{not-true, not-false}
use lib.ListN.{get_or-map}
use Rattle.rows.proofs.Places.{and_right, and_both, every_from, every_at_lem}
use Rattle.rows.proofs.Some.{or_left}
use Rattle.bits.specs.Bits.{bit, some_one}
use Rattle.conditions.specs.Conditions.{falling, place_of, condition_at}
use Rattle.conditions.specs.declared.Condition.{Condition}
use Rattle.conditions.specs.declared.Condition.TheVariants.{IdleA}
use Rattle.conditions.proofs.Conditions.{place_below, at_place}
use Rattle.drive.specs.declared.Setting.{Setting}
use Rattle.drive.specs.declared.Record.{Record}
use Rattle.drive.specs.declared.Edition.TheVariants.{Draft}
use Rattle.drive.specs.Records.{largest_timer, others_zero, setting_well_formed, record_well_formed, records_well_formed}
use Rattle.drive.proofs.WellFormed.{record_fine}
use Rattle.pages.specs.Logs.{bytes_of, flag_at, timer_word, named_words, log_place, log_words, log_bytes}
use Rattle.pages.specs.Readings.{page_word, page_setting, page_record, page_records}
use Rattle.pages.proofs.ReadBack.{joined, page_word_lem, short_shown}
use Rattle.pages.proofs.Page.{page_512}
use Rattle.pages.proofs.Words.{named_word, unnamed_word, word_past}
use Rattle.faults.specs.declared.FaultKind.{FaultKind}
use Rattle.faults.specs.declared.FaultKind.TheVariants.{ReservedWord, ReservedBits, SetUnsupported, NoTimer, SavedOff}
use Rattle.faults.specs.Listing.{faults_of}
use Rattle.faults.specs.Tests.{owner_of, enabled_without_timer, is_fault}
use Rattle.faults.proofs.InWords.{KeepsDefault, keeps_default}
use Rattle.faults.proofs.Where.{inside, reserved_word, reserved_bits, set_unsupported, no_timer, saved_off, past_fault, past_fault_lem, spot_of}
use Rattle.faults.proofs.Order.{none_each, none_all}

-- "the page is exactly what our writer makes of the records read and none is saved off default while not saveable"; and the records read are well
-- formed, which our writer asks of them. What is read are words, so it is the draft edition's largest timer.
pub record Clean (page : List ℕ) : Type 0 where
  pub well_formed_lem : records_well_formed (largest_timer Draft) (page_records page) ≡ true
  pub ours : page ≡ log_bytes (page_records page)
  pub none_off : (c : Condition) → KeepsDefault (page_record page c)

-- Every element is a byte, as those of a `&[u8]` are.
abbrev pub AreBytes : List ℕ → Type 0
AreBytes page = (i : ℕ) → get_or page i 0 < 256

-- There is no fault of any kind at any word.
abbrev pub NoFault : List ℕ → Type 0
NoFault page = (w : ℕ) → w < 256 → (kind : FaultKind) → is_fault page kind w ≡ false

-- ---- the records read

read_own : (page : List ℕ) (c : Condition) → get_or (page_records page) (place_of c) (page_record page IdleA) ≡ page_record page c
read_own page c = get_or-map (page_record page) falling (place_of c) IdleA ∙ ap (page_record page) (at_place c)

-- ---- from the words to the bytes

byte_low : (ws : List ℕ) (w : ℕ) → get_or (bytes_of ws) (2 * w) 0 ≡ get_or ws w 0 % 256
byte_low [] w = refl
byte_low (v ∷ ws) zero = refl
byte_low (v ∷ ws) (suc w) = let next : 2 * suc w ≡ suc (suc (2 * w)) = omega arith in rw next (byte_low ws w)

byte_high : (ws : List ℕ) (w : ℕ) → get_or (bytes_of ws) (2 * w + 1) 0 ≡ get_or ws w 0 / 256 % 256
byte_high [] w = refl
byte_high (v ∷ ws) zero = refl
byte_high (v ∷ ws) (suc w) = let next : 2 * suc w + 1 ≡ suc (suc (2 * w + 1)) = omega arith in rw next (byte_high ws w)

-- Bytes whose words are those of ws are the bytes of ws.
same_bytes : (page ws : List ℕ) → AreBytes page → (w : ℕ) → get_or ws w 0 ≡ page_word page w
    → (get_or page (2 * w) 0 ≡ get_or (bytes_of ws) (2 * w) 0) × (get_or page (2 * w + 1) 0 ≡ get_or (bytes_of ws) (2 * w + 1) 0)
same_bytes page ws bytes w e =
    let low = bytes (2 * w) in
    let high = bytes (2 * w + 1) in
    let first = byte_low ws w in
    let second = byte_high ws w in
    (omega arith, omega arith)

page_of_words : (page ws : List ℕ) → length page ≡ 512 → length (bytes_of ws) ≡ 512 → AreBytes page
    → ((w : ℕ) → w < 256 → get_or ws w 0 ≡ page_word page w) → page ≡ bytes_of ws
page_of_words page ws size long bytes words = ext_get_or 0 page (bytes_of ws) (size ∙ sym long) at
  where
    at : (i : ℕ) → i < length page → get_or page i 0 ≡ get_or (bytes_of ws) i 0
    at i h =
        let both = same_bytes page ws bytes (i / 2) (words (i / 2) (omega arith)) in
        by_half (i % 2) refl both.0 both.1
      where
        by_half : (odd : ℕ) → i % 2 ≡ odd → get_or page (2 * (i / 2)) 0 ≡ get_or (bytes_of ws) (2 * (i / 2)) 0
            → get_or page (2 * (i / 2) + 1) 0 ≡ get_or (bytes_of ws) (2 * (i / 2) + 1) 0 → get_or page i 0 ≡ get_or (bytes_of ws) i 0
        by_half zero e low high = let here : 2 * (i / 2) ≡ i = omega arith in rw here at low
        by_half (suc zero) e low high = let here : 2 * (i / 2) + 1 ≡ i = omega arith in rw here at high
        by_half (suc (suc n)) e low high = absurd (omega arith)

-- ---- from the records to the words

-- A setting's flag word without reserved bits is its flag.
setting_flag : (n : ℕ) → n < 65536 → some_one 14 0 n ≡ false → flag_at 15 (bit 15 n) ≡ n
setting_flag n h none =
    let low : n / 1 % 32768 ≡ 0 = eqb-true _ 0 (not-false _ none) in
    let whole : 32768 * (n / 32768) ≡ n = omega arith in
    rw whole at (on (n / 32768) (omega arith))
  where
    on : (q : ℕ) → q < 2 → flag_at 15 (bit 15 (32768 * q)) ≡ 32768 * q
    on zero m = refl
    on (suc zero) m = refl
    on (suc (suc q)) m = absurd (omega arith)

-- A condition's flag word without reserved bits is its three flags: a table of their eight values.
head_flags : (n : ℕ) → n < 65536 → some_one 12 0 n ≡ false → flag_at 15 (bit 15 n) + flag_at 14 (bit 14 n) + flag_at 13 (bit 13 n) ≡ n
head_flags n h none =
    let low : n / 1 % 8192 ≡ 0 = eqb-true _ 0 (not-false _ none) in
    let whole : 8192 * (n / 8192) ≡ n = omega arith in
    rw whole at (on (n / 8192) (omega arith))
  where
    on : (q : ℕ) → q < 8 → flag_at 15 (bit 15 (8192 * q)) + flag_at 14 (bit 14 (8192 * q)) + flag_at 13 (bit 13 (8192 * q)) ≡ 8192 * q
    on zero m = refl
    on (suc zero) m = refl
    on (suc (suc zero)) m = refl
    on (suc (suc (suc zero))) m = refl
    on (suc (suc (suc (suc zero)))) m = refl
    on (suc (suc (suc (suc (suc zero))))) m = refl
    on (suc (suc (suc (suc (suc (suc zero)))))) m = refl
    on (suc (suc (suc (suc (suc (suc (suc zero))))))) m = refl
    on (suc (suc (suc (suc (suc (suc (suc (suc q)))))))) m = absurd (omega arith)

or_none : (a : Bool) → (a || false) ≡ false → a ≡ false
or_none a h = or_left a false h

module _ (page : List ℕ) (bytes : AreBytes page) (none : NoFault page) where
  word_small : (w : ℕ) → page_word page w < 65536
  word_small w =
      let low = bytes (2 * w) in
      let high = bytes (2 * w + 1) in
      omega arith

  module _ (c : Condition) where
    -- No fault at +k.
    here : (k : ℕ) → k < 16 → (kind : FaultKind) → is_fault page kind (log_place c + k) ≡ false
    here k m kind = let below = inside c k m in none (log_place c + k) (omega arith) kind

    abbrev word : ℕ → ℕ
    word k = page_word page (log_place c + k)

    -- A timer that was read is no longer than a word.
    timer : (w : ℕ) → timer_word (page_word page w) ≡ page_word page w
    timer w = let small = word_small w in short_shown (page_word page w) (omega arith)

    -- The named words say no more than the record.
    named : (k : ℕ) → k < 8 → get_or (named_words (page_record page c)) k 0 ≡ word k
    named zero m = let start : log_place c ≡ log_place c + 0 = omega arith in ap (page_word page) start
    named (suc zero) m =
        head_flags (word 1) (word_small _) (or_none _ (sym (reserved_bits c 1 (omega arith) page) ∙ here 1 (omega arith) ReservedBits))
    named (suc (suc zero)) m = setting_flag (word 2) (word_small _) (sym (reserved_bits c 2 (omega arith) page) ∙ here 2 (omega arith) ReservedBits)
    named (suc (suc (suc zero))) m = let next : log_place c + 2 + 1 ≡ log_place c + 3 = omega arith in timer (log_place c + 2 + 1) ∙ ap (page_word page) next
    named (suc (suc (suc (suc zero)))) m = setting_flag (word 4) (word_small _) (sym (reserved_bits c 4 (omega arith) page) ∙ here 4 (omega arith) ReservedBits)
    named (suc (suc (suc (suc (suc zero))))) m =
        let next : log_place c + 4 + 1 ≡ log_place c + 5 = omega arith in timer (log_place c + 4 + 1) ∙ ap (page_word page) next
    named (suc (suc (suc (suc (suc (suc zero)))))) m =
        setting_flag (word 6) (word_small _) (sym (reserved_bits c 6 (omega arith) page) ∙ here 6 (omega arith) ReservedBits)
    named (suc (suc (suc (suc (suc (suc (suc zero))))))) m =
        let next : log_place c + 6 + 1 ≡ log_place c + 7 = omega arith in timer (log_place c + 6 + 1) ∙ ap (page_word page) next
    named (suc (suc (suc (suc (suc (suc (suc (suc k)))))))) m = absurd (omega arith)

    -- The others are zero.
    unnamed : (k : ℕ) → 8 ≤ k → k < 16 → word k ≡ 0
    unnamed k h m =
        let test = rw (le-leb 8 k h) at (sym (reserved_word c k m page) ∙ here k m ReservedWord) in
        eqb-true (word k) 0 (not-false _ test)

    -- And what the record says is well formed.
    setting_fine : (k : ℕ) → (k < 16) × ((eqb k 2 || eqb k 4 || eqb k 6) ≡ true)
        → setting_well_formed (largest_timer Draft) (page_setting page (log_place c + k)) ≡ true
    setting_fine k (m, is) =
        let s = page_setting page (log_place c + k) in
        let small = word_small (log_place c + k + 1) in
        let test : (s.enabled && eqb s.timer.0 0) ≡ false = rw is at (sym (no_timer c k m page) ∙ here k m NoTimer) in
        and_both _ _ (le-leb s.timer.0 (largest_timer Draft) (omega arith)) (timed s.enabled (eqb s.timer.0 0) test)
      where
        timed : (a b : Bool) → (a && b) ≡ false → (not a || not b) ≡ true
        timed true b e = ap not e
        timed false b e = refl

    record_fine_read : record_well_formed (largest_timer Draft) (page_record page c) ≡ true
    record_fine_read =
        let r = page_record page c in
        let small = word_small (log_place c) in
        let test = sym (set_unsupported c 1 (omega arith) page) ∙ here 1 (omega arith) SetUnsupported in
        (record_fine (largest_timer Draft) r).1 (record {
          recovery = omega arith;
          default = setting_fine 2 (omega arith, refl);
          saved = setting_fine 4 (omega arith, refl);
          current = setting_fine 6 (omega arith, refl);
          others = supported r.supported (others_zero r) test;
        })
      where
        supported : (a b : Bool) → (not a && not b) ≡ false → (a || b) ≡ true
        supported true b e = refl
        supported false b e = not-false b e

  -- The log's words for the records read are the page's: at +k of a condition,
  log_spot : (c : Condition) (k : ℕ) → k < 16 → get_or (log_words (page_records page)) (log_place c + k) 0 ≡ page_word page (log_place c + k)
  log_spot c k m = on (ltb k 8) refl
    where
      on : (b : Bool) → ltb k 8 ≡ b → get_or (log_words (page_records page)) (log_place c + k) 0 ≡ page_word page (log_place c + k)
      on true e =
          named_word (page_records page) c k (page_record page IdleA) 0 refl (ltb-true k 8 e)
          ∙ ap (λ (r : Record). get_or (named_words r) k 0) (read_own page c) ∙ named c k (ltb-true k 8 e)
      on false e = unnamed_word (page_records page) c k 0 refl (ltb-false k 8 e) m ∙ sym (unnamed c k (ltb-false k 8 e) m)

  -- and everywhere.
  log_word : (w : ℕ) → w < 256 → get_or (log_words (page_records page)) w 0 ≡ page_word page w
  log_word w h = on (ltb w 0x50) refl
    where
      on : (b : Bool) → ltb w 0x50 ≡ b → get_or (log_words (page_records page)) w 0 ≡ page_word page w
      on true e =
          let spot = spot_of w (ltb-true w 0x50 e) in
          ap (λ (v : ℕ). get_or (log_words (page_records page)) v 0) spot ∙ log_spot (owner_of w) (w % 16) (omega arith) ∙ ap (page_word page) (sym spot)
      on false e =
          let past = ltb-false w 0x50 e in
          let zero = sym (past_fault_lem w past page ReservedWord) ∙ none w h ReservedWord in
          word_past (page_records page) w 0 refl past h ∙ sym (eqb-true (page_word page w) 0 (not-false _ zero))

  no_fault_clean : length page ≡ 512 → Clean page
  unfolding records_well_formed log_bytes
  no_fault_clean size = record {
    well_formed_lem = every_from (λ at r. record_well_formed (largest_timer Draft) r) (page_records page) (page_record page IdleA) each;
    ours = page_of_words page (log_words (page_records page)) size (page_512 (page_records page) refl) bytes log_word;
    none_off = λ c. (keeps_default (page_record page c)).0 (sym (saved_off c 4 (omega arith) page) ∙ here c 4 (omega arith) SavedOff);
  }
    where
      each : (i : ℕ) → i < 5 → record_well_formed (largest_timer Draft) (get_or (page_records page) i (page_record page IdleA)) ≡ true
      each i h =
          ap (record_well_formed (largest_timer Draft)) (get_or-map (page_record page) falling i IdleA) ∙ record_fine_read (condition_at i)

-- ---- and back

-- Where the first test holds, the second does not.
guarded : (a b : Bool) → (a ≡ true → b ≡ false) → (a && b) ≡ false
guarded true b h = h refl
guarded false b h = refl

-- What holds at +2, +4 and +6 holds at a setting's flag word.
at_settings : (P : ℕ → Type 0) → P 2 → P 4 → P 6 → (k : ℕ) → (eqb k 2 || eqb k 4 || eqb k 6) ≡ true → P k
at_settings P two four six k e = on (eqb k 2) (eqb k 4) refl refl e
  where
    on : (a b : Bool) → eqb k 2 ≡ a → eqb k 4 ≡ b → (a || b || eqb k 6) ≡ true → P k
    on true b p q t = subst P (sym (eqb-true k 2 p)) two
    on false true p q t = subst P (sym (eqb-true k 4 q)) four
    on false false p q t = subst P (sym (eqb-true k 6 t)) six

neither : (a b : Bool) → a ≡ false → b ≡ false → (a || b) ≡ false
neither a b p q = rw (p, q)

head_clear : (a b c : Bool) → some_one 12 0 (joined (flag_at 15 a + flag_at 14 b + flag_at 13 c)) ≡ false
head_clear true true true = refl
head_clear true true false = refl
head_clear true false true = refl
head_clear true false false = refl
head_clear false true true = refl
head_clear false true false = refl
head_clear false false true = refl
head_clear false false false = refl

setting_clear : (a : Bool) → some_one 14 0 (joined (flag_at 15 a)) ≡ false
setting_clear true = refl
setting_clear false = refl

module _ (page : List ℕ) (clean : Clean page) where
  -- The words are those of the records.
  ours_word : (w : ℕ) → page_word page w ≡ joined (get_or (log_words (page_records page)) w 0)
  ours_word w = ap (λ (p : List ℕ). page_word p w) clean.ours ∙ page_word_lem (page_records page) w

  module _ (c : Condition) where
    named_ours : (k : ℕ) → k < 8 → page_word page (log_place c + k) ≡ joined (get_or (named_words (page_record page c)) k 0)
    named_ours k m =
        ours_word (log_place c + k)
        ∙ ap joined (named_word (page_records page) c k (page_record page IdleA) 0 refl m ∙ ap (λ (r : Record). get_or (named_words r) k 0) (read_own page c))

    fine : record_well_formed (largest_timer Draft) (page_record page c) ≡ true
    unfolding records_well_formed
    fine =
        let below = place_below c in
        ap (record_well_formed (largest_timer Draft)) (sym (read_own page c))
        ∙ every_at_lem (λ at r. record_well_formed (largest_timer Draft) r) (page_records page) (page_record page IdleA) clean.well_formed_lem (place_of c) below

    -- At +k of a condition there is no fault of any kind.
    spot_clear : (k : ℕ) → k < 16 → (kind : FaultKind) → is_fault page kind (log_place c + k) ≡ false
    spot_clear k m ReservedWord =
        reserved_word c k m page ∙ guarded (leb 8 k) _ (λ e.
        let zero = ours_word (log_place c + k) ∙ ap joined (unnamed_word (page_records page) c k 0 refl (leb-true 8 k e) m) in
        ap not (eq-eqb _ 0 zero))
    spot_clear k m ReservedBits =
        let r = page_record page c in
        let head = ap (some_one 12 0) (named_ours 1 (omega arith)) ∙ head_clear r.supported r.saveable r.changeable in
        let setting : (j : ℕ) → j < 8 → (flag : Bool) → get_or (named_words r) j 0 ≡ flag_at 15 flag → some_one 14 0 (page_word page (log_place c + j)) ≡ false =
        λ j h flag e. ap (some_one 14 0) (named_ours j h ∙ ap joined e) ∙ setting_clear flag in
        reserved_bits c k m page
        ∙ neither _ _ (guarded (eqb k 1) _ (λ e. rw (eqb-true k 1 e) head))
        (guarded (eqb k 2 || eqb k 4 || eqb k 6) _
        (at_settings (λ j. some_one 14 0 (page_word page (log_place c + j)) ≡ false) (setting 2 (omega arith) r.default.enabled refl)
        (setting 4 (omega arith) r.saved.enabled refl) (setting 6 (omega arith) r.current.enabled refl) k))
    spot_clear k m SetUnsupported =
        let r = page_record page c in
        set_unsupported c k m page
        ∙ guarded (eqb k 1) _ (λ e. supported r.supported (others_zero r) ((record_fine (largest_timer Draft) r).0 fine).others)
      where
        supported : (a b : Bool) → (a || b) ≡ true → (not a && not b) ≡ false
        supported true b e = refl
        supported false b e = ap not e
    spot_clear k m NoTimer =
        let r = page_record page c in
        let parts = (record_fine (largest_timer Draft) r).0 fine in
        no_timer c k m page
        ∙ guarded (eqb k 2 || eqb k 4 || eqb k 6) _
        (at_settings (λ j. enabled_without_timer (page_setting page (log_place c + j)) ≡ false) (timed r.default parts.default)
        (timed r.saved parts.saved) (timed r.current parts.current) k)
      where
        apart : (a b : Bool) → (not a || not b) ≡ true → (a && b) ≡ false
        apart true b e = not-true b e
        apart false b e = refl

        timed : (t : Setting) → setting_well_formed (largest_timer Draft) t ≡ true → enabled_without_timer t ≡ false
        timed t h = apart t.enabled (eqb t.timer.0 0) (and_right (leb t.timer.0 (largest_timer Draft)) _ h)
    spot_clear k m SavedOff = saved_off c k m page ∙ guarded (eqb k 4) _ (λ e. (keeps_default (page_record page c)).1 (clean.none_off c))

  past_clear : (w : ℕ) → 0x50 ≤ w → w < 256 → (kind : FaultKind) → is_fault page kind w ≡ false
  past_clear w h m kind = past_fault_lem w h page kind ∙ on kind
    where
      zero : not (eqb (page_word page w) 0) ≡ false
      zero = ap not (eq-eqb _ 0 (ours_word w ∙ ap joined (word_past (page_records page) w 0 refl h m)))

      on : (k : FaultKind) → past_fault w h page k ≡ false
      on ReservedWord = zero
      on ReservedBits = refl
      on SetUnsupported = refl
      on NoTimer = refl
      on SavedOff = refl

  clean_no_fault : NoFault page
  clean_no_fault w h kind = on (ltb w 0x50) refl
    where
      on : (b : Bool) → ltb w 0x50 ≡ b → is_fault page kind w ≡ false
      on true e =
          ap (is_fault page kind) (spot_of w (ltb-true w 0x50 e)) ∙ spot_clear (owner_of w) (w % 16) (omega arith) kind
      on false e = past_clear w (ltb-false w 0x50 e) h kind

-- "an empty list means the page is exactly what our writer makes of the records read and none is saved off default while not saveable": it means
-- that, and no other page has an empty list.
pub clean_exactly : (page : List ℕ) → length page ≡ 512 → AreBytes page → (faults_of page ≡ []) ↔ Clean page
clean_exactly page size bytes = (
  λ empty. no_fault_clean page bytes (none_each page empty) size,
  λ clean. none_all page (clean_no_fault page clean),
)
