-- The unsaved mark says whether every write is safe: a write sets it, a good flush or a power-on clears it, every other call leaves it and each write
-- as they were. And the last command of a flushing operation is due only with the mark clear.
use Rattle.std.proofs.Common.{Some}
use mathlib.Core.Path.{◌≡◌, refl, sym, ap, ◌∙◌}
use mathlib.Core.Bool.{Bool, true, false, ◌||◌, cond, and-false, or-false, or-true, true≢false, false≢true}
use mathlib.Core.List.{List, [], ◌∷◌}
use mathlib.Core.Logic.{◌↔◌}
use Prim.Native.Nat.{ℕ, zero, suc, ◌<◌}
use native.Mathlib.Omega.{arith}
use lib.Dec.{eqb}
use lib.ListN.{take, drop}
use borrow.Author.Tests.{not-true}
use Rattle.rows.proofs.Places.{and_left, and_right}
use Rattle.drive.specs.declared.Edition.{Edition}
use Rattle.drive.specs.declared.Made.{Made}
use Rattle.rows.proofs.Choices.{either}
use Rattle.unit.specs.Units.{slot_of, well_formed}
use Rattle.exchange.specs.Exchange.{answer_rows}
use Rattle.refusals.proofs.Lowest.{not_applies}
use Rattle.engine.specs.Engine.{manufacture_outcome}
use Rattle.requests.specs.declared.Stage.TheVariants.{Straight, Flushing}
use Rattle.requests.specs.declared.Request.{Request}
use Rattle.unit.specs.declared.Slot.TheVariants.{Waiting}
use Rattle.unit.specs.declared.Unit.{Unit}
use Rattle.cdb.specs.Cdb.{no_flush}
use Rattle.operations.specs.Operations.{failure_of, registers_of, last_of, due_from, is_flush, report_failed}
use Rattle.exchange.specs.Answered.{failed}
use Rattle.requests.specs.declared.Reply.{Reply}
use Rattle.requests.specs.declared.Reply.TheVariants.{Good, Bad}
use Rattle.operations.specs.declared.Report.{Report}
use Rattle.calls.specs.Calls.{Call, set_features, outcome, step, run}
use Rattle.calls.proofs.WellFormed.{manufacture_well_formed, manufacture_rests}
use Rattle.calls.specs.Described.{is_power_on, is_write}
use Rattle.runs.specs.Deeds.{Deed, begins, hands_out, goes_on, ends, does, was_aborted, was_refused, does_a}
use Rattle.runs.specs.Past.{past_of, cdb_of, flush_sent, held_at255}
use Rattle.runs.specs.Serial.{nothing_waits}
use Rattle.runs.specs.Safe.{latest_powered_on, latest_flushed, WroteAgo, SincePowerOn, Safe, AllSafe, SomeUnsafe, flushing, asks_flush, last_goes_out, last_answered_good, NoByteLeftBehind, MarkTells}
use Rattle.runs.proofs.Deeds.{Taken, deed_at, by_deed, Leaves, sweeps, marks, passes, all_others}
use Rattle.runs.proofs.Slots.{taken_out, nothing_waits_lem}
use Rattle.runs.proofs.Since.{SentSince, sinces}
use Rattle.runs.proofs.Known.{along, Noted, Known, begins_with, is_flush_lem, last_means, sent_due, known_kept, known_at_first}
use Rattle.refusals.specs.declared.Refusal.TheVariants.{HasNone}

-- ---- the command sent last

either_way : (b x y z : Bool) → (y ≡ true → z ≡ true) → cond b x y ≡ true → cond b x z ≡ true
either_way true x y z f h = h
either_way false x y z f h = f h

-- Sent among the latest calls, it is the one sent last.
sent_among : (k n : ℕ) (past : List Deed) → flush_sent k (take n past) ≡ true → flush_sent k past ≡ true
sent_among k zero past h = absurd (false≢true h)
sent_among k (suc n) [] h = h
sent_among k (suc n) (begins host cdb ∷ past) h = sent_among k n past h
sent_among k (suc n) (hands_out host q ∷ past) h = either_way (eqb host k) _ _ _ (sent_among k n past) h
sent_among k (suc n) (goes_on host reply ∷ past) h = sent_among k n past h
sent_among k (suc n) (ends host reply report ∷ past) h = sent_among k n past h
sent_among k (suc n) (does c ∷ past) h = sent_among k n past h
sent_among k (suc n) (was_aborted c ∷ past) h = sent_among k n past h
sent_among k (suc n) (was_refused c ∷ past) h = sent_among k n past h

-- So an answer to a flush sent among the latest calls is an answer to a flush.
flushed_among : (n : ℕ) (d : Deed) (past : List Deed) → latest_flushed (d ∷ take n past) ≡ true → latest_flushed (d ∷ past) ≡ true
flushed_among n (begins host cdb) past h = h
flushed_among n (hands_out host q) past h = h
flushed_among n (goes_on host reply) past h =
    let sent = flush_sent host (take n past) in rw (sent_among host n past (and_left sent _ h)) (and_right sent _ h)
flushed_among n (ends host reply report) past h =
    let sent = flush_sent host (take n past) in rw (sent_among host n past (and_left sent _ h)) (and_right sent _ h)
flushed_among n (does c) past h = h
flushed_among n (was_aborted c) past h = h
flushed_among n (was_refused c) past h = h

-- ---- what one more call makes of the writes

module _ (d : Deed) (past : List Deed) where
  -- Of a call that is no write, it is asked only whether the writes before it are safe.
  all_before : does_a is_write d ≡ false → ((i : ℕ) → WroteAgo past i → SincePowerOn (d ∷ past) (suc i) → Safe (d ∷ past) (suc i)) → AllSafe (d ∷ past)
  all_before no_write safe zero written since = absurd (true≢false (sym written ∙ no_write))
  all_before no_write safe (suc i) written since = safe i written since

  -- What was safe stays safe.
  safe_later : (i : ℕ) → Safe past i → Safe (d ∷ past) (suc i)
  safe_later i (j, before, flushed) = (suc j, omega arith, flushed)

  all_later : does_a is_write d ≡ false → AllSafe past → AllSafe (d ∷ past)
  all_later no_write all =
      all_before no_write (λ i written since. safe_later i (all i written (λ j before. since (suc j) (omega arith))))

  -- A good flush that was sent after every write makes every write safe.
  all_flushed : does_a is_write d ≡ false → ((i : ℕ) → WroteAgo past i → latest_flushed (d ∷ take i past) ≡ true) → AllSafe (d ∷ past)
  all_flushed no_write flushed = all_before no_write (λ i written since. (0, omega arith, flushed i written))

  -- No write came since a power-on just now.
  all_powered : does_a is_write d ≡ false → does_a is_power_on d ≡ true → AllSafe (d ∷ past)
  all_powered no_write powered =
      all_before no_write (λ i written since. absurd (true≢false (sym powered ∙ since 0 (omega arith))))

  -- A write that was not safe stays so, but for a power-on or a good flush.
  unsafe_later : does_a is_power_on d ≡ false → latest_flushed (d ∷ past) ≡ false → SomeUnsafe past → SomeUnsafe (d ∷ past)
  unsafe_later no_power no-flush some = record {
    ago = suc some.ago;
    was_write = some.was_write;
    since_power_on = since;
    not_safe = not_safe;
  }
    where
      since : (j : ℕ) → j < suc some.ago → latest_powered_on (drop j (d ∷ past)) ≡ false
      since zero before = no_power
      since (suc j) before = some.since_power_on j (omega arith)

      not_safe : Safe (d ∷ past) (suc some.ago) → ⊥
      not_safe (zero, before, flushed) = true≢false (sym (flushed_among some.ago d past flushed) ∙ no-flush)
      not_safe (suc j, before, flushed) = some.not_safe (j, omega arith, flushed)

  -- A write just accepted is not safe.
  unsafe_written : does_a is_write d ≡ true → SomeUnsafe (d ∷ past)
  unsafe_written wrote = record {
    ago = 0;
    was_write = wrote;
    since_power_on = λ j before. absurd (omega arith);
    not_safe = λ safe. omega (arith, safe.1);
  }

-- ---- the mark and the past

-- What the unsaved mark says of the past.
abbrev pub Marked : List Deed → Bool → Type 0
Marked past false = AllSafe past
Marked past true = SomeUnsafe past

contradict : {A : Type 0} (past : List Deed) → AllSafe past → SomeUnsafe past → A
contradict past all some = absurd (some.not_safe (all some.ago some.was_write some.since_power_on))

unsaved_told : (past : List Deed) (mark : Bool) → Marked past mark → (mark ≡ true) ↔ SomeUnsafe past
unsaved_told past false all = (λ e. absurd (false≢true e), contradict past all)
unsaved_told past true some = (λ e. some, λ s. refl)

saved_told : (past : List Deed) (mark : Bool) → Marked past mark → (mark ≡ false) ↔ AllSafe past
saved_told past false all = (λ e. all, λ a. refl)
saved_told past true some = (λ e. absurd (true≢false e), λ all. contradict past all some)

-- A call that is no write, no power-on and no good flush leaves what the mark says.
marked_later : (d : Deed) (past : List Deed) (mark : Bool) → does_a is_write d ≡ false → does_a is_power_on d ≡ false → latest_flushed (d ∷ past) ≡ false
    → Marked past mark → Marked (d ∷ past) mark
marked_later d past false no_write no_power no-flush all = all_later d past no_write all
marked_later d past true no_write no_power no-flush some = unsafe_later d past no_power no-flush some

-- ---- the last command of a flushing operation

-- Where a flushing operation has another command due than a flush, the mark is clear.
noted_saved : {cdb : List ℕ} {n : ℕ} {answers : List Reply} {q : Request} → Noted cdb n answers q → asks_flush cdb ≡ true
    → (unsaved : Bool) → is_flush (due_from unsaved q) ≡ false → unsaved ≡ false
noted_saved {cdb} {n} {answers} {q} noted asks unsaved last =
    let asked : flushing (Some q.target) (no_flush cdb) ≡ true = rw noted.wants at asks in
    let begun = begins_with q.target (no_flush cdb) ∙ ap (λ (b : Bool). cond b (Flushing 0) Straight) asked in
    let now = (rw begun at noted.reached).0 in
    (last_means (held_at255 n) unsaved (last_of q.target) (rw now at last)).1

-- ---- each call

-- The latest call hands out a flushing operation's last command, or is the good answer to it.
abbrev latest_is_last : List Deed → Bool
latest_is_last past = last_goes_out past || last_answered_good past

-- What is kept along a run: what the mark says of the past, and that it is clear when the last command of a flushing operation was handed out or
-- answered just now.
abbrev Says : List Deed → Bool → Type 0
Says past mark = Marked past mark × (latest_is_last past ≡ true → mark ≡ false)

module _ (past : List Deed) (u : Unit) (known : Known past u) (marked : Marked past u.unsaved) (since : SentSince past u.out) where
  abbrev After : Deed → Unit → Type 0
  After d v = Says (d ∷ past) v.unsaved

  -- A call that bears on no write: it is no write, no power-on, no good answer and no last command.
  quiet : (d : Deed) → does_a is_write d ≡ false → does_a is_power_on d ≡ false → latest_flushed (d ∷ past) ≡ false → latest_is_last (d ∷ past) ≡ false → After d u
  quiet d no_write no_power no_answer no_last = (
    marked_later d past u.unsaved no_write no_power no_answer marked,
    λ last. absurd (true≢false (sym last ∙ no_last)),
  )

  asked_says : (host : ℕ) (q : Request) → slot_of u.slots host ≡ Waiting q → After (hands_out host (registers_of (due_from u.unsaved q))) u
  asked_says host q waits = (
    marked_later _ past u.unsaved refl refl refl marked,
    λ last.
        let out = sym (or-false _) ∙ last in
        noted_saved (known.1 host q waits) (and_left asks _ out) u.unsaved
        (sym (is_flush_lem (due_from u.unsaved q)) ∙ not-true _ (and_right asks _ out)),
  )
    where
      asks : Bool
      asks = asks_flush (cdb_of host past)

  flushed_says : (host : ℕ) (q : Request) → Taken u host q → is_flush (due_from u.unsaved q) ≡ true → Says (goes_on host Good ∷ past) false
  flushed_says host q taken f =
      let out = taken_out u host (not_applies (answer_rows u host) HasNone taken.clear) in
      (all_flushed (goes_on host Good) past refl (λ i written. rw (since host out i written, sent_due past u known host q taken, f)), λ last. refl)

  -- A bad answer, which ends its operation.
  bad_says : (host : ℕ) (report : Report) → After (ends host Bad report) u
  bad_says host report = quiet (ends host Bad report) refl refl (and-false (flush_sent host past)) (and-false (asks_flush (cdb_of host past)))

  -- A good answer to the last command: it is no answer to a flush.
  last_says : (host : ℕ) (report : Report) (q : Request) → Taken u host q → is_flush (due_from u.unsaved q) ≡ false
      → After (ends host Good report) u
  last_says host report q taken f = (
    marked_later (ends host Good report) past u.unsaved refl refl (rw (sent_due past u known host q taken, f)) marked,
    λ last. noted_saved (known.1 host q taken.waiting) (and_left (asks_flush (cdb_of host past)) _ last) u.unsaved f,
  )

  -- A failure that is held leaves the mark too.
  failed_says : (host : ℕ) (q : Request) (n : ℕ)
      → After (ends host Bad (report_failed q.immed (failure_of q.target) n)) (failed u host q n).unit
  failed_says host q n =
      let report = report_failed q.immed (failure_of q.target) n in
      either (After (ends host Bad report)) q.immed _ _ (bad_says host report) (bad_says host report)

  -- A write sets the mark, a power-on clears it, any other call that is no part of an operation leaves it.
  other_says : (c : Call) (v : Unit) → Leaves u c v → After (does c) v
  other_says c v (sweeps true is slots none mark) = rw mark (all_powered (does c) past is.1 is.2, λ last. refl)
  other_says c v (sweeps false is slots none mark) = rw mark (quiet (does c) is.1 is.2 refl refl)
  other_says c v (marks is none slots same mark) = rw mark (unsafe_written (does c) past is.1, λ last. absurd (false≢true last))
  other_says c v (passes is slots same mark) = rw mark (quiet (does c) is.1 is.2 refl refl)

  says : (c : Call) → After (deed_at u c) (step u c)
  says = by_deed After u (record {
    refused = λ c. quiet (was_refused c) refl refl refl refl;
    aborted = λ q a. quiet (was_aborted (set_features q)) refl refl refl refl;
    begun = λ host cdb t clear wants. quiet (begins host cdb) refl refl refl refl;
    asked = λ host q clear. asked_says host q;
    flushed = flushed_says;
    flush_failed = λ host q taken f. failed_says host q _;
    last_succeeded = λ host q. last_says host _ q;
    last_failed = λ host q taken f. failed_says host q _;
  }) (all_others After u (λ c v did. other_says c v did.leaves))

-- ---- over any run from a well-formed record with nothing waiting and the mark clear

abbrev Tracks : List Deed → Unit → Type 0
Tracks past u = Known past u × Says past u.unsaved × SentSince past u.out

tracks_kept : (past : List Deed) (u : Unit) (c : Call) → Tracks past u → Tracks (deed_at u c ∷ past) (step u c)
tracks_kept past u c (known, (marked, last), since) = (
  known_kept past u c known,
  says past u known marked since c,
  sinces past u since c,
)

abbrev Saved : Unit → Type 0
Saved u = (well_formed u ≡ true) × (nothing_waits u ≡ true) × (u.unsaved ≡ false)

-- Nothing is written yet.
tracks_at_first : (u : Unit) → Saved u → Tracks [] u
tracks_at_first u (fine, none, saved) = (known_at_first u fine (nothing_waits_lem u none), rw saved (all, λ last. refl), first)
  where
    first : SentSince [] u.out
    first k is-out zero written = absurd (false≢true written)
    first k is-out (suc i) written = absurd (false≢true written)

    all : AllSafe []
    all zero written since = absurd (false≢true written)
    all (suc i) written since = absurd (false≢true written)

module _ (u : Unit) (rest : Saved u) (cs : List Call) where
  tracked : Tracks (past_of u cs) (run u cs)
  tracked = along Tracks tracks_kept [] u cs (tracks_at_first u rest)

  -- The mark is set exactly when some write accepted since the last power-on is not safe, and clear exactly when every one is.
  marked_exactly : (((run u cs).unsaved ≡ true) ↔ SomeUnsafe (past_of u cs)) × (((run u cs).unsaved ≡ false) ↔ AllSafe (past_of u cs))
  marked_exactly = (
    unsaved_told (past_of u cs) (run u cs).unsaved tracked.1.0,
    saved_told (past_of u cs) (run u cs).unsaved tracked.1.0,
  )

  last_all_safe : latest_is_last (past_of u cs) ≡ true → AllSafe (past_of u cs)
  last_all_safe last = marked_exactly.1.0 (tracked.1.1 last)

  -- Every one is when a flushing operation's last command goes out, and when it is answered good.
  none_left : (last_goes_out (past_of u cs) ≡ true → AllSafe (past_of u cs)) × (last_answered_good (past_of u cs) ≡ true → AllSafe (past_of u cs))
  none_left = (λ last. last_all_safe (rw last), λ last. last_all_safe (rw last (or-true (last_goes_out (past_of u cs)))))

-- ---- from manufacture on

-- A unit is made so, whether it is the one asked for or the blank one.
made_saved : (ed : Edition) (ms : List Made) → Saved (manufacture_outcome ed ms).unit
made_saved ed ms = let rest = manufacture_rests ed ms in (manufacture_well_formed ed ms, rw rest.0, rest.1)

-- The unsaved mark tells whether every write accepted since the last power-on is safe.
pub mark_tells : MarkTells outcome
mark_tells ed ms = marked_exactly _ (made_saved ed ms)

-- No byte is left behind.
pub no_byte_left_behind : NoByteLeftBehind outcome
no_byte_left_behind ed ms = none_left _ (made_saved ed ms)
