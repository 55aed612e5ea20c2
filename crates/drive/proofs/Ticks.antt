-- What a tick does and leaves alone. The timers ask for the last place that has run out; the tick enters it if it is lower than where the drive is.
use mathlib.Core.Path.{◌≡◌, refl, ap, ◌∙◌}
use mathlib.Core.Bool.{Bool, true, false}
use mathlib.Core.List.{List}
use mathlib.Core.Logic.{◌↔◌, ◌≢◌, ◌⊎◌, inl, inr, ⊎_elim}
use Prim.Native.Nat.{ℕ, ◌+◌, ◌<◌, ◌≤◌}
use native.Mathlib.Omega.{arith}
use lib.Dec.{leb, ltb}
use lib.ListN.{length, get_or}
use borrow.Author.Tests.{leb-true, le-leb, ltb-true, ltb-false, lt-ltb, le-ltb}
use Rattle.rows.proofs.Places.{and_left, and_right, and_both}
use Rattle.rows.proofs.Last.{LastAt, NoneAt, last_or_none}
use Rattle.conditions.specs.declared.Condition.{Condition}
use Rattle.drive.specs.declared.Record.{Record}
use Rattle.conditions.specs.declared.Power.{Power}
use Rattle.conditions.specs.declared.Power.TheVariants.{Active, Low}
use Rattle.conditions.specs.declared.Cause.TheVariants.{Timer}
use Rattle.drive.specs.declared.Drive.{Drive}
use Rattle.conditions.specs.Conditions.{place_of, condition_at, depth}
use Rattle.drive.specs.Drives.{counted, ran_out, timers_ask, with_idle, entered, ticked}
use Rattle.conditions.proofs.Conditions.{place_below, at_place, place_at}
use Rattle.drive.proofs.Depths.{ran_out_at, last_asked, none_asked}

-- ---- what the timers ask for

-- A record has run out at a count exactly if its current setting is enabled, with timer at most the count.
pub ran_out_is : (count : ℕ) (r : Record) → (ran_out count r ≡ true) ↔ ((r.current.enabled ≡ true) × (r.current.timer.0 ≤ count))
ran_out_is count r = (
  λ h. (and_left r.current.enabled _ h, leb-true _ _ (and_right r.current.enabled (leb r.current.timer.0 count) h)),
  λ p. and_both _ _ p.0 (le-leb _ _ p.1),
)

-- A condition has run out at a count, or still runs. (z stands where a list has no record.)
abbrev pub RanOut : List Record → ℕ → Record → Condition → Type 0
RanOut rs count z c = ran_out count (get_or rs (place_of c) z) ≡ true

abbrev pub Runs : List Record → ℕ → Record → Condition → Type 0
Runs rs count z c = ran_out count (get_or rs (place_of c) z) ≡ false

-- The lowest condition that has run out.
pub record Lowest (rs : List Record) (count : ℕ) (z : Record) (c : Condition) : Type 0 where
  pub ran_out_lem : RanOut rs count z c
  pub none_lower : (e : Condition) → place_of c < place_of e → Runs rs count z e

module _ (rs : List Record) (five : length rs ≡ 5) (count : ℕ) (z : Record) where
  to_last : (c : Condition) → Lowest rs count z c → LastAt (ran_out_at count) rs z (place_of c)
  to_last c h = record {
    inside = omega (arith, place_below c);
    passes = h.ran_out_lem;
    none_after = λ j k m.
        let at : place_of (condition_at j) ≡ j = place_at j (omega arith) in
        rw at at (h.none_lower (condition_at j) (omega arith));
  }

  from_last : (i : ℕ) → LastAt (ran_out_at count) rs z i → Lowest rs count z (condition_at i)
  from_last i h =
      let at : place_of (condition_at i) ≡ i = place_at i (omega (arith, h.inside)) in
      record {
        ran_out_lem = rw at h.passes;
        none_lower = λ e k. h.none_after (place_of e) (omega arith) (omega (arith, place_below e));
      }

  none_from : ((c : Condition) → Runs rs count z c) → NoneAt (ran_out_at count) rs z
  none_from h i k = rw (place_at i (omega arith)) at (h (condition_at i))

  -- There is a lowest condition that has run out, or none has.
  pub lowest_or_none : ((c : Condition) × Lowest rs count z c) ⊎ ((c : Condition) → Runs rs count z c)
  lowest_or_none =
      ⊎_elim
      (λ h. inl (condition_at h.0, from_last h.0 h.1))
      (λ h. inr (λ c. h (place_of c) (omega (arith, place_below c))))
      (last_or_none (ran_out_at count) rs z)

  ask_lowest : (c : Condition) → Lowest rs count z c → timers_ask rs count ≡ Low c Timer
  ask_lowest c h = last_asked rs count z (place_of c) (to_last c h) ∙ rw (at_place c)

  ask_none : ((c : Condition) → Runs rs count z c) → timers_ask rs count ≡ Active
  ask_none h = none_asked rs count z (none_from h)

  -- The timers ask for c, cause timer, exactly if c has run out and nothing lower has.
  pub timers_ask_for : (c : Condition) → (timers_ask rs count ≡ Low c Timer) ↔ Lowest rs count z c
  timers_ask_for c = (
    λ e. ⊎_elim
        (λ h. let same : h.0 ≡ c = cc (ask_lowest h.0 h.1) in rw same at h.1)
        (λ h. let no : ◌≡◌ {A = ℕ} 0 1 = cc (ask_none h) in absurd (omega arith))
        lowest_or_none,
    ask_lowest c,
  )

  -- They ask for Active exactly if none has run out.
  pub timers_ask_none : (timers_ask rs count ≡ Active) ↔ ((c : Condition) → Runs rs count z c)
  timers_ask_none = (
    λ e. ⊎_elim (λ h. let no : ◌≡◌ {A = ℕ} 0 1 = cc (ask_lowest h.0 h.1) in absurd (omega arith)) (λ h. h) lowest_or_none,
    ask_none,
  )

-- ---- what a tick does with it

-- What the timers ask for at the next tick.
abbrev pub next_asked : ℕ → Drive → Power
next_asked top d = timers_ask d.records (counted top d.idle.0)

-- It is lower, and the tick enters it.
abbrev pub Falls : ℕ → Drive → Type 0
Falls top d = (depth d.power < depth (next_asked top d)) × ((ticked top d).power ≡ next_asked top d)

-- It is not lower, and the tick leaves the power.
abbrev pub Stays : ℕ → Drive → Type 0
Stays top d = (depth (next_asked top d) ≤ depth d.power) × ((ticked top d).power ≡ d.power)

-- The next tick enters c: it is the lowest condition that has run out at the count then reached, and lies below the present one.
pub record Enters (top : ℕ) (d : Drive) (z : Record) (c : Condition) : Type 0 where
  pub lowest : Lowest d.records (counted top d.idle.0) z c
  pub below : depth d.power < depth (Low c Timer)

module _ (top : ℕ) (d : Drive) where
  -- A tick counts, may change the power, and changes nothing else.
  pub tick_whole : ticked top d ≡ entered (ticked top d).power (with_idle (counted top d.idle.0) d)
  unfolding ticked
  tick_whole = refl

  -- The idle count after a tick is the one that the tick counts to;
  pub tick_idle : (ticked top d).idle.0 ≡ counted top d.idle.0
  tick_idle = ap (λ (e : Drive). e.idle.0) tick_whole

  -- "adds 1 to the idle count, which stays at" the largest: that is one more below it,
  pub tick_adds_one : d.idle.0 < top → (ticked top d).idle.0 ≡ d.idle.0 + 1
  tick_adds_one below = tick_idle ∙ rw (lt-ltb d.idle.0 top below)

  -- and the same at it.
  pub tick_at_top : top ≤ d.idle.0 → (ticked top d).idle.0 ≡ d.idle.0
  tick_at_top full = tick_idle ∙ rw (le-ltb d.idle.0 top full)

  -- Below both, it is the same by another largest.
  pub tick_below : (other : ℕ) → d.idle.0 < top → d.idle.0 < other → ticked top d ≡ ticked other d
  unfolding ticked
  tick_below other below below' = rw (lt-ltb d.idle.0 top below, lt-ltb d.idle.0 other below')

  -- A tick changes no record.
  pub tick_records : (ticked top d).records ≡ d.records
  tick_records = ap (λ (e : Drive). e.records) tick_whole

  -- What the timers ask for is lower and is entered, or nothing moves.
  pub tick_either : Falls top d ⊎ Stays top d
  unfolding ticked
  tick_either = either (ltb (depth d.power) (depth (next_asked top d))) refl
    where
      either : (b : Bool) → ltb (depth d.power) (depth (next_asked top d)) ≡ b → Falls top d ⊎ Stays top d
      either true e = inl (ltb-true _ _ e, rw e)
      either false e = inr (ltb-false _ _ e, rw e)

  -- A tick never raises the power.
  pub tick_never_raises : depth d.power ≤ depth (ticked top d).power
  tick_never_raises = ⊎_elim (λ h. rw h.1 (omega arith)) (λ h. rw h.1 (omega arith)) tick_either

  -- Where the timers ask for nothing lower, nothing moves: a condition already held keeps its cause.
  pub tick_not_lower : depth (next_asked top d) ≤ depth d.power → (ticked top d).power ≡ d.power
  tick_not_lower k = ⊎_elim (λ h. absurd (omega arith)) (λ h. h.1) tick_either

  -- A tick that leaves the drive in its condition leaves the cause as well.
  pub tick_keeps_cause : depth (ticked top d).power ≡ depth d.power → (ticked top d).power ≡ d.power
  tick_keeps_cause e = ⊎_elim (λ h. absurd (omega (arith, ap depth h.1))) (λ h. h.1) tick_either

  module _ (five : length d.records ≡ 5) (z : Record) where
    -- A tick enters c, cause timer, exactly if c has run out (its current setting is enabled with timer at most the count), nothing lower
    -- has run out, and c lies below the present condition.
    pub tick_enters : (c : Condition) → ((d.power ≢ Low c Timer) × ((ticked top d).power ≡ Low c Timer)) ↔ Enters top d z c
    tick_enters c = (
      λ h. ⊎_elim
          (λ m. let e : next_asked top d ≡ Low c Timer = cc (h.1, m.1) in
          record { lowest = (timers_ask_for d.records five _ z c).0 e; below = omega (arith, ap depth e) })
          (λ s. absurd (h.0 (cc (h.1, s.1))))
          tick_either,
      λ h. let e : next_asked top d ≡ Low c Timer = (timers_ask_for d.records five _ z c).1 h.lowest in (
        λ same. omega (arith, ap depth same),
        ⊎_elim (λ m. cc m.1) (λ s. absurd (omega (arith, ap depth e))) tick_either,
      ),
    )

    -- Nothing moves, or there is a condition that is entered.
    pub tick_stays_or_enters : ((ticked top d).power ≡ d.power) ⊎ ((c : Condition) × Enters top d z c)
    tick_stays_or_enters =
        ⊎_elim
        (λ m. ⊎_elim
        (λ h. inr (h.0, record { lowest = h.1; below = omega (arith, ap depth ((timers_ask_for d.records five _ z h.0).1 h.1)) }))
        (λ h. absurd (omega (arith, ap depth ((timers_ask_none d.records five _ z).1 h))))
        (lowest_or_none d.records five _ z))
        (λ s. inl s.1)
        tick_either

    -- Nothing moves exactly if there is none.
    pub tick_stays : ((ticked top d).power ≡ d.power) ↔ ((c : Condition) → ¬ Enters top d z c)
    tick_stays = (
      λ e c h. ((tick_enters c).1 h).0 (cc ((tick_enters c).1 h).1),
      λ none. ⊎_elim (λ e. e) (λ h. absurd (none h.0 h.1)) tick_stays_or_enters,
    )
