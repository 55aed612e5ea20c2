-- Demand 3: call by call the serial record goes beside the real one (Same, Operations); where nothing waits at the end, all that is compared is the same.
-- The serial list's own deeds are gathered on the way.
use mathlib.Core.Path.{◌≡◌, refl, sym, ap, ◌∙◌}
use mathlib.Core.Bool.{true, not, ◌||◌}
use mathlib.Core.List.{List, [], ◌∷◌, ◌++◌, reverse_aux, append-nil, append_assoc}
use mathlib.Core.Logic.{inl}
use Prim.Native.Nat.{ℕ}
use Rattle.rows.proofs.Places.{and_left, and_right}
use Rattle.unit.specs.Units.{well_formed}
use Rattle.unit.specs.declared.Unit.{Unit}
use Rattle.requests.specs.declared.Reply.TheVariants.{Good, Bad}
use Rattle.operations.specs.Operations.{one_more, flushes_of}
use Rattle.calls.specs.Calls.{Call, outcome, step, run, history}
use Rattle.calls.specs.Described.{is_reset}
use Rattle.runs.specs.Deeds.{Deed, was_refused, deeds, does_a}
use Rattle.runs.specs.Past.{past_of}
use Rattle.runs.specs.Serial.{in_place_of, serial_after, serial, nothing_waits, resets_at_rest, compared, Demand3, gather, refused_in, other_in, begun_in, beginner_in, ender_in, Serialises, SerialRun, real_place, serial_place}
use Rattle.runs.proofs.Deeds.{deed_at, by_deed, reset_call_lem}
use Rattle.runs.proofs.Known.{Known, known_kept, known_at_first}
use Rattle.runs.proofs.RunsTo.{RunsTo, runs_nothing, runs_append, gather_append}
use Rattle.runs.proofs.Same.{Same, mark_at_rest, Stands, Follows, aborts_on, epc_on, ticks_on, reads_on, writes_on, powers_on, resets_hard, resets_soft, tells_on, logs_on, transitions_on, new_page_on, nothing}
use Rattle.runs.proofs.Pending.{pending, balanced}
use Rattle.runs.proofs.Slots.{nothing_waits_lem, Quiet}
use Rattle.runs.proofs.Operations.{begins_on, asks_on, flushes_on, flush_fails_on, last_on}

-- ---- one call

module _ (past : List Deed) (u v : Unit) (known : Known past u) (same : Same u v) where
  stands : (c : Call) → Stands past u v known.0 same (deed_at u c) (step u c)
  stands = by_deed (Stands past u v known.0 same) u (record {
    refused = λ c r. nothing past u v known.0 same (was_refused c) u (refl, refl, refl, refl, λ k. refl) same;
    aborted = aborts_on past u v known.0 same;
    begun = λ host cdb t clear wants. begins_on past u v known same host cdb t clear;
    asked = λ host q clear. asks_on past u v known same host q;
    flushed = λ host q taken f. flushes_on past u v known same host q taken;
    flush_failed = λ host q taken f. flush_fails_on past u v known same host q taken f (one_more (flushes_of q.stage)) _;
    last_succeeded = λ host q taken f. last_on past u v known same host q taken f Good _;
    last_failed = λ host q taken f. last_on past u v known same host q taken f Bad _;
  }) (record {
    epc = epc_on past u v known.0 same;
    ticks = ticks_on past u v known.0 same;
    reads = reads_on past u v known.0 same;
    writes = writes_on past u v known.0 same;
    powers_on = powers_on past u v known.0 same;
    resets_hard = resets_hard past u v known.0 same;
    resets_soft = resets_soft past u v known.0 same;
    tells = tells_on past u v known.0 same;
    logs = logs_on past u v known.0 same;
    logs_transitions = transitions_on past u v known.0 same;
    logs_new = new_page_on past u v known.0 same;
  })

-- ---- lists

chained : {A : Type 0} (a b e p g m r d : List A) → a ++ b ≡ e ++ p → p ++ g ≡ m ++ r → d ≡ e → a ++ (b ++ g) ≡ d ++ m ++ r
chained a b e p g m r d one two same =
    sym (append_assoc a b g) ∙ ap (λ l. l ++ g) one ∙ append_assoc e p g ∙ ap (λ l. e ++ l) two ∙ sym (append_assoc e m r)
    ∙ ap (λ l. l ++ m ++ r) (sym same)

-- ---- any run

-- The serial run of the calls cs, beside them from the records u and v on.
record Beside (past : List Deed) (u v : Unit) (cs : List Call) : Type 0 where
  made : List Deed
  end : Unit
  runs : RunsTo v (serial_after past (deeds (history u cs))) made end
  same : Same (run u cs) end
  none_refused : gather refused_in made ≡ []
  same_others : gather other_in made ≡ gather other_in (deeds (history u cs))
  in_order : gather beginner_in made ≡ gather ender_in (deeds (history u cs))
  in_place : gather serial_place made ≡ gather real_place (deeds (history u cs))
  over : gather ender_in made ≡ gather ender_in (deeds (history u cs))
  balance : (k : ℕ) → pending k past u.slots ++ gather (begun_in k) (deeds (history u cs))
      ≡ gather (begun_in k) made ++ pending k (reverse_aux (deeds (history u cs)) past) (run u cs).slots

resets_rest : (u : Unit) (c : Call) → (not (is_reset c) || nothing_waits u) ≡ true → does_a is_reset (deed_at u c) ≡ true → Quiet u
resets_rest u c h reset = nothing_waits_lem u (rw (reset_call_lem c (outcome u c).said reset) at h)

-- one call, and the rest of the run
beside_next : (past : List Deed) (u v : Unit) (c : Call) (cs : List Call) → (does_a is_reset (deed_at u c) ≡ true → Quiet u) → Known past u
    → (f : Follows past v (deed_at u c) (step u c)) → Beside (deed_at u c ∷ past) (step u c) f.v' cs → Beside past u v (c ∷ cs)
beside_next past u v c cs reset known f b =
    let ds = f.ds in
    let es = b.made in
    record {
      made = ds ++ es;
      end = b.end;
      runs = runs_append v f.v' b.end (in_place_of past (deed_at u c)) _ ds es f.runs b.runs;
      same = b.same;
      none_refused = gather_append refused_in ds es ∙ rw (f.stand.none_refused, b.none_refused);
      same_others = gather_append other_in ds es ∙ rw (f.stand.same_others, b.same_others);
      in_order = gather_append beginner_in ds es ∙ rw (f.stand.beginner, b.in_order);
      in_place = gather_append serial_place ds es ∙ rw (f.stand.place, b.in_place);
      over = gather_append ender_in ds es ∙ rw (f.stand.over, b.over);
      balance = λ k.
          chained (pending k past u.slots) (begun_in k (deed_at u c)) _ _ _ _ _ _ (balanced past u known k c reset) (b.balance k) (f.stand.begun k)
          ∙ ap (λ (l : List (List ℕ)). l ++ pending k (reverse_aux (deeds (history u (c ∷ cs))) past) (run u (c ∷ cs)).slots)
          (sym (gather_append (begun_in k) ds es));
    }

beside : (past : List Deed) (u v : Unit) → Known past u → Same u v → (cs : List Call) → resets_at_rest outcome u cs ≡ true → Beside past u v cs
beside past u v known same [] h = record {
  made = [];
  end = v;
  runs = runs_nothing v;
  same = same;
  none_refused = refl;
  same_others = refl;
  in_order = refl;
  in_place = refl;
  over = refl;
  balance = λ k. append-nil (pending k past u.slots);
}
beside past u v known same (c ∷ cs) h =
    let reset = resets_rest u c (and_left (not (is_reset c) || nothing_waits u) _ h) in
    let f = stands past u v known same c reset in
    beside_next past u v c cs reset known f
    (beside (deed_at u c ∷ past) (step u c) f.v' (known_kept past u c known) f.same cs (and_right (not (is_reset c) || nothing_waits u) _ h))

-- ---- the demand

at_first : (u : Unit) → well_formed u ≡ true → Quiet u → Same u u
at_first u fine quiet = record {
  fine = fine;
  quiet = quiet;
  edition = refl;
  records = refl;
  stopped = refl;
  held = refl;
  unsaved = inl refl;
  at_rest = λ q. (refl, refl);
}

same_compared : (u v : Unit) → Same u v → Quiet u → compared u ≡ compared v
same_compared u v same quiet =
    rw (same.records, (same.at_rest quiet).0, (same.at_rest quiet).1, same.stopped, mark_at_rest u v quiet same.unsaved, same.held)

module _ (u : Unit) (cs : List Call) (fine : well_formed u ≡ true) (rest : nothing_waits u ≡ true) (resets : resets_at_rest outcome u cs ≡ true)
    (end : nothing_waits (run u cs) ≡ true) where
  quiet : Quiet u
  quiet = nothing_waits_lem u rest

  both : Beside [] u u cs
  both = beside [] u u (known_at_first u fine quiet) (at_first u fine quiet) cs resets

  same_end : compared (run u cs) ≡ compared (run u (serial (history u cs)))
  same_end = same_compared (run u cs) both.end both.same (nothing_waits_lem (run u cs) end) ∙ ap compared (sym both.runs.left)

  begun_same : (k : ℕ) → gather (begun_in k) both.made ≡ gather (begun_in k) (deeds (history u cs))
  begun_same k =
      sym (ap (λ (l : List (List ℕ)). gather (begun_in k) both.made ++ l) (at_rest (run u cs) (nothing_waits_lem (run u cs) end) (past_of u cs)) ∙ append-nil _)
      ∙ sym (both.balance k)
      ∙ ap (λ (l : List (List ℕ)). l ++ gather (begun_in k) (deeds (history u cs))) (at_rest u quiet [])
    where
      at_rest : (w : Unit) → Quiet w → (past : List Deed) → pending k past w.slots ≡ []
      at_rest w none past = rw (none k)

  beside_real : Serialises (deeds (history u cs)) (deeds (history u (serial (history u cs))))
  beside_real = rw both.runs.came (record {
    none_refused = both.none_refused;
    same_others = both.same_others;
    one_each = begun_same;
    in_order = both.in_order;
    in_place = both.in_place;
    over = both.over;
  })

-- Demand 3 holds of the layer.
pub demand_3 : Demand3 outcome
demand_3 = same_end

-- And its serial run is what it is said to be.
pub serial_run : SerialRun outcome
serial_run = beside_real
