-- Demand 3 at the calls of an operation. Until its last answer nothing stands in the serial run, and only the unsaved mark may come apart. At its last
-- answer it is run whole there: both runs then have the same answer to the same command, which sets condition, idle count, marks and held sense alike.
use Rattle.std.proofs.Common.{Ok, Some}
use mathlib.Core.Path.{◌≡◌, refl, sym, ap, subst, ◌∙◌}
use mathlib.Core.Bool.{Bool, true, false, true≢false}
use mathlib.Core.List.{List, [], ◌∷◌, append-nil}
use mathlib.Core.Logic.{inl, inr}
use Prim.Native.Nat.{ℕ, zero, suc}
use lib.Dec.{eqb}
use lib.ListN.{set}
use borrow.Author.Tests.{eq-eqb}
use Rattle.registers.specs.declared.Registers.{Registers}
use Rattle.unit.specs.Units.{slot_of, is_waiting, with_slot, rested}
use Rattle.refusals.specs.Refusals.{lowest}
use Rattle.requests.specs.declared.Target.{Target}
use Rattle.requests.specs.declared.Stage.{Stage}
use Rattle.requests.specs.declared.Stage.TheVariants.{Straight, Flushing}
use Rattle.requests.specs.declared.Request.{Request}
use Rattle.unit.specs.declared.Slot.TheVariants.{Empty, Waiting}
use Rattle.requests.specs.declared.Failure.{Failure}
use Rattle.unit.specs.declared.Unit.{Unit}
use Rattle.cdb.specs.Cdb.{no_flush, is_listed, stage_for, request_for, fits as target_fits}
use Rattle.operations.specs.Operations.{failure_of, registers_of, last_of, due_from, is_flush, one_more, flushes_of, report_good, report_failed, flush_counted}
use Rattle.exchange.specs.Answered.{held_if, flushed_well, failed, succeeded, last_answered, answered_for}
use Rattle.bridge.specs.Bridge.{start_stop_rows}
use Rattle.exchange.specs.Exchange.{next_effect, answer_rows}
use Rattle.requests.specs.declared.Reply.{Reply}
use Rattle.requests.specs.declared.Reply.TheVariants.{Good, Bad}
use Rattle.operations.specs.declared.Report.{Report}
use Rattle.operations.specs.declared.Progress.TheVariants.{Ended}
use Rattle.refusals.proofs.Lowest.{not_applies, clear_when}
use Rattle.unit.proofs.Hosts.{own_slot}
use Rattle.cdb.proofs.Requests.{request_fits, listed_when}
use Rattle.unit.proofs.WellFormed.{unit_fine}
use Rattle.calls.proofs.Progress.{flush_answered_lem, last_answered_lem, last_no_flush, one_more_some}
use Rattle.runs.specs.Deeds.{Deed, begins, hands_out, goes_on, ends}
use Rattle.runs.specs.Past.{cdb_of, gets, answers_got, flushes_answered, held_at255}
use Rattle.runs.specs.Serial.{whole}
use Rattle.runs.proofs.Deeds.{Taken}
use Rattle.runs.proofs.Known.{straight_flushing, goods, Reached, NotedBy, Known, begins_with, begins_flushing, sent_due, straight_no_flush, last_means}
use Rattle.runs.proofs.RunsTo.{RunsTo}
use Rattle.runs.proofs.Whole.{Admitted, Ready, ready_begun, ready_flushed, flushed_due, whole_once, whole_twice}
use Rattle.runs.proofs.Slots.{waiting_same, inside, Quiet, quiet_out}
use Rattle.runs.proofs.Same.{Helped, SameMark, Same, StandFor, Follows, Stands, left_fine, waits_on, mark_beside}
use Rattle.refusals.specs.declared.Refusal.TheVariants.{BadHost, OwnWaiting}
use Rattle.unit.specs.declared.Slot.{Slot}

-- ---- both ends

-- u' and w' are left by the same end of the operation, in u and in w: nothing waits in w', and in u' it no longer does.
record BothEnded (u w u' w' : Unit) (host : ℕ) : Type 0 where
  edition : w'.edition ≡ u'.edition
  records : w'.drive.records ≡ u'.drive.records
  power : w'.drive.power ≡ u'.drive.power
  idle : w'.drive.idle ≡ u'.drive.idle
  stopped : w'.stopped ≡ u'.stopped
  held : w'.held ≡ u'.held
  quiet : Quiet w'
  slots : u'.slots ≡ set u.slots host Empty
  mark : u'.unsaved ≡ u.unsaved
  mark' : w'.unsaved ≡ w.unsaved

both_held : (u w x y : Unit) (host : ℕ) (b : Bool) (f : Failure) → BothEnded u w x y host → BothEnded u w (held_if b host f x) (held_if b host f y) host
both_held u w x y host true f e = record {
  edition = e.edition;
  records = e.records;
  power = e.power;
  idle = e.idle;
  stopped = e.stopped;
  held = rw e.held;
  quiet = e.quiet;
  slots = e.slots;
  mark = e.mark;
  mark' = e.mark';
}
both_held u w x y host false f e = e

-- The report that the last answer brings.
abbrev last_report : Reply → Request → Report
last_report Good q = report_good q.immed (flushes_of q.stage)
last_report Bad q = report_failed q.immed (failure_of q.target) (flushes_of q.stage)

last_report_lem : (reply : Reply) (u : Unit) (host : ℕ) (q : Request) → (last_answered u host q reply).answer ≡ Ok (Ended (last_report reply q))
last_report_lem Good u host q = refl
last_report_lem Bad u host q = refl

bad_flush_taken : (w : Unit) (host : ℕ) (p : Request) → p.stage ≡ Flushing 0
    → answered_for w host p Bad ≡ failed w host p (one_more (flushes_of p.stage))
bad_flush_taken w host p e = flush_answered_lem w host p Bad (rw e)

module _ (u v w : Unit) (host : ℕ) (q p : Request) (same : Same u v) (ready : Ready v w host q p) where
  edition : w.edition ≡ u.edition
  edition = ready.edition ∙ same.edition

  records : w.drive.records ≡ u.drive.records
  records = ready.records ∙ same.records

  held : w.held ≡ u.held
  held = ready.held ∙ same.held

  both_failed : (n m : ℕ) → BothEnded u w (failed u host q n).unit (failed (next_effect host w) host p m).unit host
  both_failed n m = rw (ready.immediate, ready.target) (both_held u w _ _ host q.immed (failure_of q.target) (record {
    edition = edition;
    records = records;
    power = refl;
    idle = refl;
    stopped = ready.stopped ∙ same.stopped;
    held = held;
    quiet = ready.others;
    slots = refl;
    mark = refl;
    mark' = refl;
  }))

  both_succeeded : BothEnded u w (succeeded u host q).unit (succeeded (next_effect host w) host p).unit host
  both_succeeded = record {
    edition = edition;
    records = records;
    power = rw (records, ready.target);
    idle = refl;
    stopped = rw ready.target;
    held = held;
    quiet = ready.others;
    slots = refl;
    mark = refl;
    mark' = refl;
  }

  both_last : (reply : Reply) → BothEnded u w (last_answered u host q reply).unit (last_answered (next_effect host w) host p reply).unit host
  both_last Good = both_succeeded
  both_last Bad = both_failed (flushes_of q.stage) (flushes_of p.stage)

-- ---- the operation that helped

-- Its last command is due,
helper_due : (slots : List Slot) (mark : Bool) (h : Helped slots mark) → is_flush (due_from mark h.request) ≡ false
helper_due slots mark h = rw (h.saved, h.stage, h.some) (last_no_flush h.request.target)

-- and it is the one that waits in its host's slot.
helper_is : (slots : List Slot) (mark : Bool) (h : Helped slots mark) (host : ℕ) (q : Request) → slot_of slots host ≡ Waiting q → h.host ≡ host
    → h.request ≡ q
helper_is slots mark h host q waits e = waiting_same h.request q (sym h.waits ∙ ap (slot_of slots) e ∙ waits)

-- ---- what it has got by then

-- the last flush's good answer
some_good : (n : ℕ) → eqb (held_at255 n) 0 ≡ false → goods n ≡ Good ∷ []
some_good zero e = absurd (true≢false e)
some_good (suc n) e = refl

-- An operation that flushes begins with none answered.
begins_at_zero : (t : Target) (without : Bool) (m : ℕ) → stage_for t without ≡ Flushing m → stage_for t without ≡ Flushing 0
begins_at_zero t without m e = begins_with t without ∙ rw (begins_flushing t without m e)

module _ (past : List Deed) (u v : Unit) (known : Known past u) (same : Same u v) where
  abbrev Here : Deed → Unit → Type 0
  Here = Stands past u v known.0 same

  -- ---- before the end

  pub begins_on : (host : ℕ) (cdb : List ℕ) (t : Target) → lowest (start_stop_rows u host cdb) ≡ Ok tt
      → Here (begins host cdb) (with_slot host (Waiting (request_for t cdb)) (rested u))
  begins_on host cdb t clear r =
      let begun = with_slot host (Waiting (request_for t cdb)) (rested u) in
      waits_on past u v known.0 same (begins host cdb) begun (refl, refl, refl, refl, λ k. refl) host (request_for t cdb)
      (own_slot u.slots host _ (inside u host known.0 (not_applies (start_stop_rows u host cdb) BadHost clear))) refl refl refl refl
      (mark_beside u.slots u.unsaved v.unsaved host _ other same.unsaved)
    where
      -- the host has nothing waiting yet
      other : (h : Helped u.slots u.unsaved) → h.host ≡ host → ⊥
      other h e =
          true≢false (sym (ap is_waiting (sym (ap (slot_of u.slots) e) ∙ h.waits)) ∙ not_applies (start_stop_rows u host cdb) OwnWaiting clear)

  pub asks_on : (host : ℕ) (q : Request) → slot_of u.slots host ≡ Waiting q → Here (hands_out host (registers_of (due_from u.unsaved q))) (next_effect host u)
  asks_on host q waits r =
      waits_on past u v known.0 same (hands_out host _) (next_effect host u) (refl, refl, refl, refl, λ k. refl) host q waits refl refl refl refl
      same.unsaved

  -- A good flush helps: the mark is clear in the real run alone, until the operation ends.
  pub flushes_on : (host : ℕ) (q : Request) → Taken u host q → Here (goes_on host Good) (flushed_well u host q).unit
  flushes_on host q taken r =
      let waits = own_slot u.slots host (Waiting (flush_counted q)) (inside u host known.0 (not_applies (answer_rows u host) BadHost taken.clear)) in
      let flushed = (flushed_well u host q).unit in
      waits_on past u v known.0 same (goes_on host Good) flushed (refl, refl, refl, refl, λ k. refl) host (flush_counted q) waits refl refl refl refl
      (inr (record {
        saved = refl;
        host = host;
        request = flush_counted q;
        waits = waits;
        count = one_more (flushes_of q.stage);
        stage = refl;
        some = one_more_some (flushes_of q.stage);
      }))

  -- ---- the end

  module _ (host : ℕ) (q : Request) (taken : Taken u host q) where
    abbrev cdb : List ℕ
    cdb = cdb_of host past

    abbrev first : Request
    first = request_for q.target cdb

    noted : NotedBy past host q
    noted = known.1 host q taken.waiting

    listed : is_listed v.drive.records cdb ≡ true
    listed =
        let fits = request_fits u.drive.records q.target q.stage (rw taken.waiting at (((unit_fine u).0 known.0).requests host)) in
        listed_when v.drive.records cdb q.target noted.unreserved noted.wants
        (subst (λ rs. target_fits rs (Some q.target) ≡ true) (sym same.records) fits)

    accepts : lowest (start_stop_rows v host cdb) ≡ Ok tt
    accepts =
        clear_when (start_stop_rows v host cdb)
        (rw (
          eq-eqb _ _ noted.six,
          not_applies (answer_rows u host) BadHost taken.clear,
          same.fine,
          quiet_out v same.fine same.quiet,
          same.quiet host,
          eq-eqb _ _ noted.opcode,
          listed,
        ))

    -- The CDB is accepted in the serial run too.
    admitted : Admitted v host cdb q
    admitted = record { fine = same.fine; quiet = same.quiet; clear = accepts; wants = noted.wants; immediate = noted.immediate }

    -- What the operation has got with this answer.
    got : (reply : Reply) (report : Report) (flush : Bool) → is_flush (due_from u.unsaved q) ≡ flush
        → answers_got host (ends host reply report ∷ past) ≡ gets flush reply (answers_got host past)
    got reply report flush f = rw (eq-eqb host host refl, sent_due past u known host q taken, f)

    ends_on : (reply : Reply) (report : Report) (answers : List Reply) (ds : List Deed) (w u' w' : Unit)
        → answers_got host (ends host reply report ∷ past) ≡ answers → RunsTo v (whole host cdb answers) ds w'
        → StandFor past (ends host reply report) ds → BothEnded u w u' w' host
        → SameMark (set u.slots host Empty) u.unsaved w.unsaved → Follows past v (ends host reply report) u'
    ends_on reply report answers ds w u' w' e runs stand both mark = record {
      ds = ds;
      v' = w';
      runs = rw e runs;
      same = record {
        fine = left_fine v w' _ ds same.fine runs;
        quiet = both.quiet;
        edition = both.edition;
        records = both.records;
        stopped = both.stopped;
        held = both.held;
        unsaved = rw (both.slots, both.mark, both.mark') mark;
        at_rest = λ quiet. (both.power, both.idle);
      };
      stand = stand;
    }

    -- An operation that is not the one that helped leaves the marks as they are beside each other.
    mark_stays : ((h : Helped u.slots u.unsaved) → h.request ≡ q → ⊥) → SameMark (set u.slots host Empty) u.unsaved v.unsaved
    mark_stays other =
        mark_beside u.slots u.unsaved v.unsaved host Empty
        (λ h e. other h (helper_is u.slots u.unsaved h host q taken.waiting e)) same.unsaved

    stand_once : (reply : Reply) (report report' : Report) (r : Registers)
        → StandFor past (ends host reply report) (begins host cdb ∷ hands_out host r ∷ ends host reply report' ∷ [])
    stand_once reply report report' r = record {
      none_refused = refl;
      same_others = refl;
      beginner = refl;
      begun = λ k. append-nil _;
      place = refl;
      over = refl;
    }

    stand_twice : (reply : Reply) (report report' : Report) (r s : Registers)
        → StandFor past (ends host reply report)
        (begins host cdb ∷ hands_out host r ∷ goes_on host Good ∷ hands_out host s ∷ ends host reply report' ∷ [])
    stand_twice reply report report' r s = record {
      none_refused = refl;
      same_others = refl;
      beginner = refl;
      begun = λ k. append-nil _;
      place = refl;
      over = refl;
    }

    -- What is waiting in the serial run at the operation's first command, and at the one after a good flush.
    abbrev begun : Unit
    begun = with_slot host (Waiting first) (rested v)

    abbrev flushed : Unit
    flushed = (flushed_well (next_effect host begun) host first).unit

    -- A bad flush: the first one in the serial run.
    pub flush_fails_on : is_flush (due_from u.unsaved q) ≡ true → (n : ℕ) (report : Report)
        → Here (ends host Bad report) (failed u host q n).unit
    flush_fails_on f n report r = on first.stage refl noted.reached
      where
        other : (h : Helped u.slots u.unsaved) → h.request ≡ q → ⊥
        other h is = true≢false (sym f ∙ ap (λ (x : Request). is_flush (due_from u.unsaved x)) (sym is) ∙ helper_due u.slots u.unsaved h)

        on : (s : Stage) → first.stage ≡ s → Reached s q.stage (flushes_answered host past) (answers_got host past)
            → Follows past v (ends host Bad report) (failed u host q n).unit
        on Straight e reached = absurd (true≢false (sym f ∙ straight_no_flush u.unsaved q reached.0))
        on (Flushing m) e reached =
            let x = failed (next_effect host begun) host first (one_more (flushes_of first.stage)) in
            ends_on Bad report (Bad ∷ []) _ begun _ x.unit (got Bad report true f)
            (whole_once v host cdb q admitted Bad x _
            (bad_flush_taken (next_effect host begun) host first (begins_at_zero q.target (no_flush cdb) m e)) refl)
            (stand_once Bad report _ _)
            (both_failed u v begun host q first same (ready_begun v host cdb q admitted) n (one_more (flushes_of first.stage)))
            (mark_stays other)

    -- The last command, after no flush or after one.
    pub last_on : is_flush (due_from u.unsaved q) ≡ false → (reply : Reply) (report : Report)
        → Here (ends host reply report) (last_answered u host q reply).unit
    last_on f reply report r = on first.stage refl noted.reached
      where
        on : (s : Stage) → first.stage ≡ s → Reached s q.stage (flushes_answered host past) (answers_got host past)
            → Follows past v (ends host reply report) (last_answered u host q reply).unit
        on Straight e reached =
            let x = last_answered (next_effect host begun) host first reply in
            ends_on reply report (reply ∷ []) _ begun _ x.unit (got reply report false f ∙ ap (gets false reply) reached.2)
            (whole_once v host cdb q admitted reply x (last_report reply first)
            (last_answered_lem (next_effect host begun) host first reply (straight_no_flush v.unsaved first e))
            (last_report_lem reply (next_effect host begun) host first))
            (stand_once reply report _ _)
            (both_last u v begun host q first same (ready_begun v host cdb q admitted) reply)
            (mark_stays (λ h is. straight_flushing h.count (sym reached.0 ∙ ap (λ (y : Request). y.stage) (sym is) ∙ h.stage)))
        on (Flushing m) e reached =
            let zero = begins_at_zero q.target (no_flush cdb) m e in
            let p = flush_counted first in
            let x = last_answered (next_effect host flushed) host p reply in
            let means = last_means (held_at255 (flushes_answered host past)) u.unsaved (last_of q.target) (rw reached.0 at f) in
            ends_on reply report (Good ∷ reply ∷ []) _ flushed _ x.unit
            (got reply report false f ∙ ap (gets false reply) (reached.1 ∙ some_good (flushes_answered host past) means.0))
            (whole_twice v host cdb q admitted zero reply x (last_report reply p)
            (last_answered_lem (next_effect host flushed) host p reply (flushed_due v host cdb q admitted))
            (last_report_lem reply (next_effect host flushed) host p))
            (stand_twice reply report _ _ _)
            (both_last u v flushed host q p same (ready_flushed v host cdb q admitted zero) reply)
            (inl (sym means.1))
