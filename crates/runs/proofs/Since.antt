-- No write is accepted while a command is out, so a command that is out was sent after every write.
use Rattle.std.proofs.Common.{Some, None, Option}
use mathlib.Core.Path.{◌≡◌, refl, sym, ◌∙◌}
use mathlib.Core.Bool.{false, true≢false, false≢true}
use mathlib.Core.List.{List, ◌∷◌}
use Prim.Native.Nat.{ℕ, zero, suc}
use lib.ListN.{take}
use borrow.Author.Tests.{eq-eqb}
use Rattle.rows.proofs.Choices.{either}
use Rattle.registers.specs.declared.Registers.{Registers}
use Rattle.requests.specs.declared.Request.{Request}
use Rattle.unit.specs.declared.Unit.{Unit}
use Rattle.operations.specs.Operations.{one_more, flushes_of}
use Rattle.exchange.specs.Answered.{failed}
use Rattle.requests.specs.declared.Reply.TheVariants.{Bad}
use Rattle.operations.specs.declared.Report.{Report}
use Rattle.calls.specs.Calls.{Call, set_features, step}
use Rattle.calls.specs.Described.{is_write}
use Rattle.runs.specs.Deeds.{Deed, begins, hands_out, ends, does, was_aborted, was_refused, does_a}
use Rattle.runs.specs.Past.{flush_sent}
use Rattle.runs.specs.Safe.{WroteAgo}
use Rattle.runs.proofs.Deeds.{deed_at, by_deed, Leaves, sweeps, marks, passes, all_others}
use Rattle.runs.proofs.Slots.{out_same, none_out_for}

-- Among the calls since any write, the command of a host that is out reads as a flush or not just as over the whole past; so a flush that is out was
-- sent after every write.
abbrev pub SentSince : List Deed → Option ℕ → Type 0
SentSince past out = (k : ℕ) → out ≡ Some k → (i : ℕ) → WroteAgo past i → flush_sent k (take i past) ≡ flush_sent k past

-- A call that is no write and sends nothing.
since_later : (d : Deed) (past : List Deed) (out : Option ℕ) → does_a is_write d ≡ false → ((k : ℕ) (p : List Deed) → flush_sent k (d ∷ p) ≡ flush_sent k p)
    → SentSince past out → SentSince (d ∷ past) out
since_later d past out no_write sends_none since k is-out zero written = absurd (true≢false (sym written ∙ no_write))
since_later d past out no_write sends_none since k is-out (suc i) written =
    sends_none k (take i past) ∙ since k is-out i written ∙ sym (sends_none k past)

since_sent : (host : ℕ) (q : Registers) (past : List Deed) → SentSince (hands_out host q ∷ past) (Some host)
since_sent host q past k is-out zero written = absurd (false≢true written)
since_sent host q past k is-out (suc i) written = rw (eq-eqb host k (out_same host k is-out))

none_since : (past : List Deed) → SentSince past None
none_since past k is-out = none_out_for None k refl is-out

module _ (past : List Deed) (u : Unit) (since : SentSince past u.out) where
  abbrev SinceAfter : Deed → Unit → Type 0
  SinceAfter d v = SentSince (d ∷ past) v.out

  stays_since : (d : Deed) → does_a is_write d ≡ false → ((k : ℕ) (p : List Deed) → flush_sent k (d ∷ p) ≡ flush_sent k p) → SentSince (d ∷ past) u.out
  stays_since d no_write sends_none = since_later d past u.out no_write sends_none since

  failed_since : (host : ℕ) (report : Report) (q : Request) (n : ℕ) → SinceAfter (ends host Bad report) (failed u host q n).unit
  failed_since host report q n =
      either (SinceAfter (ends host Bad report)) q.immed _ _ (none_since (ends host Bad report ∷ past)) (none_since (ends host Bad report ∷ past))

  other_since : (c : Call) (v : Unit) → Leaves u c v → SinceAfter (does c) v
  other_since c v (sweeps power-on is slots none mark) = rw none (none_since (does c ∷ past))
  other_since c v (marks is none slots same mark) = rw same (λ k is-out. none_out_for u.out k none is-out)
  other_since c v (passes is slots same mark) = rw same (stays_since (does c) is.1 (λ k p. refl))

  pub sinces : (c : Call) → SinceAfter (deed_at u c) (step u c)
  sinces = by_deed SinceAfter u (record {
    refused = λ c. stays_since (was_refused c) refl (λ k p. refl);
    aborted = λ q a. stays_since (was_aborted (set_features q)) refl (λ k p. refl);
    begun = λ host cdb t clear wants. stays_since (begins host cdb) refl (λ k p. refl);
    asked = λ host q clear waits. since_sent host _ past;
    flushed = λ host q taken f. none_since _;
    flush_failed = λ host q taken f. failed_since host _ q (one_more (flushes_of q.stage));
    last_succeeded = λ host q taken f. none_since _;
    last_failed = λ host q taken f. failed_since host _ q (flushes_of q.stage);
  }) (all_others SinceAfter u (λ c v did. other_since c v did.leaves))
