-- Reading a log page changes no record, whatever the verdict.
use Rattle.std.proofs.Common.{Ok, Err}
use mathlib.Core.Path.{◌≡◌, refl}
use mathlib.Core.List.{List}
use Prim.Native.Nat.{ℕ}
use Rattle.readouts.specs.Readouts.{filled, log_rows, log_outcome, new_page_rows, new_page_outcome, transitions_rows, transitions_outcome}
use Rattle.refusals.specs.Refusals.{lowest}
use Rattle.unit.specs.declared.Unit.{Unit}
use Rattle.answers.specs.Answers.{page_outcome}
use Rattle.answers.specs.declared.Page.{Page}
use Rattle.answers.specs.declared.Page.TheVariants.{Conditions, Transitions, Descriptors}
use Rattle.refusals.specs.Refusals.{Verdict}

kept_by : (u : Unit) (page buffer : List ℕ) (v : Verdict) → (filled u u page buffer v).called.unit ≡ u
kept_by u page buffer (Ok _) = refl
kept_by u page buffer (Err r) = refl

pub page_keeps : (page : Page) (u : Unit) (buffer : List ℕ) → (page_outcome page u buffer).called.unit ≡ u
unfolding log_outcome new_page_outcome transitions_outcome
page_keeps Conditions u buffer = kept_by u _ buffer (lowest (log_rows u buffer))
page_keeps Transitions u buffer = kept_by u _ buffer (lowest (transitions_rows u buffer))
page_keeps (Descriptors number) u buffer = kept_by u _ buffer (lowest (new_page_rows u number buffer))
