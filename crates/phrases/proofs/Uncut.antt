-- No answer is cut: each piece of it has a bound, whatever its number, and the bounds of its pieces add up to less than a text's room.
use Rattle.std.proofs.Common.{Ok, Err, Some, None, Option, Result}
use mathlib.Core.Path.{◌≡◌}
use mathlib.Core.List.{[]}
use Prim.Native.Nat.{ℕ}
use native.Mathlib.Omega.{arith}
use Rattle.senses.specs.declared.Sense.{Sense}
use Rattle.refusals.specs.Refusals.{number_of, sense_of}
use Rattle.refusals.specs.declared.Refusal.{Refusal}
use Rattle.operations.specs.declared.Acceptance.{Acceptance}
use Rattle.operations.specs.declared.Acceptance.TheVariants.{GoodDue, Pending}
use Rattle.operations.specs.declared.Progress.{Progress}
use Rattle.operations.specs.declared.Progress.TheVariants.{More, Ended}
use Rattle.operations.specs.declared.Status.{Status}
use Rattle.operations.specs.declared.Status.TheVariants.{NoStatus, GoodStatus, CheckCondition}
use Rattle.words.specs.Codes.{codes}
use Rattle.digits.specs.Numerals.{pairs}
use Rattle.digits.specs.Sheets.{line_text}
use Rattle.digits.specs.Texts.{cut}
use Rattle.digits.proofs.Digits.{cut_short}
use Rattle.digits.proofs.Lengths.{Within, whole, looser, ◌then◌, hex, decimal, ended, line_uncut}
use Rattle.digits.specs.Pieces.{number_word}
use Rattle.phrases.specs.Phrases.{due_text, refused_text, called_text, accepted_text, sent_text, end_head, end_sense, progress_text, before_bytes, slashed_text}
use Rattle.refusals.specs.Refusals.{Verdict}
use Rattle.registers.specs.declared.Registers.{Registers}

-- ---- the pieces

number : (n : ℕ) → Within (number_word n) 9
number n = whole (codes " ") then hex n

sense : (s : Sense) → Within (slashed_text s) 9
unfolding pairs
sense s = whole (slashed_text s)

due : (d : Option Sense) → Within (due_text d) 9
due None = looser (omega arith) (whole (codes " -"))
due (Some s) = sense s

refused : (r : Refusal) → Within (refused_text r) 27
refused r = whole (codes "refused ") then decimal (number_of r) then due (sense_of r)

head : (status : Status) (d : Option Sense) → Within (end_head status d) 12
head GoodStatus d = looser (omega arith) (whole (codes "ok end good"))
head CheckCondition d = looser (omega arith) (whole (codes "ok end fail"))
head NoStatus None = whole (codes "ok end quiet")
head NoStatus (Some s) = looser (omega arith) (whole (codes "ok end held"))

with_sense : (d : Option Sense) → Within (end_sense d) 9
with_sense None = looser (omega arith) (whole [])
with_sense (Some s) = sense s

-- ---- the answers

called : (a : Verdict) → Within (called_text a) 127
called (Ok _) = looser (omega arith) (whole (codes "ok"))
called (Err r) = looser (omega arith) (refused r)

accepted : (a : Result Acceptance Refusal) → Within (accepted_text a) 127
accepted (Ok GoodDue) = looser (omega arith) (whole (codes "ok good"))
accepted (Ok Pending) = looser (omega arith) (whole (codes "ok pending"))
accepted (Err r) = looser (omega arith) (refused r)

sent : (n : Result Registers Refusal) → Within (sent_text n) 127
sent (Ok q) =
    looser (omega arith)
    (whole (codes "ok") then (number q.command then number q.feature then number q.count then number q.lba))
sent (Err r) = looser (omega arith) (refused r)

progress : (p : Result Progress Refusal) → Within (progress_text p) 127
progress (Ok More) = looser (omega arith) (whole (codes "ok more"))
progress (Ok (Ended r)) = looser (omega arith) (head r.status r.sense then with_sense r.sense then number r.flushes)
progress (Err r) = looser (omega arith) (refused r)

before_bytes_lem : (a : Verdict) → Within (before_bytes a) 128
before_bytes_lem (Ok _) = looser (omega arith) (whole (codes "ok "))
before_bytes_lem (Err r) = looser (omega arith) (refused r then whole (codes " buf "))

pub called_uncut : (a : Verdict) → line_text (called_text a) ≡ ended (called_text a)
called_uncut a = line_uncut (called a)

pub accepted_uncut : (a : Result Acceptance Refusal) → line_text (accepted_text a) ≡ ended (accepted_text a)
accepted_uncut a = line_uncut (accepted a)

pub sent_uncut : (n : Result Registers Refusal) → line_text (sent_text n) ≡ ended (sent_text n)
sent_uncut n = line_uncut (sent n)

pub progress_uncut : (p : Result Progress Refusal) → line_text (progress_text p) ≡ ended (progress_text p)
progress_uncut p = line_uncut (progress p)

pub before_bytes_uncut : (a : Verdict) → cut (before_bytes a) ≡ before_bytes a
before_bytes_uncut a = cut_short (before_bytes a) (before_bytes_lem a).bound
