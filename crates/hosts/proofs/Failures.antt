-- A line that spells a failure's sense tells of that failure and of no other: the two senses differ in their keys.
use mathlib.Core.Path.{◌≡◌, refl, sym, ◌∙◌}
use mathlib.Core.Bool.{Bool, true, false, cond, ◌&&◌, false≢true}
use mathlib.Core.List.{List}
use Prim.Native.Nat.{ℕ}
use native.Mathlib.Omega.{arith}
use borrow.Author.Tests.{eqb-true}
use Rattle.rows.proofs.Places.{and_left}
use Rattle.std.specs.Prelude.{Option, Some, None, nat_eq, unwrap_or}
use Rattle.std.specs.Option.{option_eq}
use Rattle.senses.specs.declared.Sense.{Sense}
use Rattle.requests.specs.Requests.{failure_sense}
use Rattle.requests.specs.declared.Failure.{Failure}
use Rattle.requests.specs.declared.Failure.TheVariants.{CommandSequence, NotReady}
use Rattle.words.specs.Fields.{byte_in}
use Rattle.hosts.specs.Hosts.{spells, spells_byte, failure_in}

spelled : (o : Option ℕ) (b : ℕ) → option_eq nat_eq o (Some b) ≡ true → unwrap_or o 0 ≡ b
spelled (Some n) b h = eqb-true n b h
spelled None b h = absurd (false≢true h)

key_spelled : (s : Sense) (line : List ℕ) → spells s line ≡ true → unwrap_or (byte_in 2 line) 0 ≡ s.key
key_spelled s line h =
    spelled (byte_in 2 line) s.key (and_left _ (spells_byte 3 s.asc line) (and_left (spells_byte 2 s.key line && spells_byte 3 s.asc line) _ h))

pub told_is : (f : Failure) (line : List ℕ) → spells (failure_sense f) line ≡ true → failure_in line ≡ Some f
told_is NotReady line h = rw h
told_is CommandSequence line h = rw h (on (spells (failure_sense NotReady) line) refl)
  where
    on : (b : Bool) → spells (failure_sense NotReady) line ≡ b → cond b (Some NotReady) (Some CommandSequence) ≡ Some CommandSequence
    on false e = refl
    on true e =
        let both : ◌≡◌ {A = ℕ} 0x02 0x0B = sym (key_spelled (failure_sense NotReady) line e) ∙ key_spelled (failure_sense CommandSequence) line h in
        absurd (omega arith)
