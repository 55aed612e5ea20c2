-- At each turn the bytes so far and the words from `i` on make the CDB, and the line is one if all of these words are bytes.
use mathlib.Core.Path.{◌≡◌, refl, sym, ap, ◌∙◌}
use native.Mathlib.Omega.{arith}
use borrow.Author.Tests.{le-leb, lt-leb}
use lib.ListN.{length, take, length-drop, length-set}
use lib.Seq.{take-append_seam, take-length}
use Rattle.std.proofs.Common.{rules}
use Rattle.words.specs.Words.{words}
use Rattle.commands.specs.Commands.{byte_words, cdb_in, is_cdb}
use Rattle.commands.proofs.Cdbs.{byte_word, next_word, no_more}
use Rattle.commands.proofs.cdb_in.Goals as goal

pub returns-then-len-gt40-clause-spelled : goal.returns-then-len-gt40-clause-spelled
unfolding is_cdb
returns-then-len-gt40-clause-spelled c = rw (lt-leb (length (words c.args.line.now)) 42 (omega arith)) refl

pub returns-then-len-gt40-clause-told : goal.returns-then-len-gt40-clause-told
unfolding is_cdb cdb_in
returns-then-len-gt40-clause-told c = rw (lt-leb (length (words c.args.line.now)) 42 (omega arith)) refl

pub loop-i-init : goal.loop-i-init
unfolding is_cdb
loop-i-init c = (rw (le-leb (length (words c.args.line.now)) 42 (omega arith)) refl, refl, search rules)

pub returns-in_err-b-clause-spelled : goal.returns-in_err-b-clause-spelled
returns-in_err-b-clause-spelled c =
    let line = c.args.line.now in
    let step = next_word c.loop-i.b-items (byte_words line) c.loop-i.i (rw length-drop (omega arith)) (omega arith) in
    let none = rw (← byte_word line c.loop-i.i, ← c.byte_at.ensures, c.in_err-b.was) at step in
    rw c.from_residual.ensures (sym (c.loop-i.invariant.0 ∙ none))

pub returns-in_err-b-clause-told : goal.returns-in_err-b-clause-told
unfolding cdb_in
returns-in_err-b-clause-told c =
    let line = c.args.line.now in
    let step = next_word c.loop-i.b-items (byte_words line) c.loop-i.i (rw length-drop (omega arith)) (omega arith) in
    let none = rw (← byte_word line c.loop-i.i, ← c.byte_at.ensures, c.in_err-b.was) at step in
    rw (c.from_residual.ensures, c.loop-i.invariant.0 ∙ none) refl

pub loop-i-preserved : goal.loop-i-preserved
loop-i-preserved c =
    let line = c.args.line.now in
    let step = next_word c.loop-i.b-items (byte_words line) c.loop-i.i (rw length-drop (omega arith)) (omega arith) in
    let next = rw (← byte_word line c.loop-i.i, ← c.byte_at.ensures, c.in_ok-b.was) at step in
    (c.loop-i.invariant.0 ∙ next.0, c.loop-i.invariant.1 ∙ next.1, simp (length-set, c.loop-i.invariant.2))

pub returns-clause-spelled : goal.returns-clause-spelled
returns-clause-spelled c =
    let last = no_more c.loop-i.b-items (byte_words c.args.line.now) c.loop-i.i (rw length-drop (omega arith)) in
    sym (c.loop-i.invariant.0 ∙ last.0)

pub returns-clause-told : goal.returns-clause-told
unfolding cdb_in
returns-clause-told c =
    let line = c.args.line.now in
    let last = no_more (take c.loop-i.i c.loop-i.b-items) (byte_words line) c.loop-i.i (rw length-drop (omega arith)) in
    let end : c.loop-i.i ≡ length c.loop-i.b-items = omega arith in
    let all : take c.loop-i.i c.loop-i.b-items ≡ c.loop-i.b-items = ap (λ n. take n c.loop-i.b-items) end ∙ take-length c.loop-i.b-items in
    (rw (c.loop-i.invariant.0 ∙ last.0, ← c.loop-i.invariant.2, take-append_seam) (sym (c.loop-i.invariant.1 ∙ last.1 ∙ all)), omega arith)
