-- What is copied stands behind the bytes that were there.
use mathlib.Core.Path.{◌≡◌, ◌∙◌}
use Prim.Native.Nat.{◌+◌}
use native.Mathlib.Omega.{arith}
use lib.ListN.{length, take}
use Rattle.std.proofs.Common.{rules}
use Rattle.std.proofs.lemmas.Slice.{take-put_mid}
use Rattle.words.proofs.Room.{filled}
use Rattle.words.proofs.append.Goals as goal

pub returns : goal.returns
returns c =
    let start = c.min-start in
    let count = c.min-count in
    let line = c.args.line.now in
    let more = c.args.more.now in
    let new = c.copy_from_slice.new.self in
    let copied : new ≡ take count.result more = search rules in
    let long : start.result + count.result ≡ start.result + length new = search rules in (
      take-put_mid start.result _ line new (start.result + count.result) long (omega arith)
          ∙ rw copied (filled line more c.args.len start.result count.result start.ensures count.ensures),
      search rules,
    )
