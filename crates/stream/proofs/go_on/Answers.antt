-- What the turn answers stands in the buffer where `pace_next` says; what it prints starts anew.
use mathlib.Core.Path.{◌≡◌, ◌∙◌, ap}
use Prim.Native.Nat.{◌-◌, ◌≤◌}
use native.Mathlib.Omega.{arith}
use lib.ListN.{length, take}
use Rattle.intake.specs.Intake.{clamped, pace_next}
use Rattle.intake.proofs.Intake.{clamped_within, pace_within}
use Rattle.stream.specs.Streams.{stream_of}
use Rattle.stream.proofs.Turns.{goes_on_lem, stops, cut, cut_less}
use Rattle.stream.proofs.go_on.Goals as goal

pub returns-then-pace : goal.returns-then-pace
returns-then-pace c =
    let t = c.args.t in
    let input = c.args.input.now in
    let pace = c.pace_next-pace in
    let s = stream_of t.run c.args.line.now c.args.out.now in
    let n = clamped c.args.got 65536 in
    let told : pace.result ≡ pace_next t.run.from t.to c.args.written n = pace.ensures in
    let within : pace.result.to ≤ 65536 = rw told (pace_within t.run.from t.to c.args.written n 65536 c.requires (clamped_within c.args.got 65536)) in
    let inside : t.to ≤ length input = omega arith in
    let few : n ≤ length input = omega (arith, clamped_within c.args.got 65536) in (
      goes_on_lem input t.run.from t.to c.args.written n s t.goes pace.result told
          inside few c.feed-fed.result.from c.if-pace.true c.feed-fed.ensures.0 c.feed-fed.ensures.2,
      within,
      c.feed-fed.ensures.3,
    )

pub returns : goal.returns
returns c =
    let t = c.args.t in
    let pace = c.pace_next-pace in
    let s = stream_of t.run c.args.line.now c.args.out.now in
    let n = clamped c.args.got 65536 in
    let told : pace.result ≡ pace_next t.run.from t.to c.args.written n = pace.ensures in
    let ended = c.finish-n in
    let out = ended.new.out in
    let last = ap (λ k. take k out) c.to_write.ensures ∙ cut c.args.written ended.result out ended.ensures.0 in
    let none : 0 - pace.result.from ≡ 0 = omega arith in (
      rw none (stops c.args.input.now t.run.from t.to c.args.written n s t.goes pace.result told c.if-pace.false last),
      omega arith,
      omega (arith, c.to_write.ensures, cut_less c.args.written ended.result, ended.ensures.1),
    )
