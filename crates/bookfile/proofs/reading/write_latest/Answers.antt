use mathlib.Core.Path.{sym, ap, ◌∙◌}
use Prim.Native.Nat.{ℕ}
use lib.IntN.{pos}
use lib.ListN.{replicate}
use Rattle.bookfile.specs.declared.reading.LatestTime.{LatestTime}
use native.Mathlib.Omega.{arith}
use mir.Facts.{to_z-of_z}
use mir.Syntax.{w32}
use mir.Val.{SFits}
use Rattle.std.proofs.Common.{rules}
use Rattle.bookfile.proofs.Filling.{filled_none, turn, filled_all}
use Rattle.bookfile.proofs.reading.write_latest.Goals as goal

pub loop-time-init : goal.loop-time-init
loop-time-init c =
    filled_none _ _ c.requires.listed (c.fill.ensures.after (λ y e. e) ∙ ap (λ (n : ℕ). replicate n (pos 0)) c.requires.latest_len)

pub decoded_latest-time-requires : goal.decoded_latest-time-requires
decoded_latest-time-requires c = (turn c.loop-time.invariant (sym c.loop-time-test.ensures)).inside

pub bounds-latest-from : goal.bounds-latest-from
bounds-latest-from c = rw (c.from.ensures, c.decoded_latest-time.ensures) (turn c.loop-time.invariant (sym c.loop-time-test.ensures)).below

pub loop-time-smaller : goal.loop-time-smaller
loop-time-smaller c = omega (arith, (turn c.loop-time.invariant (sym c.loop-time-test.ensures)).inside)

pub loop-time-preserved : goal.loop-time-preserved
loop-time-preserved c =
    let f : SFits w32 c.decoded_latest-time.result.minute = search rules in
    (turn c.loop-time.invariant (sym c.loop-time-test.ensures)).next
    (c.from.ensures ∙ ap (λ (t : LatestTime). t.job) c.decoded_latest-time.ensures)
    (to_z-of_z f ∙ ap (λ (t : LatestTime). t.minute) c.decoded_latest-time.ensures)

pub returns : goal.returns
returns c = filled_all c.loop-time.invariant (sym c.loop-time-test.ensures)
