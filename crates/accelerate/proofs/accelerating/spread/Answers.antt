use Rattle.std.proofs.Common.{◌≡◌, ap, ◌∙◌, ℕ, pos, ◌+ℤ◌, ◌≤ℤ◌, rules, SFits, w32, w64, arith}
use mir.Facts.{to_z-of_z}
use Rattle.maxatom.specs.Rule.{time_at}
use Rattle.maxatom.proofs.Integers.{lt_false}
use Rattle.maxatom.proofs.Signed.{fits_between}
use Rattle.accelerate.proofs.Repetitions.{filled_next, earlier_le}
use Rattle.accelerate.proofs.accelerating.spread.Goals as goal

pub loop-i-preserved : goal.loop-i-preserved
loop-i-preserved c =
    let e = c.earlier-low.result in
    let p = c.product.result in
    let here : SFits w32 (time_at c.args.times.now c.loop-i.i) = search rules in
    let wide : SFits w64 e = search rules in
    -- how the far time lies below the time
    let below : time_at c.args.times.now c.loop-i.i ≡ e +ℤ pos p = rw (to_z-of_z here) at c.earlier-low.ensures in
    let floor : SFits w64 c.from.result = search rules in
    let high : c.args.floor ≤ℤ e = lt_false e c.args.floor (rw (to_z-of_z wide, to_z-of_z floor, rw (to_z-of_z c.ranges.floor) at c.from.ensures) at c.if-low-from.false) in
    let fits : SFits w32 e = fits_between c.ranges.floor here high (earlier_le e p below) in
    filled_next c.loop-i.invariant _
    (rw (to_z-of_z wide, to_z-of_z fits)
    (below ∙ ap (λ (m : ℕ). e +ℤ pos m) c.product.ensures.0)) (omega arith)
