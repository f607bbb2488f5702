use Rattle.std.proofs.Common.{◌≡◌, refl, ap, ◌∙◌, arith, rules}
use Rattle.std.specs.Int.{FitsUnsignedBits}
use Rattle.std.proofs.lemmas.Int.{ints}
use lib.IntN.{ℤ, pos, negsuc, nat_abs, ◌+ℤ◌}
use lib.Signed.{◌≤ℤ◌}
use mir.Facts.{to_z-of_z}
use mir.Syntax.{w32}
use mir.Val.{SFits}
use Rattle.maxatom.specs.Rule.{time_at}
use Rattle.maxatom.specs.Clauses.{arm_time}
use Rattle.restriction.proofs.Restrictions.{pace_read}
use Rattle.restriction.proofs.Allowing.{above_of}
use Rattle.restriction.proofs.lines.above.Goals as goal

not_below : (z : ℤ) → FitsUnsignedBits 64 z → pos (nat_abs z) ≡ z
not_below (pos n) h = refl
not_below (negsuc n) h = absurd h

pub returns : goal.returns
returns c e =
    let a = c.args in
    let high_time : SFits w32 (time_at a.times.now c.from-i.result) = search rules in
    let high_offset : SFits w32 a.high.offset = search rules in
    let low_time : SFits w32 (time_at a.times.now c.from-j.result) = search rules in
    let low_offset : SFits w32 a.low.offset = search rules in
    let high : c.plus.result ≡ arm_time (time_at a.times.now) a.high = rw (to_z-of_z high_time, to_z-of_z high_offset, c.from-i.ensures) at c.plus.ensures in
    let low : c.plus-2.result ≡ arm_time (time_at a.times.now) a.low = rw (to_z-of_z low_time, to_z-of_z low_offset, c.from-j.ensures) at c.plus-2.ensures in
    let gap_is = ap pos c.in-Ok.ensures.1 ∙ not_below _ c.in-Ok.ensures.0 in
    let room : (arm_time (time_at a.times.now) a.low +ℤ pos c.in-Ok.gap) ≤ℤ arm_time (time_at a.times.now) a.high = omega (arith, ints, gap_is, high, low) in
    let slow = pace_read a.paces.now a.high.job (omega arith) in
    let fast = pace_read a.paces.now a.low.job (omega arith) in
    above_of c.in-Ok.gap room (rw (c.from-i.ensures, c.from-j.ensures, slow, fast) at (c.stays.ensures e))
