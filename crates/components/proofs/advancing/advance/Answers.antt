use Rattle.std.proofs.Common.{arith, to_z-of_z}
use Rattle.components.proofs.Advances.{advanced_still, advanced_along}
use Rattle.components.proofs.advancing.advance.Goals as goal

-- at rest
pub returns-then-at_rest : goal.returns-then-at_rest
returns-then-at_rest g c =
    advanced_still c.args.passes (rw (to_z-of_z c.ranges.floor) at c.is_still.ensures c.if-not-is_still.false) (c.at_rest.ensures c.if-at_rest.true) (omega arith)

-- whole repetitions at once, and then the rest
pub returns : goal.returns
returns g c =
    advanced_along (rw (to_z-of_z c.ranges.floor) at c.in_ok-steps.ensures) (rw (to_z-of_z c.ranges.floor) at c.in_ok-more.ensures.passing) (omega arith) c.if-period-lt1.false c.if-repetitions-lt2.false
    c.plain_passes.auto.times (rw c.copy_from_slice.ensures.after at (c.all_within.ensures c.if-not-all_within.false))
