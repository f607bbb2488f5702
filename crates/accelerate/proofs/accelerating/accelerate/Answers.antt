use Rattle.std.proofs.Common.{arith, rules}
use mir.Facts.{to_z-of_z}
use Rattle.accelerate.proofs.Repetitions.{accelerated}
use Rattle.accelerate.proofs.accelerating.accelerate.Goals as goal

-- after the copy: what was tested
pub returns : goal.returns
returns g c =
    accelerated (c.dropped.ensures c.if-not-dropped.false)
    c.requires.drops_len
    (search rules)
    c.if-t-lt1.false
    c.if-t-gt536870912.false
    (c.spread.ensures c.if-not-spread.false)
    (rw (to_z-of_z c.ranges.floor) at c.in_ok-steps.ensures)
    (omega (arith, c.in_ok-steps.ensures.some))
    (search rules)
    (search rules)
    c.copy.ensures
