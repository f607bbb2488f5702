use Rattle.std.proofs.Common.{to_z-of_z}
use Rattle.accelerate.proofs.Repetitions.{made_after}
use Rattle.components.proofs.advance_on.Goals as goal

-- the watch made no passes, so these are all
pub returns-then-steps-gt0 : goal.returns-then-steps-gt0
returns-then-steps-gt0 g c = rw (to_z-of_z c.ranges.floor) at (made_after c.watch-repeated.ensures c.if-repeated-gt0.false c.try_apart-steps.ensures)

pub returns-else-steps-gt0 : goal.returns-else-steps-gt0
returns-else-steps-gt0 g c = rw (to_z-of_z c.ranges.floor) at (made_after c.watch-repeated.ensures c.if-repeated-gt0.false c.try_apart-steps.ensures)
