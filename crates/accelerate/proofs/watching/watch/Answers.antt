use mir.Facts.{to_z-of_z}
use Rattle.accelerate.proofs.watching.watch.Goals as goal

pub returns : goal.returns
returns g c = rw (to_z-of_z c.ranges.floor) at c.look_back.ensures
