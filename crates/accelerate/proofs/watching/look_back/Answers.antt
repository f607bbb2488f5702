use mir.Facts.{to_z-of_z}
use Rattle.accelerate.proofs.Repetitions.{made_after}
use Rattle.accelerate.proofs.watching.look_back.Goals as goal

pub returns : goal.returns
returns g c =
    rw (to_z-of_z c.ranges.floor) at (made_after c.accelerate_guessed-taken.ensures c.if-taken-gt0.false c.accelerate_guessed-taken-2.ensures)
