use Rattle.std.proofs.Common.{◌∙◌}
use Rattle.std.proofs.lemmas.List.{take_all}
use mir.Facts.{to_z-of_z}
use Rattle.solver.proofs.Boards.{floor_any}
use Rattle.solver.proofs.board.below_floor.Goals as goal

pub returns : goal.returns
returns c = rw (to_z-of_z c.ranges.floor, take_all _ _ c.loop-t-test.false) at c.loop-t.invariant ∙ floor_any c.args.floor c.args.times.now
