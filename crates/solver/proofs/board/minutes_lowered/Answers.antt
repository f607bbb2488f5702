use Rattle.std.proofs.Common.{rules}
use mir.Facts.{to_z-of_z}
use mir.Syntax.{w64}
use mir.Val.{SFits}
use Rattle.solver.proofs.Boards.{difference_fits}
use Rattle.solver.proofs.board.minutes_lowered.Goals as goal

pub overflow_sub-result : goal.overflow_sub-result
overflow_sub-result c =
    let f : SFits w64 c.sum.result = search rules in
    let g : SFits w64 c.sum-2.result = search rules in
    rw (to_z-of_z f, to_z-of_z g) (difference_fits c.sum.result c.sum-2.result c.sum.ensures.bound c.sum-2.ensures.bound)
