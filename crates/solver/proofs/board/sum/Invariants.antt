use Rattle.solver.proofs.Boards.{Summed}
use Rattle.solver.proofs.board.sum.Given as goal

abbrev pub invariant-loop-t : goal.invariant-loop-t
invariant-loop-t l = Summed l.times l.minutes l.t-index
