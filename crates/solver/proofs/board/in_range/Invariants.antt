use Rattle.std.proofs.Common.{length}
use Rattle.solver.proofs.Boards.{Ranged}
use Rattle.solver.proofs.board.in_range.Given as goal

abbrev pub invariant-loop-l : goal.invariant-loop-l
invariant-loop-l l = Ranged l.low l.latest l.times (length l.yielded) l.legal
