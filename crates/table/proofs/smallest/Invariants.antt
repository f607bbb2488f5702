use Rattle.table.proofs.Latest.{Least}
use Rattle.table.proofs.smallest.Given as goal

abbrev pub invariant-loop-t : goal.invariant-loop-t
invariant-loop-t l = Least l.latest l.least l.t-index
