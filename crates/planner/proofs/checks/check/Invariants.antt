use Rattle.maxatom.specs.Book.{book}
use Rattle.planner.proofs.Checking.{Checked}
use Rattle.planner.proofs.checks.check.Given as goal

abbrev pub invariant-loop-i : goal.invariant-loop-i
invariant-loop-i l = Checked (book l.n l.latest l.rules) l.times l.i-counter l.k
