use Rattle.std.proofs.Common.{map}
use Rattle.run.specs.Running.{Came}
use Rattle.run.proofs.run.Given as goal

abbrev pub invariant-loop-i : goal.invariant-loop-i
invariant-loop-i g l = Came l.floor (map g.C.AsClause.clause l.clauses) l.fn.times l.times 0 l.steps
