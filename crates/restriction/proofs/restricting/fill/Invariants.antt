use Rattle.std.proofs.Common.{length}
use Rattle.restriction.proofs.Restrictions.{Picked}
use Rattle.restriction.proofs.restricting.fill.Given as goal

abbrev pub invariant-loop-c : goal.invariant-loop-c
invariant-loop-c g l = Picked g.C.AsClause.clause l.component l.paces l.times l.clauses (length l.fn.picked) l.picked l.count l.c-index
