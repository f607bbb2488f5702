use Rattle.restriction.proofs.Restrictions.{Done}
use Rattle.restriction.proofs.restricting.with_own.Given as goal

abbrev pub invariant-loop-i : goal.invariant-loop-i
invariant-loop-i g l = Done l.paces (g.C.AsClause.clause l.c) l.first l.i (g.C.AsClause.clause l.d)
