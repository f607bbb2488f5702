use Rattle.std.proofs.Common.{map, take}
use Rattle.maxatom.specs.Book.{Each}
use Rattle.maxatom.specs.Clauses.{Clause}
use Rattle.restriction.specs.Restriction.{ClauseAllowed}
use Rattle.restriction.proofs.lines.all_allow.Given as goal

abbrev pub invariant-loop-c : goal.invariant-loop-c
invariant-loop-c g l = Each (λ (c : Clause). ClauseAllowed c l.paces l.times l.components l.passes) (map g.C.AsClause.clause (take l.c-index l.clauses))
