use Rattle.std.proofs.Common.{◌≡◌, false, take}
use Rattle.maxatom.specs.Clauses.{arms_of}
use Rattle.clauses.specs.Passes.{tautology_by}
use Rattle.clauses.proofs.reading.is_tautology.Given as goal

abbrev pub invariant-loop-i : goal.invariant-loop-i
invariant-loop-i g l = let c = g.C.AsClause.clause l.c in tautology_by c.target (take l.i (arms_of c)) ≡ false
