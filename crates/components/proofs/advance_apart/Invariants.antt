use Rattle.std.proofs.Common.{map}
use Rattle.accelerate.specs.Acceleration.{PassesMade}
use Rattle.components.proofs.advance_apart.Given as goal

-- the passes made so far
abbrev pub invariant-loop-found : goal.invariant-loop-found
invariant-loop-found g l = PassesMade (map g.C.AsClause.clause l.clauses) l.floor l.initial.times l.times l.steps

abbrev pub decreases-loop-found : goal.decreases-loop-found
decreases-loop-found g l = l.passes
