use Rattle.std.proofs.Common.{map}
use Rattle.accelerate.specs.Acceleration.{InLockstep}
use Rattle.accelerate.proofs.lockstep.lockstep_passes.Given as goal

abbrev pub invariant-loop-i : goal.invariant-loop-i
invariant-loop-i g l = InLockstep (map g.C.AsClause.clause l.clauses) l.floor l.fn.near l.fn.far l.near l.far l._i l.steps
