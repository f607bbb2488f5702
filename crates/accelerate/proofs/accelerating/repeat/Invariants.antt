use Rattle.std.proofs.Common.{◌≡◌, length, map}
use Rattle.accelerate.specs.Acceleration.{PassesMade}
use Rattle.accelerate.proofs.accelerating.repeat.Given as goal

abbrev pub invariant-loop-t : goal.invariant-loop-t
invariant-loop-t g l =
    record { made : PassesMade (map g.C.AsClause.clause l.clauses) l.floor l.fn.times l.times l.steps; size : length l.times ≡ length l.fn.times }

abbrev pub decreases-loop-t : goal.decreases-loop-t
decreases-loop-t g l = l.t
