use Rattle.std.proofs.Common.{◌≤◌, map, take}
use Rattle.maxatom.specs.Passes.{Lockstep}
use Rattle.accelerate.proofs.lockstep.lockstep.Given as goal

abbrev pub invariant-loop-c : goal.invariant-loop-c
invariant-loop-c g l =
    record {
      few : l.steps ≤ l.c-index;
      made : Lockstep l.floor (map g.C.AsClause.clause (take l.c-index l.clauses)) l.fn.near l.fn.far l.near l.far l.steps;
    }
