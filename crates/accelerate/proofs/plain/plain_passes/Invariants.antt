use Rattle.std.proofs.Common.{◌<◌, ◌^◌, map}
use Rattle.maxatom.specs.Passes.{Passing}
use Rattle.accelerate.proofs.plain.plain_passes.Given as goal

abbrev pub invariant-loop-i : goal.invariant-loop-i
invariant-loop-i g l = record { few : l.steps < 2 ^ 63; passing : Passing l.floor (map g.C.AsClause.clause l.clauses) 1 l.fn.times l.times l._i l.steps }
