use Rattle.std.proofs.Common.{◌*◌, map, take}
use Rattle.clauses.specs.Passes.{Walked}
use Rattle.run.specs.Blocks.{Settled}
use Rattle.run.proofs.passing.pass_dirty.Given as goal

abbrev pub invariant-loop-block : goal.invariant-loop-block
invariant-loop-block g l =
    let cs = map g.C.AsClause.clause l.clauses in
    record { walked : Walked l.floor (take (l.block * 16) cs) l.fn.times l.times l.fn.start.steps l.pass.steps; settled : Settled cs l.times l.pass.dirty }
