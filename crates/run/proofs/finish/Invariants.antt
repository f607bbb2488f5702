use Rattle.std.proofs.Common.{map}
use Rattle.std.specs.Option.{ForSome}
use Rattle.maxatom.specs.Runs.{room}
use Rattle.run.specs.Blocks.{Settled}
use Rattle.run.specs.Running.{Came}
use Rattle.run.proofs.finish.Given as goal

abbrev pub invariant-loop-p : goal.invariant-loop-p
invariant-loop-p g l =
    let cs = map g.C.AsClause.clause l.clauses in
    record {
      came : Came l.floor cs l.fn.times l.times l.fn.start l.steps;
      settled : ForSome l.dirty (λ d. Settled cs l.times d);
    }

abbrev pub decreases-loop-p : goal.decreases-loop-p
decreases-loop-p g l = room l.floor l.times
