use Rattle.std.proofs.Common.{map, take}
use Rattle.std.specs.Option.{ForSome}
use Rattle.clauses.specs.Passes.{Walked, Noted}
use Rattle.clauses.proofs.passing.pass_over.Given as goal

abbrev pub invariant-loop-i : goal.invariant-loop-i
invariant-loop-i g l =
    record {
      walked : Walked l.floor (map g.C.AsClause.clause (take l.i l.clauses)) l.fn.times l.times l.fn.start.steps l.pass.steps;
      noted : ForSome l.readers (λ r. Noted r.now l.fn.times l.times l.fn.start.dirty l.pass.dirty);
    }
