use Rattle.std.proofs.Common.{refl}
use Rattle.clauses.proofs.Passes.{item_in_times}
use Rattle.components.proofs.guessing.label.Goals as goal

pub join_clause-requires-clause-in_jobs : goal.join_clause-requires-clause-in_jobs
join_clause-requires-clause-in_jobs g c =
    item_in_times g.C.AsClause.clause c.args.clauses.now c.args.times.now c.args.times.now c.requires.in_times c.loop-c-test.true c.c-item.is refl
