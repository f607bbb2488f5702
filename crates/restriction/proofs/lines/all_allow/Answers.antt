use Rattle.std.proofs.Common.{refl}
use Rattle.std.proofs.lemmas.List.{take_all}
use Rattle.clauses.proofs.Passes.{item_in_times, more_item}
use Rattle.maxatom.proofs.Lists.{each_join}
use Rattle.restriction.proofs.Allowing.{all_allowed}
use Rattle.restriction.proofs.lines.all_allow.Goals as goal

pub allows-requires-clause-in_jobs : goal.allows-requires-clause-in_jobs
allows-requires-clause-in_jobs g c =
    item_in_times g.C.AsClause.clause c.args.clauses.now c.args.times.now c.args.times.now c.requires.in_times c.loop-c-test.true c.c-item.is refl

pub loop-c-preserved : goal.loop-c-preserved
loop-c-preserved g c =
    rw (more_item g.C.AsClause.clause c.args.clauses.now c.c-item.result c.loop-c-test.true c.c-item.is)
    (each_join _ _ _ c.loop-c.invariant (c.if-not-allows.ensures refl, tt))

pub returns : goal.returns
returns g c e =
    all_allowed (rw (take_all c.loop-c.c-index c.args.clauses.now c.loop-c-test.false) at c.loop-c.invariant)
