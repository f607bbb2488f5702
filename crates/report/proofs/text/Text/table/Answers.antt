use Rattle.std.proofs.Common.{rules}
use mir.Facts.{to_z-of_z}
use mir.Syntax.{w32}
use mir.Val.{SFits}
use Rattle.derivation.specs.Step.{rule_at}
use Rattle.report.specs.Report.{none_text}
use Rattle.report.proofs.Reports.{summed_next, summed_all, table_plan, table_none}
use Rattle.report.proofs.text.Text.table.Goals as goal

pub loop-r-preserved : goal.loop-r-preserved
loop-r-preserved c =
    let f : SFits w32 (rule_at c.args.rules.now c.loop-r.r-index).k = search rules in
    rw (rw (to_z-of_z f) at c.unsigned_abs-k.ensures.value) (summed_next c.requires.accepted c.loop-r.invariant c.loop-r-test.true)

pub solve-requires-clause-k_value : goal.solve-requires-clause-k_value
solve-requires-clause-k_value c = summed_all c.requires.accepted c.loop-r.invariant c.loop-r-test.false

pub plan-requires-clause-k_value : goal.plan-requires-clause-k_value
plan-requires-clause-k_value c = summed_all c.requires.accepted c.loop-r.invariant c.loop-r-test.false

pub plan-requires-clause-bounds : goal.plan-requires-clause-bounds
plan-requires-clause-bounds c = (rw (c.solve.auto.times, c.requires.room) c.requires.accepted.few, c.requires.accepted.short)

pub plan-requires-clause-rules_in : goal.plan-requires-clause-rules_in
plan-requires-clause-rules_in c = rw (c.solve.auto.times, c.requires.room) c.requires.accepted.rules_in

pub returns-in-Plan-clause-written : goal.returns-in-Plan-clause-written
returns-in-Plan-clause-written c =
    rw (← table_plan _ _ c.requires.accepted c.requires.room _ _ c.solve.ensures c.in-Plan.is) c.plan.ensures.written

pub returns-in-None-clause-written : goal.returns-in-None-clause-written
unfolding none_text
returns-in-None-clause-written c =
    rw (
      ← table_none _ _ c.requires.accepted c.requires.room _ _ c.solve.ensures c.in-None.is,
      ← summed_all c.requires.accepted c.loop-r.invariant c.loop-r-test.false,
    )
    c.none.ensures.written
