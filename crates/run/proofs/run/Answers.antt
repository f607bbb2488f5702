use Rattle.std.proofs.Common.{arith, map}
use mir.Facts.{to_z-of_z}
use Rattle.std.proofs.lemmas.Result.{err_from_is_err_and}
use Rattle.run.specs.Running.{Came}
use Rattle.run.proofs.Underway.{came_few, came_runnable, came_ends, came_none, came_pass, pass_planned, pass_fell, ends_run}
use Rattle.run.proofs.run.Goals as goal
use Rattle.run.proofs.run.Goals.{At-loop-i, Left-loop-i, else-loop-i-test, then-loop-i-test+in_ok-p+else-p-steps+then-pays}

pub loop-i-init : goal.loop-i-init
loop-i-init g c = came_none _ _ c.args.times.now 0

before : (g : _) (c : At-loop-i g) → Came c.args.floor (map g.C.AsClause.clause c.args.clauses.now) c.args.times.now c.loop-i.times 0 c.loop-i.steps
before g c = rw (to_z-of_z c.ranges.floor) at c.loop-i.invariant

pub plain_pass-requires-clause-runnable : goal.plain_pass-requires-clause-runnable
plain_pass-requires-clause-runnable g c = rw (to_z-of_z c.ranges.floor) (came_runnable c.requires (before g (goal.at.plain_pass-requires-clause-runnable g c).At-loop-i))

pub plain_pass-requires-clause-steps_bound : goal.plain_pass-requires-clause-steps_bound
plain_pass-requires-clause-steps_bound g c = omega (arith, came_few c.requires (before g (goal.at.plain_pass-requires-clause-steps_bound g c).At-loop-i))

pub returns-in_err-p : goal.returns-in_err-p
returns-in_err-p g c =
    let err = err_from_is_err_and c.from_residual.result c.from_residual.ensures.1 in
    rw (err.1, err.2) (ends_run (came_ends c.requires (before g (goal.at.returns-in_err-p g c).At-loop-i) (pass_fell _ (rw (to_z-of_z c.ranges.floor) at c.in_err-p.ensures.pass_made))))

pub returns-then-p-steps : goal.returns-then-p-steps
returns-then-p-steps g c =
    let made = rw (to_z-of_z c.ranges.floor) at c.in_ok-p.ensures.pass_made in
    ends_run (came_ends c.requires (before g (goal.at.returns-then-p-steps g c).At-loop-i) (pass_planned made (omega (arith, c.if-p-steps.true))))

pub loop-i-preserved : goal.loop-i-preserved
loop-i-preserved g c = came_pass c.loop-i.invariant c.in_ok-p.ensures.pass_made c.if-p-steps.false

-- the passes before the watched ones
came : (g : _) (c : Left-loop-i g) → Came c.args.floor (map g.C.AsClause.clause c.args.clauses.now) c.args.times.now c.loop-i-test.times 0 c.loop-i-test.steps
came g c =
    elim c.loop-i-test.branch [
      | else-loop-i-test w ↦ rw (w.times-is, w.steps-is) (rw (to_z-of_z c.ranges.floor) at c.loop-i.invariant)
      | then-loop-i-test+in_ok-p+else-p-steps+then-pays w ↦
          rw (w.times-is, w.steps-is) (rw (to_z-of_z c.ranges.floor) at (came_pass c.loop-i.invariant w.in_ok-p.ensures.pass_made w.if-p-steps.false))
    ]

pub finish-requires-clause-runnable : goal.finish-requires-clause-runnable
finish-requires-clause-runnable g c = rw (to_z-of_z c.ranges.floor) (came_runnable c.requires (came g (goal.at.finish-requires-clause-runnable g c).Left-loop-i))

pub finish-requires-clause-start_bound : goal.finish-requires-clause-start_bound
finish-requires-clause-start_bound g c = omega (arith, came_few c.requires (came g (goal.at.finish-requires-clause-start_bound g c).Left-loop-i))

pub returns : goal.returns
returns g c =
    ends_run (came_ends c.requires (came g (goal.at.returns g c).Left-loop-i) (record { at = rw (to_z-of_z c.ranges.floor) at c.finish.ensures }))
