use Rattle.std.proofs.Common.{arith, ℕ, ◌+◌, List, ℤ, map}
use mir.Facts.{to_z-of_z}
use Rattle.std.proofs.lemmas.Result.{err_from_is_err_and}
use Rattle.run.specs.Running.{Came}
use Rattle.run.proofs.Underway.{came_room, came_few, came_runnable, came_ends, came_none, came_pass, came_passes, pass_planned, pass_fell, still_settled}
use Rattle.run.proofs.finish.Goals as goal
use Rattle.run.proofs.finish.Goals.{At-loop-p, After-advance_on-taken}

pub loop-p-init : goal.loop-p-init
loop-p-init g c = record { came = came_none _ _ c.args.times.now c.args.start; settled = λ x e. cc }

came : (g : _) (c : At-loop-p g) → Came c.args.floor (map g.C.AsClause.clause c.args.clauses.now) c.args.times.now c.loop-p.times c.args.start c.loop-p.steps
came g c = rw (to_z-of_z c.ranges.floor) at c.loop-p.invariant.came

pub one_pass-requires-clause-runnable : goal.one_pass-requires-clause-runnable
one_pass-requires-clause-runnable g c = rw (to_z-of_z c.ranges.floor) (came_runnable c.requires.runnable (came g (goal.at.one_pass-requires-clause-runnable g c).At-loop-p))

pub one_pass-requires-clause-steps_bound : goal.one_pass-requires-clause-steps_bound
one_pass-requires-clause-steps_bound g c = omega (arith, came_few c.requires.runnable (came g (goal.at.one_pass-requires-clause-steps_bound g c).At-loop-p), c.requires.start_bound)

pub returns-in_err-p : goal.returns-in_err-p
returns-in_err-p g c =
    let err = err_from_is_err_and c.from_residual.result c.from_residual.ensures.1 in
    rw (err.1, err.2) (came_ends c.requires.runnable (came g (goal.at.returns-in_err-p g c).At-loop-p) (pass_fell _ (rw (to_z-of_z c.ranges.floor) at c.in_err-p.ensures.pass_made))).at

pub returns-then-made-eq0 : goal.returns-then-made-eq0
returns-then-made-eq0 g c =
    let made = rw (to_z-of_z c.ranges.floor) at c.in_ok-p.ensures.pass_made in
    (came_ends c.requires.runnable (came g (goal.at.returns-then-made-eq0 g c).At-loop-p) (pass_planned made (omega (arith, made.counted, c.if-made-eq0.true)))).at

pub overflow_sub-made : goal.overflow_sub-made
overflow_sub-made g c = omega (arith, c.in_ok-p.ensures.pass_made.counted)

-- a pass with a step, and those taken at once after it
next : {s : ℕ} {b : List ℤ} (g : _) (c : After-advance_on-taken g) → Came c.args.floor (map g.C.AsClause.clause c.args.clauses.now) b c.loop-p.times s c.loop-p.steps →
    Came c.args.floor (map g.C.AsClause.clause c.args.clauses.now) b c.advance_on-taken.new.times s (c.in_ok-p.p.steps + c.advance_on-taken.result)
next g c came =
    came_passes (came_pass came (rw (to_z-of_z c.ranges.floor) at c.in_ok-p.ensures.pass_made) (λ e. c.if-made-eq0.false (omega (arith, e)))) (rw (to_z-of_z c.ranges.floor) at c.advance_on-taken.ensures)

pub overflow_add-steps : goal.overflow_add-steps
overflow_add-steps g c =
    let at = goal.at.overflow_add-steps g c in
    record { fits = omega (arith, came_few c.requires.runnable (next g at.After-advance_on-taken (came g at.At-loop-p)), c.requires.start_bound, c.in_ok-p.ensures.pass_made.counted) }

pub loop-p-smaller : goal.loop-p-smaller
loop-p-smaller g c =
    let at = goal.at.loop-p-smaller g c in
    let taken = came_room (came_runnable c.requires.runnable (came g at.At-loop-p)) (next g at.After-advance_on-taken (came_none c.args.floor _ c.loop-p.times c.loop-p.steps)) in
    rw (to_z-of_z c.ranges.floor) (omega (arith, taken, c.if-made-eq0.false))

pub loop-p-preserved : goal.loop-p-preserved
loop-p-preserved g c =
    record {
      came = came_passes (came_pass c.loop-p.invariant.came c.in_ok-p.ensures.pass_made (λ e. c.if-made-eq0.false (omega (arith, e)))) c.advance_on-taken.ensures;
      settled = λ x e.
          let valid = c.dirty_after-dirty.ensures x e in
          rw valid.2 (still_settled c.advance_on-taken.ensures valid.1 (c.in_ok-p.ensures.settled_after _ (rw valid.0 at c.then_some.ensures)));
    }
