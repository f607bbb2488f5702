use Rattle.std.proofs.Common.{arith, map}
use mir.Facts.{to_z-of_z}
use lib.ListN.{length-map}
use Rattle.run.proofs.Underway.{walk_runnable, steps_few, fell_at}
use Rattle.run.proofs.passing.plain_pass.Goals as goal

pub last_step-requires-clause-runnable : goal.last_step-requires-clause-runnable
last_step-requires-clause-runnable g c = rw (to_z-of_z c.ranges.floor) (walk_runnable c.requires.runnable (rw (to_z-of_z c.ranges.floor) at c.in-Err.ensures.ends.1.walk))

pub last_step-requires-clause-low : goal.last_step-requires-clause-low
last_step-requires-clause-low g c =
    let e = c.in-Err.ensures.ends in
    (omega (arith, e.0, length-map c.args.clauses.now g.C.AsClause.clause), steps_few c.requires.runnable c.in-Err.low.at c.requires.steps_bound (rw (to_z-of_z c.ranges.floor, c.new_pass.ensures.0) at e.1))

pub returns-in-Err : goal.returns-in-Err
returns-in-Err g c =
    let e = c.in-Err.ensures.ends in
    record {
      pass_made =
          rw (to_z-of_z c.ranges.floor, c.new_pass.ensures.0) at (fell_at (map g.C.AsClause.clause c.args.clauses.now) c.in-Err.low.at e.0 e.1 e.2 c.last_step.result c.last_step.ensures);
    }
