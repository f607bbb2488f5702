use Rattle.std.proofs.Common.{rules, arith, refl}
use mir.Facts.{to_z-of_z}
use mir.Syntax.{w32}
use mir.Val.{SFits}
use Rattle.solver.proofs.Steps.{total_bound, smallest_in}
use Rattle.solver.proofs.Starting.{runnable, solved}
use Rattle.solver.proofs.bench_run.solve.Goals as goal

pub floor-requires : goal.floor-requires
floor-requires c =
    let f : SFits w32 c.smallest.result = search rules in
    record {
      bounded = rw (to_z-of_z f, c.smallest.ensures) (smallest_in c.requires.accepted);
      small = omega (arith, c.requires.k_value, total_bound c.requires.accepted);
    }

pub run-requires : goal.run-requires
run-requires c =
    rw c.copy.ensures
    (runnable c.requires.accepted c.requires.k_value (search rules) c.smallest.ensures (search rules) c.floor.ensures)

pub returns-in-Ok : goal.returns-in-Ok
returns-in-Ok c =
    solved c.requires.accepted c.requires.k_value (search rules) c.smallest.ensures (search rules) c.floor.ensures _ refl refl
    (rw c.copy.ensures at c.in-Ok.ensures)

pub returns-in-Err : goal.returns-in-Err
returns-in-Err c =
    solved c.requires.accepted c.requires.k_value (search rules) c.smallest.ensures (search rules) c.floor.ensures _ refl refl
    (rw c.copy.ensures at c.in-Err.ensures)
