use Rattle.std.proofs.Common.{rules, arith}
use mir.Facts.{to_z-of_z}
use mir.Syntax.{w32, w64}
use mir.Val.{SFits}
use Rattle.maxatom.specs.Rule.{time_at}
use Rattle.solver.proofs.Boards.{summed_next, sum_room, summed_all, summed_bound}
use Rattle.solver.proofs.board.sum.Goals as goal

pub overflow_add-minutes : goal.overflow_add-minutes
overflow_add-minutes c =
    let f : SFits w32 (time_at c.args.times.now c.loop-t.t-index) = search rules in
    let g : SFits w64 c.from-minutes.result = search rules in
    rw (to_z-of_z g, c.from-minutes.ensures, to_z-of_z f) (sum_room c.loop-t.invariant (omega arith) c.requires f)

pub loop-t-preserved : goal.loop-t-preserved
loop-t-preserved c =
    let f : SFits w32 (time_at c.args.times.now c.loop-t.t-index) = search rules in
    let g : SFits w64 c.from-minutes.result = search rules in
    let sum = summed_next c.loop-t.invariant (omega arith) c.requires f in
    rw (to_z-of_z g, c.from-minutes.ensures, to_z-of_z f, to_z-of_z (sum_room c.loop-t.invariant (omega arith) c.requires f)) sum

pub returns-clause-value : goal.returns-clause-value
returns-clause-value c = summed_all c.loop-t.invariant (omega arith)

pub returns-clause-bound : goal.returns-clause-bound
returns-clause-bound c = summed_bound c.loop-t.invariant c.requires
