use Rattle.std.proofs.Common.{rules, length, length-append, pos}
use mir.Facts.{to_z-of_z}
use mir.Syntax.{w32}
use mir.Val.{SFits}
use Rattle.std.proofs.lemmas.Slice.Zip.{zip_turn, zip_end}
use Rattle.maxatom.specs.Rule.{time_at}
use Rattle.solver.proofs.Boards.{ranged_next, ranged_all}
use Rattle.solver.proofs.board.in_range.Goals as goal

pub loop-l-preserved : goal.loop-l-preserved
loop-l-preserved c =
    let (h, q, l, t) = zip_turn c.args.latest.now c.args.times.now c.loop-l.yielded c.into_iter-l-iterator.result c.loop-l.l-iterator c.next.new.self _ (search rules) (search rules) c.loop-l.yielded_by _ c.in-Some.is c.next.ensures.steps in
    let f : SFits w32 (time_at c.args.latest.now (length c.loop-l.yielded)) = search rules in
    let g : SFits w32 (time_at c.args.times.now (length c.loop-l.yielded)) = search rules in
    rw (length-append, l (pos 0), t (pos 0), to_z-of_z f, to_z-of_z g) (ranged_next _ _ _ c.loop-l.invariant h q)

pub returns : goal.returns
returns c =
    rw (to_z-of_z c.ranges.low) at
    (ranged_all _ _ _ c.loop-l.invariant
    (zip_end c.args.latest.now c.args.times.now c.loop-l.yielded c.into_iter-l-iterator.result c.loop-l.l-iterator c.next.new.self _ (search rules) (search rules) c.loop-l.yielded_by c.in-None.is c.next.ensures.steps))
