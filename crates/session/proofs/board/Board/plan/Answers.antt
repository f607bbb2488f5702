use Rattle.std.proofs.Common.{arith, ◌*◌, sym, length, length-take-le, replicate}
use Rattle.session.specs.Turns.{turn, reply_text}
use Rattle.session.proofs.Turns.{plan_fits, plan_is}
use Rattle.session.proofs.board.Board.plan.Goals as goal

pub slice_bounds-bytes-end : goal.slice_bounds-bytes-end
slice_bounds-bytes-end c = let room = plan_fits c.args.self.now.times.now (replicate 2048 0) c.in-Ok.ensures.said in omega (arith, room, c.write_plan.auto.out)

pub slice_bounds-write_hexadecimal-end : goal.slice_bounds-write_hexadecimal-end
slice_bounds-write_hexadecimal-end c =
    let room = plan_fits c.args.self.now.times.now (replicate 2048 0) c.in-Ok.ensures.said in
    sym (length-take-le (8 * length c.args.self.now.times.now) c.write_plan.new.out (omega (arith, room, c.write_plan.auto.out)))

pub returns-in-Ok-clause-written : goal.returns-in-Ok-clause-written
unfolding turn reply_text
returns-in-Ok-clause-written c =
    rw (
      ← c.in-Ok.ensures.said,
      ← plan_is c.args.self.now.times.now (replicate 2048 0) c.in-Ok.ensures.said c.in-Ok.ensures.left,
    )
    c.write_hexadecimal.ensures.written
