use Rattle.std.proofs.Common.{refl, arith}
use Rattle.clauses.proofs.Arms.{arm_in}
use Rattle.restriction.proofs.lines.has_keeper.Goals as goal

pub returns-then-above : goal.returns-then-above
returns-then-above g c e =
    let cl = g.C.AsClause.clause c.args.c.now in
    record {
      arm = c.arm.result;
      within = rw c.arm.ensures (arm_in cl c.loop-i.i (omega (arith, c.arm_count-i-end.ensures, c.loop-i-test.true)));
      above = rw c.target.ensures at (c.if-above.ensures refl);
    }
