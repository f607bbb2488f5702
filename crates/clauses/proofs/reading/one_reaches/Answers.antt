use Rattle.std.proofs.Common.{rules, arith}
use Rattle.maxatom.specs.Rule.{time_at}
use Rattle.clauses.proofs.Arms.{arm_in, below_told}
use Rattle.clauses.proofs.reading.one_reaches.Goals as goal

pub returns-then-b-plus : goal.returns-then-b-plus
returns-then-b-plus g c e =
    let cl = g.C.AsClause.clause c.args.c.now in
    let a = c.arm-arm.result in
    record {
      arm = a;
      among = rw c.arm-arm.ensures (arm_in cl c.loop-i.i (omega (arith, c.arm_count-i-end.ensures, c.loop-i-test.true)));
      near_reached = below_told (time_at c.args.near.now a.job) a.offset c.args.a c.plus.ensures c.if-a-plus.true (search rules) (search rules) (search rules) (search rules);
      far_reached = below_told (time_at c.args.far.now a.job) a.offset c.args.b c.plus-then-a-plus.ensures c.if-b-plus.true (search rules) (search rules) (search rules) (search rules);
    }
