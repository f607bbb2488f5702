use Rattle.std.proofs.Common.{arith}
use Rattle.maxatom.specs.Clauses.{arms_of}
use Rattle.maxatom.proofs.Lists.{place_each}
use Rattle.restriction.proofs.lines.others_covered.Goals as goal

pub returns : goal.returns
returns g c e =
    let cl = g.C.AsClause.clause c.args.c.now in
    place_each _ (arms_of cl) cl.first (λ k h. c.loop-i.invariant k (omega (arith, c.arm_count-i-end.ensures, c.loop-i-test.false)))
