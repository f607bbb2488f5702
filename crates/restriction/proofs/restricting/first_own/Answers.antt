use Rattle.std.proofs.Common.{◌<◌, length, arith, sym}
use Rattle.maxatom.specs.Clauses.{arms_of}
use Rattle.restriction.proofs.Restrictions.{first_at, first_none}
use Rattle.restriction.proofs.restricting.first_own.Goals as goal

pub returns-then-is_own-clause-first : goal.returns-then-is_own-clause-first
returns-then-is_own-clause-first g c =
    let cl = g.C.AsClause.clause c.args.c.now in
    let h : c.loop-i.i < length (arms_of cl) = omega (arith, c.arm_count-i-end.ensures, c.loop-i-test.true) in
    first_at c.args.paces.now cl (arms_of cl) c.loop-i.i cl.first h c.loop-i.invariant (sym (rw c.arm.ensures at c.if-is_own.ensures))

pub returns-clause-first : goal.returns-clause-first
returns-clause-first g c =
    let cl = g.C.AsClause.clause c.args.c.now in
    first_none c.args.paces.now cl (arms_of cl) cl.first (λ k h. c.loop-i.invariant k (omega (arith, c.arm_count-i-end.ensures, c.loop-i-test.false)))
