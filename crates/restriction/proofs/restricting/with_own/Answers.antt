use Rattle.std.proofs.Common.{◌<◌, length, arith, sym}
use Rattle.maxatom.specs.Clauses.{arms_of}
use Rattle.restriction.proofs.Restrictions.{done_none, done_own, done_other, done_with}
use Rattle.restriction.proofs.restricting.with_own.Goals as goal
use Rattle.restriction.proofs.restricting.with_own.Goals.{then-not-is_own, else-not-is_own}

pub loop-i-init : goal.loop-i-init
loop-i-init g c = done_none c.args.paces.now (g.C.AsClause.clause c.args.c.now) c.args.first

pub with_arm-d-requires : goal.with_arm-d-requires
with_arm-d-requires g c =
    (omega (arith, c.loop-i.invariant.size, c.arm_count-i-end.ensures, c.loop-i-test.true), omega (arith, c.loop-i.invariant.size, c.requires.in_range))

pub loop-i-preserved : goal.loop-i-preserved
loop-i-preserved g c =
    let cl = g.C.AsClause.clause c.args.c.now in
    let h : c.loop-i.i < length (arms_of cl) = omega (arith, c.arm_count-i-end.ensures, c.loop-i-test.true) in
    elim c.if-not-is_own.branch [
      | then-not-is_own w ↦
          rw w.d-is
          (done_other c.args.paces.now cl c.args.first c.loop-i.invariant h c.requires.in_range c.requires.is_own (sym (rw c.arm.ensures at w.if-not-is_own.ensures)) w.with_arm-d.ensures)
      | else-not-is_own w ↦ rw w.d-is (done_own c.args.paces.now cl c.args.first c.loop-i.invariant (sym (rw c.arm.ensures at w.if-not-is_own.ensures)))
    ]

pub returns : goal.returns
returns g c = done_with c.args.paces.now (g.C.AsClause.clause c.args.c.now) c.args.first c.loop-i.invariant (omega (arith, c.arm_count-i-end.ensures, c.loop-i-test.false))
