use Rattle.std.proofs.Common.{rules, ◌≡◌, length, arith, sym, refl, add-one}
use lib.Seq.{take-length}
use mir.Facts.{to_z-of_z}
use mir.Syntax.{w32}
use mir.Val.{SFits}
use Rattle.maxatom.specs.Clauses.{arms_of}
use Rattle.clauses.specs.Passes.{tautology, tautology_by}
use Rattle.clauses.proofs.Arms.{arm_in, tautology_true, tautology_more}
use Rattle.clauses.proofs.reading.is_tautology.Goals.{else-reaches-via-then-reaches+else-arm-target, else-reaches-via-else-reaches}
use Rattle.clauses.proofs.reading.is_tautology.Goals as goal

pub loop-i-init : goal.loop-i-init
unfolding tautology_by
loop-i-init g c = refl

pub returns-then-arm-target : goal.returns-then-arm-target
unfolding tautology
returns-then-arm-target g c =
    let cl = g.C.AsClause.clause c.args.c.now in
    let f : SFits w32 c.arm-arm.result.offset = search rules in
    sym
    (tautology_true cl.target (arms_of cl) (arm_in cl c.loop-i.i (omega (arith, c.arm_count-i-end.ensures, c.loop-i-test.true)))
    (rw (c.arm-arm.ensures, c.target.ensures) at c.if-arm-target.true) (rw (to_z-of_z f, c.arm-arm.ensures) at c.if-reaches.true))

pub loop-i-preserved : goal.loop-i-preserved
loop-i-preserved g c =
    let cl = g.C.AsClause.clause c.args.c.now in
    let f : SFits w32 c.arm-arm.result.offset = search rules in
    rw (add-one c.loop-i.i)
    (tautology_more cl.target (arms_of cl) c.loop-i.i cl.first c.loop-i.invariant (omega (arith, c.arm_count-i-end.ensures, c.loop-i-test.true))
    (elim c.else-reaches.branch [
      | else-reaches-via-then-reaches+else-arm-target w ↦ λ p. absurd (w.if-arm-target.false (rw (c.arm-arm.ensures, w.target.ensures) p))
      | else-reaches-via-else-reaches w ↦ λ _. rw (to_z-of_z f, c.arm-arm.ensures) at w.if-reaches.false
    ]))

pub returns : goal.returns
unfolding tautology
returns g c =
    let cl = g.C.AsClause.clause c.args.c.now in
    let whole : c.loop-i.i ≡ length (arms_of cl) = omega (arith, c.arm_count-i-end.ensures, c.loop-i.auto.i-end, c.loop-i-test.false) in
    sym (rw (whole, take-length (arms_of cl)) at c.loop-i.invariant)
