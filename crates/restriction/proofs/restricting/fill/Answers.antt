use Rattle.std.proofs.Common.{arith, refl}
use Rattle.clauses.proofs.Passes.{item_in_times}
use Rattle.restriction.proofs.Restrictions.{picking_none, picking_other, picking_nothing, picking_left}
use Rattle.restriction.proofs.restricting.fill.Goals as goal
use Rattle.restriction.proofs.restricting.fill.Goals.{then-component_of-component+in-Some, then-component_of-component+in_default, else-component_of-component}

pub loop-c-init : goal.loop-c-init
loop-c-init g c = picking_none _ _ _ _ _ _

pub component_of-requires : goal.component_of-requires
component_of-requires g c =
    let j = item_in_times g.C.AsClause.clause c.args.clauses.now c.args.times.now c.args.times.now c.requires.in_times c.loop-c-test.true c.c-item.is refl in
    omega (arith, j.target, c.target.ensures, c.requires.paces_len)

pub leftover-requires-clause-in_paces : goal.leftover-requires-clause-in_paces
leftover-requires-clause-in_paces g c =
    rw c.requires.paces_len (item_in_times g.C.AsClause.clause c.args.clauses.now c.args.times.now c.args.times.now c.requires.in_times c.loop-c-test.true c.c-item.is refl)

pub leftover-requires-clause-in_times : goal.leftover-requires-clause-in_times
leftover-requires-clause-in_times g c =
    item_in_times g.C.AsClause.clause c.args.clauses.now c.args.times.now c.args.times.now c.requires.in_times c.loop-c-test.true c.c-item.is refl

pub loop-c-preserved : goal.loop-c-preserved
loop-c-preserved g c =
    let a = c.args in
    let s = c.loop-c.invariant in
    let h = c.loop-c-test.true in
    elim c.if-component_of-component.branch [
      | then-component_of-component+in-Some w ↦
          rw (w.picked-is, w.count-is)
          (picking_left g.C.AsClause.clause a.component a.paces.now a.times.now a.clauses.now s h c.c-item.is (rw (c.component_of.ensures, c.target.ensures) at w.if-component_of-component.true) w.in-Some.ensures (omega (arith, s.few, c.requires.picked_len)))
      | then-component_of-component+in_default w ↦
          rw (w.picked-is, w.count-is)
          (picking_nothing g.C.AsClause.clause a.component a.paces.now a.times.now a.clauses.now s h c.c-item.is (rw (c.component_of.ensures, c.target.ensures) at w.if-component_of-component.true) w.in_default.ensures)
      | else-component_of-component w ↦
          rw (w.picked-is, w.count-is)
          (picking_other g.C.AsClause.clause a.component a.paces.now a.times.now a.clauses.now s h c.c-item.is (rw (c.component_of.ensures, c.target.ensures) at w.if-component_of-component.false))
    ]
