use Rattle.std.proofs.Common.{arith}
use Rattle.maxatom.specs.Passes.{done}
use Rattle.clauses.proofs.Passes.{item_in_times, more_item}
use Rattle.accelerate.proofs.Locking.{lockstep_join, lockstep_few}
use Rattle.accelerate.proofs.lockstep.lockstep.Goals as goal

pub loop-c-init : goal.loop-c-init
loop-c-init g c = record { few = omega arith; made = done }

pub lockstep_on-requires : goal.lockstep_on-requires
lockstep_on-requires g c = (
  item_in_times g.C.AsClause.clause c.args.clauses.now c.args.near.now c.loop-c.near c.requires.in_near c.loop-c-test.true c.c-item.is c.loop-c.auto.near,
  item_in_times g.C.AsClause.clause c.args.clauses.now c.args.far.now c.loop-c.far c.requires.in_far c.loop-c-test.true c.c-item.is c.loop-c.auto.far,
)

pub overflow_add-steps : goal.overflow_add-steps
overflow_add-steps g c = record { fits = omega (arith, c.loop-c.invariant.few, c.loop-c-test.true, lockstep_few c.in_ok-steps.ensures) }

pub loop-c-preserved : goal.loop-c-preserved
loop-c-preserved g c =
    record {
      few = omega (arith, c.loop-c.invariant.few, lockstep_few c.in_ok-steps.ensures);
      made = rw (more_item g.C.AsClause.clause c.args.clauses.now c.c-item.result c.loop-c-test.true c.c-item.is) (lockstep_join c.loop-c.invariant.made c.in_ok-steps.ensures);
    }
