use Rattle.restriction.proofs.Restrictions.{pick_in_times}
use Rattle.components.proofs.Merging.{ahead_more}
use Rattle.components.proofs.advancing.advance_components.Goals as goal

-- what is left of the clauses names no other jobs
pub advance-requires-clause-in_times : goal.advance-requires-clause-in_times
advance-requires-clause-in_times g c =
    rw (c.fill-count.ensures.taken, c.loop-component.auto.ahead, c.copy_from_slice.ensures.len, c.requires.paces_len.1) (pick_in_times _ _ c.args.paces.now c.args.times.now _ c.requires.in_times)

-- one component more
pub loop-component-preserved : goal.loop-component-preserved
loop-component-preserved g c =
    ahead_more c.loop-component.invariant c.in_ok-period.ensures c.fill-count.ensures.taken c.in_ok-steps.ensures c.if-steps-ge4611686018427387904.false
