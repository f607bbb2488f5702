use Rattle.restriction.proofs.Restrictions.{pick_in_times}
use Rattle.components.proofs.guessing.measure_component.Goals as goal

-- what is left of the clauses names no other jobs
pub find_period-requires : goal.find_period-requires
find_period-requires g c = record {
  in_times = rw (c.fill-count.ensures.taken, c.copy_from_slice.ensures.after) (pick_in_times _ _ c.args.paces.now c.args.times.now _ c.requires.in_times);
  few = rw c.copy_from_slice.ensures.after c.requires.sizes.1;
}

pub plain_passes-requires : goal.plain_passes-requires
plain_passes-requires g c = record {
  in_times = rw (c.fill-count.ensures.taken, c.copy_from_slice-2.ensures.after) (pick_in_times _ _ c.args.paces.now c.args.times.now _ c.requires.in_times);
}
