use Rattle.planner.proofs.Answering.{all_in_jobs, kept_answered}
use Rattle.planner.proofs.kept.first_violated.Goals as goal

pub find_violated-requires : goal.find_violated-requires
find_violated-requires c = all_in_jobs _ _ c.in_ok-check.ensures

pub returns : goal.returns
returns c = kept_answered _ _ c.in_ok-check.ensures c.find_violated.ensures
