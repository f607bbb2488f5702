use Rattle.std.proofs.Common.{◌<◌, length}
use Rattle.clauses.proofs.Arms.{arm_each}
use Rattle.components.proofs.guessing.close_job.Goals as goal

pub is_close-requires : goal.is_close-requires
is_close-requires g c =
    rw c.arm-arm.ensures (arm_each (λ a. a.job < length c.args.times.now) (g.C.AsClause.clause c.args.c.now) c.args.i c.requires.in_jobs.arms c.requires.in_range)
