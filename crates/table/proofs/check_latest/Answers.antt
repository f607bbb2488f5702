use Rattle.table.proofs.Latest.{latest_size, latest_said}
use Rattle.table.proofs.check_latest.Goals as goal

pub returns-then-latest-jobs : goal.returns-then-latest-jobs
returns-then-latest-jobs c = rw c.into.ensures (latest_size _ _ c.if-latest-jobs.true)

pub returns-in-Some : goal.returns-in-Some
returns-in-Some c = latest_said _ _ c.if-latest-jobs.false c.in-Some.ensures

pub returns-in-None : goal.returns-in-None
returns-in-None c = latest_said _ _ c.if-latest-jobs.false c.in-None.ensures
