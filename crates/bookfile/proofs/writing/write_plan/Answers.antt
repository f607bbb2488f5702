use native.Mathlib.Omega.{arith}
use mathlib.Core.Path.{◌∙◌}
use Prim.Native.Nat.{◌+◌, ◌*◌, ◌<◌}
use lib.ListN.{length}
use Rattle.bookfile.proofs.Plans.{plan_count, plan_short, plan_passes, plan_left, plan_done}
use Rattle.bookfile.proofs.writing.write_plan.Goals as goal
use Rattle.bookfile.proofs.writing.write_plan.Goals.{then-out-at-via-then-out-at, then-out-at-via-else-out-at+then-out-at-2}

pub returns-then-jobs-lt1-clause-left : goal.returns-then-jobs-lt1-clause-left
returns-then-jobs-lt1-clause-left c = plan_left _ _ _ (plan_count _ _ _ c.then-jobs-lt1.either)

pub returns-then-out-at-clause-left : goal.returns-then-out-at-clause-left
returns-then-out-at-clause-left c =
    let h : length c.args.out.now < c.args.at + length c.args.times.now * 8 =
    elim c.then-out-at.branch [ then-out-at-via-then-out-at w ↦ omega arith | then-out-at-via-else-out-at+then-out-at-2 w ↦ omega arith ] in
    plan_left _ _ _ (plan_short _ _ _ c.if-jobs-lt1.false c.if-jobs-gt256.false h)

pub returns-clause-left : goal.returns-clause-left
returns-clause-left c = c.write_records.ensures ∙ plan_done _ _ _ (plan_passes _ _ _ c.if-jobs-lt1.false c.if-jobs-gt256.false (omega arith))
