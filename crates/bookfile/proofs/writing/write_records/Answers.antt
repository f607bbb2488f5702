use native.Mathlib.Omega.{arith}
use mathlib.Core.Path.{◌∙◌}
use lib.IntN.{pos}
use lib.ListN.{get_or}
use Rattle.maxatom.proofs.Signed.{told}
use Rattle.bookfile.proofs.Plans.{put_next, put_all}
use Rattle.bookfile.proofs.writing.write_records.Goals as goal

pub loop-job-preserved : goal.loop-job-preserved
loop-job-preserved c =
    put_next c.requires.times_in_bounds c.loop-job.invariant (omega arith)
    (c.copy_from_slice.ensures.after ∙ rw (told {z = get_or c.args.times.now c.loop-job.job (pos 0)} (omega arith)) at c.plan_record.ensures)

pub returns : goal.returns
returns c = put_all c.requires.times_in_bounds c.loop-job.invariant (omega arith)
