use mir.Facts.{to_z-of_z}
use Rattle.report.specs.Report.{job_line}
use Rattle.report.proofs.Texts.{writes_then}
use Rattle.report.proofs.text.Text.job_line.Goals as goal

pub returns-clause-written : goal.returns-clause-written
unfolding job_line
returns-clause-written c = writes_then c.word.ensures.written (writes_then c.field.ensures.written (writes_then (rw (to_z-of_z c.ranges.time) at c.signed.ensures.written) c.word-2.ensures.written))
