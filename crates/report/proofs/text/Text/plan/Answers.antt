use Rattle.std.proofs.Common.{sym}
use Rattle.report.specs.Report.{plan_text}
use Rattle.report.proofs.Texts.{writes_then}
use Rattle.report.proofs.text.Text.plan.Goals as goal

pub returns-clause-written : goal.returns-clause-written
unfolding plan_text
returns-clause-written c = rw (sym c.requires.k_value) (writes_then (rw c.from.ensures at c.book_line.ensures.written) (writes_then c.job_lines.ensures.written (writes_then c.tight_line.ensures.written c.steps_line.ensures.written)))
