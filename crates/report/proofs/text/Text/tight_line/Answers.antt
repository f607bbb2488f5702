use Rattle.report.specs.Report.{tight_line}
use Rattle.report.proofs.Texts.{writes_then}
use Rattle.report.proofs.text.Text.tight_line.Goals as goal

pub returns-clause-written : goal.returns-clause-written
unfolding tight_line
returns-clause-written c = writes_then c.word.ensures.written (writes_then c.tight_fields.ensures.written c.word-2.ensures.written)
