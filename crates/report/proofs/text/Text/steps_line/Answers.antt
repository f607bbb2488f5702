use Rattle.report.specs.Report.{steps_line}
use Rattle.report.proofs.Texts.{writes_then}
use Rattle.report.proofs.text.Text.steps_line.Goals as goal

pub returns-clause-written : goal.returns-clause-written
unfolding steps_line
returns-clause-written c = writes_then c.word.ensures.written (writes_then c.field.ensures.written c.word-2.ensures.written)
