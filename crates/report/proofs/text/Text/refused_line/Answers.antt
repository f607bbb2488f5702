use Rattle.report.specs.Report.{refused_line}
use Rattle.report.proofs.Texts.{writes_then}
use Rattle.report.proofs.text.Text.refused_line.Goals as goal

pub returns-clause-written : goal.returns-clause-written
unfolding refused_line
returns-clause-written c = writes_then c.word.ensures.written (writes_then (rw (c.from-2.ensures, c.from.ensures) at c.field.ensures.written) (writes_then c.field-2.ensures.written c.word-2.ensures.written))
