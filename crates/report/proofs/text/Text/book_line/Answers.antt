use Rattle.report.specs.Report.{book_line}
use Rattle.report.proofs.Texts.{writes_then}
use Rattle.report.proofs.text.Text.book_line.Goals as goal

pub returns-clause-written : goal.returns-clause-written
unfolding book_line
returns-clause-written c = writes_then c.word.ensures.written (writes_then c.field.ensures.written (writes_then c.field-2.ensures.written (writes_then c.field-3.ensures.written c.word-2.ensures.written)))
