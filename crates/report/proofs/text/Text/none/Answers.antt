use Rattle.report.proofs.Texts.{writes_then}
use Rattle.report.proofs.text.Text.none.Goals as goal

pub returns-clause-written : goal.returns-clause-written
returns-clause-written c = writes_then (rw c.from.ensures at c.book_line.ensures.written) (writes_then c.none_line.ensures.written c.steps_line.ensures.written)
