use Rattle.report.proofs.Texts.{writes_then}
use Rattle.commands.proofs.writing.none_line.Goals as goal

pub returns-clause-written : goal.returns-clause-written
returns-clause-written c = writes_then c.word.ensures.written (writes_then c.slip_fields.ensures.written (writes_then c.field.ensures.written c.word-2.ensures.written))
