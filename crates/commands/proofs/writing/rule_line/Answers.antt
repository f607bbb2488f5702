use Rattle.std.proofs.Common.{rules}
use mir.Facts.{to_z-of_z}
use mir.Syntax.{w32}
use mir.Val.{SFits}
use Rattle.report.proofs.Texts.{writes_then}
use Rattle.commands.specs.Answers.{rule_fields}
use Rattle.commands.proofs.writing.rule_line.Goals as goal

pub returns-clause-written : goal.returns-clause-written
unfolding rule_fields
returns-clause-written c =
    let k : SFits w32 c.args.r.k = search rules in
    let z = writes_then (rw (to_z-of_z k) at c.signed.ensures.written) (rw c.from-3.ensures at c.field-4.ensures.written) in
    let fields = writes_then (rw c.from.ensures at c.field-2.ensures.written) (writes_then (rw c.from-2.ensures at c.field-3.ensures.written) z) in
    writes_then c.word.ensures.written (writes_then c.field.ensures.written (writes_then fields c.word-2.ensures.written))
