use Rattle.std.proofs.Common.{rules}
use mir.Facts.{to_z-of_z}
use mir.Syntax.{w32}
use mir.Val.{SFits}
use Rattle.report.proofs.Texts.{writes_then}
use Rattle.commands.specs.Commands.{slip_fields}
use Rattle.commands.proofs.writing.slip_fields.Goals as goal

pub returns-clause-written : goal.returns-clause-written
unfolding slip_fields
returns-clause-written c =
    let before : SFits w32 c.args.slip.before = search rules in
    let after : SFits w32 c.args.slip.after = search rules in
    let times = writes_then (rw (to_z-of_z before) at c.signed.ensures.written) (rw (to_z-of_z after) at c.signed-2.ensures.written) in
    writes_then (rw c.from.ensures at c.field.ensures.written) times
