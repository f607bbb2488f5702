use Rattle.std.proofs.Common.{rules, ℤ, subst}
use mir.Facts.{to_z-of_z}
use mir.Syntax.{w32}
use mir.Val.{SFits}
use Rattle.report.specs.Text.{signed_field}
use Rattle.report.specs.Inner.{Writes}
use Rattle.report.specs.Report.{none_line}
use Rattle.report.proofs.Texts.{writes_then}
use Rattle.report.proofs.text.Text.none_line.Goals as goal

pub returns-clause-written : goal.returns-clause-written
unfolding none_line
returns-clause-written c =
    let before : SFits w32 c.args.slip.before = search rules in
    let after : SFits w32 c.args.slip.after = search rules in
    let told = subst (λ (t : ℤ). Writes c.field.new.self (signed_field t) c.signed.new.self) (to_z-of_z before) c.signed.ensures.written in
    let left = subst (λ (t : ℤ). Writes c.signed.new.self (signed_field t) c.signed-2.new.self) (to_z-of_z after) c.signed-2.ensures.written in
    let times = writes_then told (writes_then left c.word-2.ensures.written) in
    writes_then c.word.ensures.written (writes_then (rw c.from.ensures at c.field.ensures.written) times)
