use Rattle.std.proofs.Common.{List, ℕ, refl, subst}
use Rattle.report.specs.Inner.{Writes}
use Rattle.report.proofs.Reports.{accepted_read, report_read, report_refused}
use Rattle.report.proofs.text.Text.file.Goals as goal

pub table-requires-clause-accepted : goal.table-requires-clause-accepted
table-requires-clause-accepted c = let e = c.in-Ok.ensures in accepted_read _ e.said _ _ refl refl e.rules_after e.latest_after

pub returns-in-Ok-clause-written : goal.returns-in-Ok-clause-written
returns-in-Ok-clause-written c =
    let e = c.in-Ok.ensures in
    subst (λ (text : List ℕ). Writes c.args.self.now text c.table.new.self)
    (report_read _ e.said _ _ refl refl e.rules_after e.latest_after) c.table.ensures.written

pub returns-in-Err-clause-written : goal.returns-in-Err-clause-written
returns-in-Err-clause-written c = rw (← report_refused _ c.in-Err.ensures.said) c.refused_line.ensures.written
