use Rattle.report.proofs.Reports.{Summed}
use Rattle.report.proofs.text.Text.table.Given as goal

abbrev pub invariant-loop-r : goal.invariant-loop-r
invariant-loop-r l = Summed l.rules l.k l.r-index
