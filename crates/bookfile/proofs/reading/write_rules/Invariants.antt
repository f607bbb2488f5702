use Rattle.bookfile.proofs.Storing.{Stored}
use Rattle.bookfile.proofs.reading.write_rules.Given as goal

abbrev pub invariant-loop-rule : goal.invariant-loop-rule
invariant-loop-rule l = Stored l.file l.initial.rules l.at l.rule-index l.rules
