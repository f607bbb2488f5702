use Rattle.bookfile.specs.declared.mark.Form.TheVariants.{Sent}
use Rattle.bookfile.proofs.Walks.{Walked}
use Rattle.bookfile.proofs.reading.begin.Given as goal

abbrev pub invariant-loop : goal.invariant-loop
invariant-loop l = Walked Sent l.file l.at l.counter
