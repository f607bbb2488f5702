-- What came before the byte at hand is written.
use Rattle.std.proofs.Common.{take}
use Rattle.report.specs.Inner.{Writes}
use Rattle.report.proofs.text.Text.word.Given as goal

abbrev pub invariant-loop-b : goal.invariant-loop-b
invariant-loop-b l = Writes l.initial.self (take l.b-index l.word) l.self
