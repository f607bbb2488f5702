use Rattle.converter.proofs.Writing.{Put}
use Rattle.converter.proofs.write_converted.Given as goal

abbrev pub invariant-loop-number : goal.invariant-loop-number
invariant-loop-number l = Put l.file l.initial.out l.at l.number l.out
