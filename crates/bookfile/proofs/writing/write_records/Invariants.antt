use Rattle.bookfile.proofs.Plans.{Put}
use Rattle.bookfile.proofs.writing.write_records.Given as goal

abbrev pub invariant-loop-job : goal.invariant-loop-job
invariant-loop-job l = Put l.times l.initial.out l.at l.out l.job
