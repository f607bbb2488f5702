use Rattle.std.proofs.Common.{take}
use Rattle.maxatom.specs.Book.{Each}
use Rattle.clause_runs.specs.Sound.{Between}
use Rattle.clause_runs.proofs.runnable.are_times_between.Given as goal

abbrev pub invariant-loop-time : goal.invariant-loop-time
invariant-loop-time l = Each (Between l.floor) (take l.time-index l.times)
