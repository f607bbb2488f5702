use Rattle.std.proofs.Common.{map, take}
use Rattle.maxatom.specs.Book.{Each}
use Rattle.clause_runs.specs.Sound.{SoundClause}
use Rattle.clause_runs.proofs.runnable.are_clauses_sound.Given as goal

abbrev pub invariant-loop-c : goal.invariant-loop-c
invariant-loop-c g l = Each (SoundClause l.jobs) (map g.C.AsClause.clause (take l.c-index l.clauses))
