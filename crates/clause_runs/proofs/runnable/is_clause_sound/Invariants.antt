use Rattle.std.proofs.Common.{take}
use Rattle.maxatom.specs.Book.{Each}
use Rattle.maxatom.specs.Clauses.{arms_of}
use Rattle.clause_runs.specs.Sound.{SoundArm}
use Rattle.clause_runs.proofs.runnable.is_clause_sound.Given as goal

abbrev pub invariant-loop-i : goal.invariant-loop-i
invariant-loop-i g l = Each (SoundArm l.jobs) (take l.i (arms_of (g.C.AsClause.clause l.c)))
