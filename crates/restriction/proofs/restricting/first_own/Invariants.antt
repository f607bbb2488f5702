use Rattle.std.proofs.Common.{◌≡◌, false, ℕ, ◌<◌}
use Rattle.maxatom.specs.Inner.{arm_at}
use Rattle.restriction.specs.Restriction.{own}
use Rattle.restriction.proofs.restricting.first_own.Given as goal

abbrev pub invariant-loop-i : goal.invariant-loop-i
invariant-loop-i g l = (k : ℕ) → k < l.i → own l.paces (g.C.AsClause.clause l.c) (arm_at (g.C.AsClause.clause l.c) k) ≡ false
