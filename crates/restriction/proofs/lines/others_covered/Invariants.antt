use Rattle.std.proofs.Common.{◌≡◌, false, ℕ, ◌<◌}
use Rattle.maxatom.specs.Inner.{arm_at}
use Rattle.restriction.specs.Restriction.{own, Covered}
use Rattle.restriction.proofs.lines.others_covered.Given as goal

abbrev pub invariant-loop-i : goal.invariant-loop-i
invariant-loop-i g l = let c = g.C.AsClause.clause l.c in (k : ℕ) → k < l.i → own l.paces c (arm_at c k) ≡ false → Covered l.paces l.times l.passes c (arm_at c k)
