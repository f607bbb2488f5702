use Rattle.std.proofs.Common.{ℕ, ◌<◌}
use Rattle.maxatom.specs.Inner.{arm_at}
use Rattle.restriction.specs.Restriction.{component_of}
use Rattle.restriction.proofs.lines.in_components.Given as goal

abbrev pub invariant-loop-i : goal.invariant-loop-i
invariant-loop-i g l = (k : ℕ) → k < l.i → component_of l.paces (arm_at (g.C.AsClause.clause l.c) k).job < l.components
