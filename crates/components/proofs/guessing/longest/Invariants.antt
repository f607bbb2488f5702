use Rattle.std.proofs.Common.{◌≤◌}
use Rattle.components.proofs.guessing.longest.Given as goal

abbrev pub invariant-loop-more : goal.invariant-loop-more
invariant-loop-more g l = l.passes ≤ l.most

abbrev pub decreases-loop-more : goal.decreases-loop-more
decreases-loop-more g l = l.more
