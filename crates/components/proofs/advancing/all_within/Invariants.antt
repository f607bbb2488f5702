use Rattle.std.proofs.Common.{ℕ, ◌<◌, get_or, pos, ◌+ℤ◌, ◌≤ℤ◌}
use Rattle.maxatom.specs.Rule.{time_at}
use Rattle.components.proofs.advancing.all_within.Given as goal

-- none of the first i jobs has fallen more than its drop
abbrev pub invariant-loop-i : goal.invariant-loop-i
invariant-loop-i l = (job : ℕ) → job < l.i → time_at l.from job ≤ℤ (time_at l.to job +ℤ pos (get_or l.drops job 0))
