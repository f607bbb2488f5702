use Rattle.std.proofs.Common.{◌≡◌, ℕ, ◌+◌, ◌*◌, ◌<◌, pos, ◌+ℤ◌, get_or}
use Rattle.maxatom.specs.Rule.{time_at}
use Rattle.accelerate.proofs.accelerating.dropped.Given as goal

abbrev pub invariant-loop-i : goal.invariant-loop-i
invariant-loop-i l =
    record {
      near_is : (job : ℕ) → job < l.i → time_at l.times job ≡ time_at l.near job +ℤ pos (get_or l.drops job 0);
      far_is : (job : ℕ) → job < l.i → time_at l.times job ≡ time_at l.far job +ℤ pos ((l.t + 1) * get_or l.drops job 0);
    }
