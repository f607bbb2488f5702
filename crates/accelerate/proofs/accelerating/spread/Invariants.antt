use Rattle.std.proofs.Common.{◌≡◌, ◌*◌, pos, ◌+ℤ◌, get_or}
use Rattle.maxatom.specs.Rule.{time_at}
use Rattle.accelerate.proofs.Repetitions.{Filled}
use Rattle.accelerate.proofs.accelerating.spread.Given as goal

abbrev pub invariant-loop-i : goal.invariant-loop-i
invariant-loop-i l = Filled (λ job v. time_at l.times job ≡ v +ℤ pos (l.t * get_or l.drops job 0)) l.far l.i
