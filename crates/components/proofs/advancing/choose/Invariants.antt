use Rattle.std.proofs.Common.{◌≡◌, ℕ, ◌<◌, get_or}
use Rattle.maxatom.specs.Rule.{time_at}
use Rattle.restriction.specs.Restriction.{pace_at, component_of}
use Rattle.components.proofs.advancing.choose.Given as goal

-- the first i jobs have their drops
abbrev pub invariant-loop-i : goal.invariant-loop-i
invariant-loop-i l = record {
  same_period : (job : ℕ) → job < l.i → component_of l.paces job ≡ l.component → (pace_at l.paces job).period ≡ l.period;
  same_drop : (job : ℕ) → job < l.i → component_of l.paces job ≡ l.component → get_or l.drops job 0 ≡ (pace_at l.paces job).fall;
  unmoved : (job : ℕ) → job < l.i → component_of l.paces job ≡ l.component → time_at l.ahead job ≡ time_at l.times job;
}
