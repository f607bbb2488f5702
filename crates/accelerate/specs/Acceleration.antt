-- What the functions of acceleration take and answer.
use Rattle.std.specs.Prelude.{◌≡◌, List, ℕ, ◌+◌, ◌*◌, ◌<◌, ◌≤◌, ◌^◌, length, get_or, ℤ, pos, ◌+ℤ◌}
use Rattle.maxatom.specs.Rule.{time_at}
use Rattle.maxatom.specs.Clauses.{Clause}
use Rattle.maxatom.specs.Passes.{LockstepPasses, Passing, Traced, Along}

-- passes in lockstep, each with a step
pub record InLockstep (cs : List Clause) (floor : ℤ) (near far near' far' : List ℤ) (passes steps : ℕ) : Type 0 where
  pub few : steps < 2 ^ 33
  pub some : passes ≤ steps
  pub passing : LockstepPasses floor cs near far near' far' passes steps

-- the near times are the times, and the far times lie t drops below them
pub record Spread (t : ℕ) (drops : List ℕ) (times near far : List ℤ) : Type 0 where
  pub near_is : near ≡ times
  pub far_is : (job : ℕ) → job < length times → time_at times job ≡ time_at far job +ℤ pos (t * get_or drops job 0)

-- the near times lie one drop below the times, and the far times t + 1 drops
pub record Dropped (t : ℕ) (drops : List ℕ) (times near far : List ℤ) : Type 0 where
  pub near_is : (job : ℕ) → job < length times → time_at times job ≡ time_at near job +ℤ pos (get_or drops job 0)
  pub far_is : (job : ℕ) → job < length times → time_at times job ≡ time_at far job +ℤ pos ((t + 1) * get_or drops job 0)

-- passes, each with a step and without a fall
pub record PassesMade (cs : List Clause) (floor : ℤ) (times times' : List ℤ) (steps : ℕ) : Type 0 where
  pub passes : ℕ
  pub passing : Passing floor cs 1 times times' passes steps

-- a job's time after i passes, where each `passes` of them take off its drop
abbrev pub Falling : ℕ → List ℕ → List ℤ → ℕ → ℕ → ℤ → Type 0
Falling passes drops times job i v = Along passes (get_or drops job 0) (time_at times job) i v

-- repetitions taken at once: `passes` passes, t + 1 times over
pub record Accelerated (cs : List Clause) (floor : ℤ) (passes t : ℕ) (drops : List ℕ) (times times' : List ℤ) (steps : ℕ) : Type 0 where
  pub few : steps < 2 ^ 63
  pub some : 1 ≤ steps
  pub traced : Traced floor cs 1 (λ job. Unit {0}) (λ job i v. Falling passes drops times job i v) times times' ((t + 1) * passes) steps
  pub lands : (job : ℕ) → time_at times job ≡ time_at times' job +ℤ pos ((t + 1) * get_or drops job 0)
