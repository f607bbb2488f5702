-- What the run takes and answers.
use Rattle.std.specs.Prelude.{◌≡◌, Some, List, ℕ, ◌+◌, ◌≤◌, ◌^◌, length, ℤ, pos, nat_abs, ◌≤ℤ◌, Result, Ok, Err}
use Rattle.maxatom.specs.Rule.{time_at}
use Rattle.maxatom.specs.Book.{Each, minus}
use Rattle.maxatom.specs.Clauses.{Clause, arms_of, stepped}
use Rattle.maxatom.specs.Runs.{slip_at, Run, planned, fell, pass}
use Rattle.maxatom.specs.declared.Arm.{Arm}
use Rattle.clauses.specs.Passes.{InTimes, Walked}
use Rattle.clauses.specs.declared.passing.Pass.{Pass}
use Rattle.accelerate.specs.Acceleration.{PassesMade}
use Rattle.run.specs.declared.passing.Fall.{Fall}

-- what a run can start from: at most 256 jobs and 1,024 clauses, whose jobs are among them; each time from the floor, which is at or below
-- zero, to zero; and a floor and offsets within 2 ^ 30 of zero
pub record Runnable (floor : ℤ) (cs : List Clause) (times : List ℤ) : Type 0 where
  pub in_times : InTimes cs times
  pub few : length times ≤ 256
  pub short : length cs ≤ 1024
  pub high : (job : ℕ) → floor ≤ℤ time_at times job
  pub early : (job : ℕ) → time_at times job ≤ℤ pos 0
  pub deep : minus (2 ^ 30) ≤ℤ floor
  pub offsets : Each (λ c. Each (λ (a : Arm). nat_abs a.offset ≤ 2 ^ 30) (arms_of c)) cs

-- a run's outcome, the steps of a plan or the fall, with the times that it left
abbrev pub end_of : Result ℕ Fall → List ℤ → Run
end_of (Ok steps) times = record { times = times; steps = steps; end = planned }
end_of (Err e) times = record { times = times; steps = e.steps; end = fell e.slip }

-- one pass of a run: it went over all clauses, or it ended the run by a fall
abbrev pub PassMade : ℤ → List Clause → List ℤ → ℕ → List ℤ → Result Pass Fall → Type 0
PassMade floor cs times steps times' (Ok p) = Walked floor cs times times' steps p.steps
PassMade floor cs times steps times' (Err e) = pass floor cs times steps ≡ record { times = times'; steps = e.steps; fallen = Some e.slip }

-- the step on the clause is the last one of a run: it is stored, counted and told
pub record LastStep (c : Clause) (times times' : List ℤ) (before : ℕ) (e : Fall) : Type 0 where
  pub stored : times' ≡ stepped times c
  pub counted : e.steps ≡ before + 1
  pub told : e.slip ≡ slip_at times c

-- passes of a run, each with a step: their steps are added to those before them
pub record Came (floor : ℤ) (cs : List Clause) (times times' : List ℤ) (before after : ℕ) : Type 0 where
  pub made : ℕ
  pub counted : after ≡ before + made
  pub passes : PassesMade cs floor times times' made
