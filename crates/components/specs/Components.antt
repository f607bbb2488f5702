-- Components of the clauses: what it is to advance one of them for itself, and some of them side by side.
use Rattle.std.specs.Prelude.{◌≡◌, List, ℕ, ◌<◌, ◌≤◌, ◌^◌, get_or, ℤ}
use Rattle.maxatom.specs.Rule.{time_at}
use Rattle.maxatom.specs.Clauses.{Clause}
use Rattle.maxatom.specs.Passes.{Traced, Along}
use Rattle.restriction.specs.declared.pace.Pace.{Pace}
use Rattle.restriction.specs.Restriction.{pace_at, component_of, pick, Line}

-- passes over the clauses of a component, whose jobs fall along lines of one period; where there is a step, each pass has one or more
pub record Advanced (cs : List Clause) (floor : ℤ) (period : ℕ) (drops : List ℕ) (times times' : List ℤ) (passes steps : ℕ) : Type 0 where
  pub few : steps < 2 ^ 62
  pub least : ℕ
  pub some : 1 ≤ steps → 1 ≤ least
  pub traced : Traced floor cs least (λ job. Unit {0}) (λ job i v. Along period (get_or drops job 0) (time_at times job) i v) times times' passes steps

-- the period and the drops of a component's jobs, which have not moved
pub record Chosen (component period : ℕ) (paces : List Pace) (times ahead : List ℤ) (drops : List ℕ) : Type 0 where
  pub same_period : (job : ℕ) → component_of paces job ≡ component → (pace_at paces job).period ≡ period
  pub same_drop : (job : ℕ) → component_of paces job ≡ component → get_or drops job 0 ≡ (pace_at paces job).fall
  pub unmoved : (job : ℕ) → component_of paces job ≡ component → time_at ahead job ≡ time_at times job

-- the same number of passes over each of the components before one, each for itself; where there is a step, each pass over all of them has one
pub record Ahead (cs : List Clause) (floor : ℤ) (paces : List Pace) (times : List ℤ) (components passes : ℕ) (ahead : List ℤ) (steps : ℕ) : Type 0 where
  pub few : steps < 2 ^ 63
  pub least : ℕ
  pub some : 1 ≤ steps → 1 ≤ least
  pub traced : Traced floor (pick 0 components paces times cs) least (λ job. component_of paces job < components) (Line paces times) times ahead passes steps
