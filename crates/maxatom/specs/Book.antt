-- A book, and what its rules and latest times ask of an assignment: models, the plan, K and the floor.
use Rattle.std.specs.Prelude.{◌≡◌, true, cond, List, [], ◌∷◌, ℕ, ◌+◌, length, replicate, ℤ, pos, neg_ℤ, ◌-ℤ◌, nat_abs, ◌≤ℤ◌}
use Rattle.std.specs.Int.Signed.{lt_z}
use Rattle.maxatom.specs.Rule.{time_at, satisfied}
use Rattle.maxatom.specs.declared.Rule.{Rule}

-- the most jobs of a book
abbrev pub most_jobs : ℕ
most_jobs = 256

-- the most rules of a book
abbrev pub most_rules : ℕ
most_rules = 1024

-- two weeks: the most minutes of an offset without sign, and the most that a latest time lies below zero
abbrev pub most_minutes : ℕ
most_minutes = 20160

-- a book: how many jobs it has, the latest time of each, and its rules
pub record Book : Type 0 where
  pub jobs : ℕ
  pub latest : List ℤ
  pub rules : List Rule

abbrev pub book : ℕ → List ℤ → List Rule → Book
book jobs latest rules = record { jobs = jobs; latest = latest; rules = rules }

-- a book of document 01, in which every latest time is zero
abbrev pub zeros : ℕ → List Rule → Book
zeros jobs rules = book jobs (replicate jobs (pos 0)) rules

-- every element of a list
abbrev pub Each : {A : Type 0} → (A → Type 0) → List A → Type 0
Each P [] = Unit {0}
Each P (a ∷ l) = P a × Each P l

abbrev pub AllSatisfied : List Rule → List ℤ → Type 0
AllSatisfied rules times = Each (λ r. satisfied r times ≡ true) rules

-- model: whole-number times of any sign, one a job, that keep all rules
pub record Model (b : Book) (times : List ℤ) : Type 0 where
  pub size : length times ≡ b.jobs
  pub keeps : AllSatisfied b.rules times

-- a choice of times that keeps every rule exists
abbrev pub Satisfiable : Book → Type 0
Satisfiable b = (times : List ℤ) × Model b times

-- no job of the second is earlier than in the first
abbrev pub Under : List ℤ → List ℤ → Type 0
Under s t = (job : ℕ) → time_at s job ≤ℤ time_at t job

-- plan: the model with no time after its job's latest that puts each job at least as late as every other such model does
pub record Plan (b : Book) (plan : List ℤ) : Type 0 where
  pub model : Model b plan
  pub not_late : Under plan b.latest
  pub above_all : (times : List ℤ) → Model b times → Under times b.latest → Under times plan

-- K: the sum of the offsets without sign, repeats included
unfoldable pub total : List Rule → ℕ
total [] = 0
total (r ∷ rules) = nat_abs r.k + total rules

abbrev pub minus : ℕ → ℤ
minus n = neg_ℤ (pos n)

-- the smallest of the latest times, none of which is above zero
unfoldable pub smallest : List ℤ → ℤ
smallest [] = pos 0
smallest (t ∷ latest) = let least = smallest latest in cond (lt_z t least) t least

-- floor: the smallest latest time minus K
abbrev pub floor : Book → ℤ
floor b = smallest b.latest -ℤ pos (total b.rules)
