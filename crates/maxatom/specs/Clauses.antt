-- Clauses with any number of arms, each with its own offset: max(v₁ + k₁, …) ≥ z. A rule of document 01 is one with two arms and one offset.
use Rattle.std.specs.Prelude.{Bool, List, [], ◌∷◌, map, ℕ, set, ℤ, ◌+ℤ◌, ◌≤ℤ◌}
use Rattle.std.specs.Int.Signed.{le_z}
use Rattle.maxatom.specs.Rule.{time_at, max_z}
use Rattle.maxatom.specs.declared.Rule.{Rule}
use Rattle.maxatom.specs.declared.Arm.{Arm}

-- the largest of its arms is to be at least the target's time
pub record Clause : Type 0 where
  pub first : Arm
  pub others : List Arm
  pub target : ℕ

abbrev pub arms_of : Clause → List Arm
arms_of c = c.first ∷ c.others

-- a time for each job
abbrev pub Assignment : Type 0
Assignment = ℕ → ℤ

abbrev pub arm_time : Assignment → Arm → ℤ
arm_time t a = t a.job +ℤ a.offset

-- the largest of the arms
unfoldable pub greatest : Assignment → Arm → List Arm → ℤ
greatest t a [] = arm_time t a
greatest t a (b ∷ l) = max_z (arm_time t a) (greatest t b l)

-- left side
abbrev pub left_of : Assignment → Clause → ℤ
left_of t c = greatest t c.first c.others

-- kept
abbrev pub Keeps : Assignment → Clause → Type 0
Keeps t c = t c.target ≤ℤ left_of t c

-- the test of it
unfoldable pub kept : Clause → List ℤ → Bool
kept c times = le_z (time_at times c.target) (left_of (time_at times) c)

-- a step: the target gets the left side
abbrev pub stepped : List ℤ → Clause → List ℤ
stepped times c = set times c.target (left_of (time_at times) c)

-- a rule as a clause
abbrev pub clause_of : Rule → Clause
clause_of r = record { first = record { job = r.x; offset = r.k }; others = record { job = r.y; offset = r.k } ∷ []; target = r.z }

abbrev pub clauses_of : List Rule → List Clause
clauses_of rules = map clause_of rules
