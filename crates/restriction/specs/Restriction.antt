-- Components: jobs whose paces name the same component, what is left of each clause for the component of its target, and how the
-- times of the jobs fall.
use Rattle.std.specs.Prelude.{◌≡◌, Bool, true, false, cond, ◌&&◌, not, Option, Some, None, List, [], ◌∷◌, ◌++◌, map, ℕ, ◌+◌, ◌*◌, ◌<◌, ◌≤◌, eqb, ltb, get_or, ℤ, pos, ◌+ℤ◌, ◌≤ℤ◌}
use Rattle.std.specs.Int.Signed.{le_z}
use Rattle.maxatom.specs.Rule.{time_at}
use Rattle.maxatom.specs.Book.{Each}
use Rattle.maxatom.specs.declared.Arm.{Arm}
use Rattle.maxatom.specs.Clauses.{Clause, arms_of, left_of}
use Rattle.maxatom.specs.Inner.{In}
use Rattle.maxatom.specs.Passes.{Passing, Traced, Along}
use Rattle.clauses.specs.Passes.{tautology}
use Rattle.restriction.specs.declared.pace.Pace.{Pace}

-- a job out of range is in no component
abbrev pub no_pace : Pace
no_pace = record { component = 65536; period = 1; fall = 0 }

-- the pace of a job
abbrev pub pace_at : List Pace → ℕ → Pace
pace_at paces job = get_or paces job no_pace

-- the component of a job
abbrev pub component_of : List Pace → ℕ → ℕ
component_of paces job = (pace_at paces job).component

-- an arm is own where the component of its job is that of the clause's target
abbrev pub own : List Pace → Clause → Arm → Bool
own paces c a = eqb (component_of paces a.job) (component_of paces c.target)

-- the first own arm
unfoldable pub first_own : List Pace → Clause → List Arm → Option Arm
first_own paces c [] = None
first_own paces c (a ∷ arms) = let rest = first_own paces c arms in cond (own paces c a) (Some a) rest

-- an arm where it is own, and else the arm a
abbrev pub own_or : List Pace → Clause → Arm → Arm → Arm
own_or paces c a b = cond (own paces c b) b a

-- the clause with the arm a in the place of each arm that is not own
abbrev pub with_own : List Pace → Arm → Clause → Clause
with_own paces a c = record { first = own_or paces c a c.first; others = map (own_or paces c a) c.others; target = c.target }

-- the clause with its first own arm in the place of each that is not own, where the left side at the times is no smaller; or nothing
unfoldable pub restricted : List Pace → List ℤ → Clause → Option Arm → List Clause
restricted paces times c None = []
restricted paces times c (Some a) = let d = with_own paces a c in cond (le_z (left_of (time_at times) c) (left_of (time_at times) d)) (d ∷ []) []

-- what is left of a clause for the component of its target: nothing of a tautology
unfoldable pub leftover : List Pace → List ℤ → Clause → List Clause
leftover paces times c = let left = restricted paces times c (first_own paces c (arms_of c)) in cond (tautology c) [] left

-- a component from one to before another
abbrev pub among : ℕ → ℕ → ℕ → Bool
among from to component = not (ltb component from) && ltb component to

-- what is left of the clauses whose targets are in the components from one to before another
unfoldable pub pick : ℕ → ℕ → List Pace → List ℤ → List Clause → List Clause
pick from to paces times [] = []
pick from to paces times (c ∷ cs) =
    let rest = pick from to paces times cs in cond (among from to (component_of paces c.target)) (leftover paces times c) [] ++ rest

-- a job's time v after i passes, along the line of its pace
abbrev pub Line : List Pace → List ℤ → ℕ → ℕ → ℤ → Type 0
Line paces times job i v = Along (pace_at paces job).period (pace_at paces job).fall (time_at times job) i v

-- a line that starts `gap` minutes above another, and falls `fall` in each `p` passes, stays above it for `passes` passes, as the other
-- falls `other` in each `q`
pub record Staying (gap p fall q other passes : ℕ) : Type 0 where
  pub some : (1 ≤ p) × (1 ≤ q)
  pub first : fall * (1 + p) * q + other * p * q ≤ gap * p * q
  pub last : fall * (passes + 1 + p) * q + other * p * q ≤ gap * p * q + other * p * passes

-- for `passes` passes one arm stays at or above another, as their jobs' times fall along their lines
pub record Above (paces : List Pace) (times : List ℤ) (high low : Arm) (passes : ℕ) : Type 0 where
  pub stays : (i : ℕ) → i ≤ passes → (v w : ℤ) → Line paces times low.job i v → Line paces times high.job (i + 1) w → (v +ℤ low.offset) ≤ℤ (w +ℤ high.offset)

-- the target, as an arm
abbrev pub target_arm : Clause → Arm
target_arm c = record { job = c.target; offset = pos 0 }

-- some arm stays at or above the target: it keeps the clause
pub record Keeper (paces : List Pace) (times : List ℤ) (passes : ℕ) (c : Clause) : Type 0 where
  pub arm : Arm
  pub within : In arm (arms_of c)
  pub above : Above paces times arm (target_arm c) passes

-- some own arm stays at or above an arm, which cannot matter then
pub record Covered (paces : List Pace) (times : List ℤ) (passes : ℕ) (c : Clause) (a : Arm) : Type 0 where
  pub arm : Arm
  pub within : In arm (arms_of c)
  pub is_own : own paces c arm ≡ true
  pub above : Above paces times arm a passes

-- the components of a clause's jobs are below a number
pub record InComponents (paces : List Pace) (components : ℕ) (c : Clause) : Type 0 where
  pub arms : Each (λ (a : Arm). component_of paces a.job < components) (arms_of c)
  pub target : component_of paces c.target < components

-- what is left of a clause decides as it does: nothing is left of a tautology; each arm that is left out is covered; and a clause of which
-- nothing is left has a keeper
pub data ClauseAllowed (c : Clause) (paces : List Pace) (times : List ℤ) (components passes : ℕ) : Type 0 where
  trivial : tautology c ≡ true → ClauseAllowed c paces times components passes
  left : InComponents paces components c → (d : Clause) → leftover paces times c ≡ d ∷ [] →
      Each (λ (a : Arm). own paces c a ≡ false → Covered paces times passes c a) (arms_of c) → ClauseAllowed c paces times components passes
  left_out : InComponents paces components c → leftover paces times c ≡ [] → Keeper paces times passes c → ClauseAllowed c paces times components passes

-- for `passes` passes what is left of the clauses decides as they do, where each time keeps to its line
pub record Allowed (cs : List Clause) (paces : List Pace) (times : List ℤ) (components passes : ℕ) : Type 0 where
  pub passing : (floor : ℤ) (least : ℕ) (b e : List ℤ) (steps : ℕ) →
      Traced floor (pick 0 components paces times cs) least (λ job. component_of paces job < components) (Line paces times) b e passes steps →
      Passing floor cs least b e passes steps
