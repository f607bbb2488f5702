-- What the functions on clauses take and answer.
use Rattle.std.specs.Int.Signed.{le_z}
use Rattle.std.specs.Prelude.{◌≡◌, Bool, false, ◌&&◌, ◌||◌, eqb, pos, List, ◌∷◌, [], zero, suc, ℕ, ◌+◌, ◌<◌, length, take, get_or, set, ℤ, ◌≤ℤ◌, ◌<ℤ◌, Result, Ok, Err}
use Rattle.maxatom.specs.Rule.{time_at}
use Rattle.maxatom.specs.Book.{Each}
use Rattle.maxatom.specs.declared.Arm.{Arm}
use Rattle.maxatom.specs.Clauses.{Clause, arms_of, arm_time, left_of}
use Rattle.maxatom.specs.Inner.{In, InJobs}
use Rattle.maxatom.specs.Passes.{Walk}
use Rattle.clauses.specs.Bits.{HasBlock}
use Rattle.clauses.specs.declared.passing.Pass.{Pass}
use Rattle.clauses.specs.declared.passing.Stop.{Stop}

-- another arm in the place of one
unfoldable pub put_arm : Clause → ℕ → Arm → Clause
put_arm c zero a = record { first = a; others = c.others; target = c.target }
put_arm c (suc i) a = record { first = c.first; others = set c.others i a; target = c.target }

-- tautology (idle): some arm is the target with an offset of zero or more
unfoldable pub tautology_by : ℕ → List Arm → Bool
tautology_by target [] = false
tautology_by target (a ∷ arms) = (eqb a.job target && le_z (pos 0) a.offset) || tautology_by target arms

unfoldable pub tautology : Clause → Bool
tautology c = tautology_by c.target (arms_of c)

-- one arm reaches two numbers, each at its own times
pub record OneReaches (c : Clause) (a b : ℤ) (near far : List ℤ) : Type 0 where
  pub arm : Arm
  pub among : In arm (arms_of c)
  pub near_reached : a ≤ℤ arm_time (time_at near) arm
  pub far_reached : b ≤ℤ arm_time (time_at far) arm

-- the clause's jobs are jobs of the times, for each clause of a list
abbrev pub InTimes : List Clause → List ℤ → Type 0
InTimes cs times = Each (InJobs (length times)) cs

-- a pass from the times: its steps are added to those before it
pub record Walked (floor : ℤ) (cs : List Clause) (times times' : List ℤ) (before after : ℕ) : Type 0 where
  pub made : ℕ
  pub counted : after ≡ before + made
  pub walk : Walk floor cs times times' made

-- a step on the clause would take its target below the floor
pub record Falls (floor : ℤ) (c : Clause) (times : List ℤ) : Type 0 where
  pub violated : left_of (time_at times) c <ℤ time_at times c.target
  pub low : left_of (time_at times) c <ℤ floor

-- how a pass over clauses ends: after all of them, or before the first whose step would fall
abbrev pub PassEnds : ℤ → List Clause → List ℤ → ℕ → List ℤ → Result Pass Stop → Type 0
PassEnds floor cs times steps times' (Ok p) = Walked floor cs times times' steps p.steps
PassEnds floor cs times steps times' (Err e) =
    (e.at < length cs) × Walked floor (take e.at cs) times times' steps e.steps × ((c : Clause) → Falls floor (get_or cs e.at c) times')

-- the dirty blocks after a pass: those before it, and the blocks of the readers of each job whose time it changed
pub record Noted (readers : List ℕ) (times times' : List ℤ) (before after : ℕ) : Type 0 where
  pub stay : (block : ℕ) → HasBlock before block → HasBlock after block
  pub read : (job block : ℕ) → (time_at times' job ≡ time_at times job → ⊥) → HasBlock (get_or readers job 0) block → HasBlock after block
