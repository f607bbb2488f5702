-- Passes over a list of clauses, one assignment at a time or two in lockstep.
use Rattle.std.specs.Prelude.{◌≡◌, List, [], ◌∷◌, ℕ, ◌+◌, ◌*◌, ◌≤◌, ℤ, pos, ◌+ℤ◌, ◌≤ℤ◌, ◌<ℤ◌}
use Rattle.maxatom.specs.Rule.{time_at}
use Rattle.maxatom.specs.Clauses.{Clause, arm_time, left_of, Keeps, stepped}
use Rattle.maxatom.specs.Inner.{In}
use Rattle.maxatom.specs.declared.Arm.{Arm}

-- one arm reaches the left side at both assignments
pub record SameArm (near far : List ℤ) (c : Clause) : Type 0 where
  pub arm : Arm
  pub among : In arm (c.first ∷ c.others)
  pub near_is : left_of (time_at near) c ≡ arm_time (time_at near) arm
  pub far_is : left_of (time_at far) c ≡ arm_time (time_at far) arm

-- one arm keeps the clause at both, whichever is the larger
pub record SameKeeper (near far : List ℤ) (c : Clause) : Type 0 where
  pub arm : Arm
  pub among : In arm (c.first ∷ c.others)
  pub near_kept : time_at near c.target ≤ℤ arm_time (time_at near) arm
  pub far_kept : time_at far c.target ≤ℤ arm_time (time_at far) arm

-- a walk: each clause is kept, or stepped on without a fall below the floor; the number is that of its steps
pub data Walk (floor : ℤ) : List Clause → List ℤ → List ℤ → ℕ → Type 0 where
  done : {b : List ℤ} → Walk floor [] b b 0
  keep : {c : Clause} {cs : List Clause} {b b' : List ℤ} {s : ℕ} → Keeps (time_at b) c → Walk floor cs b b' s → Walk floor (c ∷ cs) b b' s
  lower : {c : Clause} {cs : List Clause} {b b' : List ℤ} {s : ℕ} → left_of (time_at b) c <ℤ time_at b c.target → floor ≤ℤ left_of (time_at b) c →
      Walk floor cs (stepped b c) b' s → Walk floor (c ∷ cs) b b' (s + 1)

-- two walks with the same decisions: near and far, before and after; the same arm keeps a clause at both, or is the larger at both
pub data Lockstep (floor : ℤ) : List Clause → List ℤ → List ℤ → List ℤ → List ℤ → ℕ → Type 0 where
  done : {n f : List ℤ} → Lockstep floor [] n f n f 0
  keep : {c : Clause} {cs : List Clause} {n f n' f' : List ℤ} {s : ℕ} → SameKeeper n f c →
      Lockstep floor cs n f n' f' s → Lockstep floor (c ∷ cs) n f n' f' s
  lower : {c : Clause} {cs : List Clause} {n f n' f' : List ℤ} {s : ℕ} → SameArm n f c →
      left_of (time_at n) c <ℤ time_at n c.target → left_of (time_at f) c <ℤ time_at f c.target →
      floor ≤ℤ left_of (time_at n) c → floor ≤ℤ left_of (time_at f) c →
      Lockstep floor cs (stepped n c) (stepped f c) n' f' s → Lockstep floor (c ∷ cs) n f n' f' (s + 1)

-- passes in lockstep, each with a step or more; the numbers are those of the passes and of their steps
pub data LockstepPasses (floor : ℤ) (cs : List Clause) : List ℤ → List ℤ → List ℤ → List ℤ → ℕ → ℕ → Type 0 where
  start : {n f : List ℤ} → LockstepPasses floor cs n f n f 0 0
  round : {n f n' f' n'' f'' : List ℤ} {p s k : ℕ} → LockstepPasses floor cs n f n' f' p s → Lockstep floor cs n' f' n'' f'' k → 1 ≤ k → LockstepPasses floor cs n f n'' f'' (p + 1) (s + k)

-- passes without a fall, each with `least` steps or more; the numbers are those of the passes and of their steps
pub data Passing (floor : ℤ) (cs : List Clause) (least : ℕ) : List ℤ → List ℤ → ℕ → ℕ → Type 0 where
  start : {b : List ℤ} → Passing floor cs least b b 0 0
  round : {b b' b'' : List ℤ} {p s k : ℕ} → Passing floor cs least b b' p s → Walk floor cs b' b'' k → least ≤ k → Passing floor cs least b b'' (p + 1) (s + k)

-- such passes, with S said of each job of the component P after each number of them
pub data Traced (floor : ℤ) (cs : List Clause) (least : ℕ) (P : ℕ → Type 0) (S : ℕ → ℕ → ℤ → Type 0) : List ℤ → List ℤ → ℕ → ℕ → Type 0 where
  start : {b : List ℤ} → ((job : ℕ) → P job → S job 0 (time_at b job)) → Traced floor cs least P S b b 0 0
  round : {b b' b'' : List ℤ} {p s k : ℕ} → Traced floor cs least P S b b' p s → Walk floor cs b' b'' k → least ≤ k →
      ((job : ℕ) → P job → S job (p + 1) (time_at b'' job)) → Traced floor cs least P S b b'' (p + 1) (s + k)

-- a time v after i passes, from the time b on, of which each p take off `minutes` minutes
pub record Along (p minutes : ℕ) (b : ℤ) (i : ℕ) (v : ℤ) : Type 0 where
  pub periods : ℕ
  pub begun : periods * p ≤ i
  pub ended : i ≤ (periods + 1) * p
  pub below : (v +ℤ pos (periods * minutes)) ≤ℤ b
  pub above : b ≤ℤ (v +ℤ pos ((periods + 1) * minutes))
