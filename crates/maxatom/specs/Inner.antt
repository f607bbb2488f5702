-- What inner contracts and proofs say of clauses.
use Rattle.std.specs.Prelude.{List, ◌∷◌, ℕ, ◌<◌, get_or}
use Rattle.maxatom.specs.Book.{Each}
use Rattle.maxatom.specs.Clauses.{Clause, arms_of}
use Rattle.maxatom.specs.declared.Arm.{Arm}

-- the arm of a number, the first where there is none
abbrev pub arm_at : Clause → ℕ → Arm
arm_at c i = get_or (arms_of c) i c.first

-- the jobs of a clause are below the job count
pub record InJobs (jobs : ℕ) (c : Clause) : Type 0 where
  pub arms : Each (λ (a : Arm). a.job < jobs) (arms_of c)
  pub target : c.target < jobs

-- one of a list
pub data In {A : Type 0} : A → List A → Type 0 where
  here : {a : A} {l : List A} → In a (a ∷ l)
  there : {a b : A} {l : List A} → In a l → In a (b ∷ l)
