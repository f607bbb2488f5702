-- What a run asks of the clauses and the times that it starts from.
use Rattle.std.specs.Prelude.{ℕ, ◌<◌, ◌≤◌, ◌^◌, ℤ, pos, nat_abs, ◌≤ℤ◌}
use Rattle.maxatom.specs.Book.{Each}
use Rattle.maxatom.specs.Clauses.{Clause, arms_of}
use Rattle.maxatom.specs.declared.Arm.{Arm}

pub record SoundArm (jobs : ℕ) (a : Arm) : Type 0 where
  pub job : a.job < jobs
  pub offset : nat_abs a.offset ≤ 2 ^ 30

pub record SoundClause (jobs : ℕ) (c : Clause) : Type 0 where
  pub arms : Each (SoundArm jobs) (arms_of c)
  pub target : c.target < jobs

pub record Between (floor time : ℤ) : Type 0 where
  pub high : floor ≤ℤ time
  pub early : time ≤ℤ pos 0
