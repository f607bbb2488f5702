-- What holds of a book that is not refused, as inner contracts ask for it: its bounds, and that no rule is impossible.
use Rattle.std.specs.Prelude.{◌≡◌, ℕ, ◌<◌, ◌≤◌, length, ℤ, pos, nat_abs, ◌≤ℤ◌}
use Rattle.maxatom.specs.Class.{Possible}
use Rattle.maxatom.specs.Book.{most_jobs, most_rules, most_minutes, Book, Each, minus}
use Rattle.maxatom.specs.declared.Rule.{Rule}

-- a rule of a book: its jobs are below the job count, its offset is within the bounds
pub record InBook (jobs : ℕ) (r : Rule) : Type 0 where
  pub first : r.x < jobs
  pub second : r.y < jobs
  pub third : r.z < jobs
  pub offset : nat_abs r.k ≤ most_minutes

-- a latest time within the bounds
pub record InTime (t : ℤ) : Type 0 where
  pub lowest : minus most_minutes ≤ℤ t
  pub highest : t ≤ℤ pos 0

-- every bound of a book, and no impossible rule; what the checks leave over (proofs/Checks, in derivation)
pub record Accepted (b : Book) : Type 0 where
  pub some : 1 ≤ b.jobs
  pub few : b.jobs ≤ most_jobs
  pub short : length b.rules ≤ most_rules
  pub rules_in : Each (InBook b.jobs) b.rules
  pub possible : Each Possible b.rules
  pub size : length b.latest ≡ b.jobs
  pub latest_in : Each InTime b.latest
