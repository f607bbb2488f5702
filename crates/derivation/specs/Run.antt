-- The bench run: passes over the rules from a fresh board.
use Rattle.std.specs.Prelude.{ℕ, ◌+◌}
use Rattle.maxatom.specs.Book.{Book, floor}
use Rattle.maxatom.specs.Clauses.{clauses_of}
use Rattle.maxatom.specs.Runs.{Run, room, run}
use Rattle.derivation.specs.Step.{initial}

-- the bound of steps: the sum, over jobs, of latest time minus floor
abbrev pub step_bound : Book → ℕ
step_bound b = room (floor b) b.latest

-- the most passes that `solve` makes, each of which but the last has a step
abbrev pub pass_bound : Book → ℕ
pass_bound b = step_bound b + 1

-- bench run
unfoldable pub solve : Book → Run
solve b = run (floor b) (clauses_of b.rules) (initial b).times
