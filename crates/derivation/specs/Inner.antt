-- What the contracts of the code below the public calls say of a run.
use Rattle.std.specs.Prelude.{◌≡◌, List, ℤ}
use Rattle.maxatom.specs.Runs.{Run}
use Rattle.derivation.specs.Calls.{answer_of}
use Rattle.derivation.specs.Replies.{solved_answer}
use Rattle.derivation.specs.declared.Solved.{Solved}

-- a run's answer, and the times that it left
pub record SolvedAs (run : Run) (r : Solved) (times : List ℤ) : Type 0 where
  pub said : solved_answer r ≡ answer_of run
  pub left : times ≡ run.times
