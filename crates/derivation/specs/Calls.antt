-- The other calls on a table: kept test, tight test, fresh board, bench run.
use Rattle.std.specs.Prelude.{Bool, cond, List, [], ◌∷◌, ◌++◌, ℕ, ◌+◌, length, ℤ}
use Rattle.maxatom.specs.Rule.{satisfied, tight}
use Rattle.maxatom.specs.Book.{Book}
use Rattle.maxatom.specs.declared.Rule.{Rule}
use Rattle.maxatom.specs.Runs.{End, Run}
use Rattle.derivation.specs.Refusals.{Reply, Check, reply, verdict, lent, jobs_check, size_check, latest_checks, times_checks, rule_check}
use Rattle.derivation.specs.Step.{rule_at}
use Rattle.derivation.specs.Run.{solve}

-- kept test: every rule is satisfied (kept), or the number of the first violated (broken) one
pub data ModelCheck : Type 0 where
  satisfies : ModelCheck
  violates : ℕ → ModelCheck

-- the first violated rule of `rules`, whose first is number `at`
unfoldable pub first_violated : ℕ → List Rule → List ℤ → ModelCheck
first_violated at [] times = satisfies
first_violated at (r ∷ rules) times =
    let rest = first_violated (at + 1) rules times in
    cond (satisfied r times) rest (violates at)

-- kept test
unfoldable pub model_check_call : Book → List ℤ → Reply ModelCheck
model_check_call b times = reply (times_checks b times) (first_violated 0 b.rules times)

-- tight test
unfoldable pub tight_call : Book → List ℤ → ℕ → Reply Bool
tight_call b times number = reply (times_checks b times ++ (rule_check (length b.rules) number ∷ [])) (tight (rule_at b.rules number) times)

-- fresh board, which takes no table: the reply, and the lent board after
unfoldable pub initial_checks : ℕ → List ℤ → List ℤ → List Check
initial_checks jobs latest times = jobs_check jobs ∷ latest_checks jobs latest ++ (size_check jobs times ∷ [])

unfoldable pub initial_reply : ℕ → List ℤ → List ℤ → Reply (Unit {0})
initial_reply jobs latest times = verdict (initial_checks jobs latest times)

unfoldable pub initial_times : ℕ → List ℤ → List ℤ → List ℤ
initial_times jobs latest times = lent (initial_reply jobs latest times) times latest

-- what the bench run answers: the number of steps, and plan, or none with the slip of the last step
pub record Answer : Type 0 where
  pub steps : ℕ
  pub end : End

abbrev pub answer_of : Run → Answer
answer_of run = record { steps = run.steps; end = run.end }

-- bench run: the reply, and the lent buffer after
unfoldable pub run_reply : Book → List ℤ → Reply Answer
run_reply b buffer = reply (times_checks b buffer) (answer_of (solve b))

unfoldable pub run_times : Book → List ℤ → List ℤ
run_times b buffer = lent (run_reply b buffer) buffer (solve b).times
