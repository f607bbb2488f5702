-- The answers of the public calls, read as replies: a number and a place, or a value, for every case.
use Rattle.std.specs.Prelude.{◌≡◌, Bool, List, ℕ, ◌+◌, ◌≤◌, ℤ, Option, Some, None, Result, Ok, Err, ⊤}
use Rattle.maxatom.specs.Book.{Book, Satisfiable, Plan}
use Rattle.maxatom.specs.Runs.{planned, fell}
use Rattle.maxatom.specs.declared.Slip.{Slip}
use Rattle.derivation.specs.Refusals.{Reply, refused, answer}
use Rattle.derivation.specs.Faults.{number_of}
use Rattle.derivation.specs.Step.{State}
use Rattle.derivation.specs.Calls.{ModelCheck, satisfies, violates, Answer, run_reply, run_times}
use Rattle.derivation.specs.Run.{step_bound}
use Rattle.derivation.specs.declared.Tally.{Tally}
use Rattle.derivation.specs.declared.Refusal.{Refusal}
use Rattle.derivation.specs.declared.Counts.{Counts}
use Rattle.derivation.specs.declared.Solved.{Solved}
use Rattle.derivation.specs.declared.Solved.TheVariants as Solve

-- a call's result, whose value stands for an answer
abbrev pub reply_of : {A B : Type 0} → (A → B) → Result A Refusal → Reply B
reply_of value (Ok a) = answer (value a)
reply_of value (Err r) = refused (number_of r.fault) r.place

-- hand step: what it took off
abbrev pub slip_reply : Result Slip Refusal → Reply Slip
slip_reply r = reply_of (λ slip. slip) r

-- it was done: fresh board, step back, plan writer
abbrev pub outcome_reply : Result ⊤ Refusal → Reply (Unit {0})
outcome_reply r = reply_of (λ a. tt) r

-- the reader answers the job count and the rule count
abbrev pub read_of : Result Counts Refusal → Reply Counts
read_of r = reply_of (λ counts. counts) r

-- kept test: no rule is violated, or the first that is
abbrev pub model_check : Option ℕ → ModelCheck
model_check None = satisfies
model_check (Some i) = violates i

abbrev pub model_check_reply : Result (Option ℕ) Refusal → Reply ModelCheck
model_check_reply r = reply_of model_check r

-- tight test
abbrev pub tight_reply : Result Bool Refusal → Reply Bool
tight_reply r = reply_of (λ tight. tight) r

-- bench run
abbrev pub solved_answer : Solved → Answer
solved_answer (Solve.Plan steps) = record { steps = steps; end = planned }
solved_answer (Solve.None steps slip) = record { steps = steps; end = fell slip }

abbrev pub solved_reply : Result Solved Refusal → Reply Answer
solved_reply r = reply_of solved_answer r

-- what is lent to a hand step or a step back
abbrev pub state_of : List ℤ → Tally → State
state_of times tally = record { times = times; tally = tally }

-- what plan and none mean: the times are then the plan, and no choice of times keeps every rule
pub record Meaning (b : Book) (r : Result Solved Refusal) (times : List ℤ) : Type 0 where
  pub plan : (steps : ℕ) → r ≡ Ok (Solve.Plan steps) → Plan b times × (steps ≤ step_bound b)
  pub none : (steps : ℕ) (slip : Slip) → r ≡ Ok (Solve.None steps slip) → (Satisfiable b → ⊥) × (steps ≤ step_bound b + 1)

-- a bench run's reply and the times it left: the equations, and beside them what they mean
pub record SolvedCall (b : Book) (buffer : List ℤ) (r : Result Solved Refusal) (times : List ℤ) : Type 0 where
  pub said : solved_reply r ≡ run_reply b buffer
  pub left : times ≡ run_times b buffer
  pub means : Meaning b r times
