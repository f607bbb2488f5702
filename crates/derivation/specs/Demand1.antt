-- Demand 1, as one statement: what each call on a table says, over any arguments at all. Its proof: proofs/Refusing.antt.
use Rattle.std.specs.Prelude.{◌≡◌, ◌↔◌, true, false, List, [], ◌∷◌, ◌++◌, ℕ, length, ℤ}
use Rattle.std.specs.List.{Contains}
use Rattle.maxatom.specs.Book.{Each, Book}
use Rattle.maxatom.specs.declared.Slip.{Slip}
use Rattle.derivation.specs.Refusals.{Reply, refused, accepts, Check, check, times_checks, rule_check}
use Rattle.derivation.specs.Step.{State, step_checks, step_call}
use Rattle.derivation.specs.Back.{back_checks, back_call}
use Rattle.derivation.specs.Calls.{model_check_call, tight_call, initial_checks, initial_reply, initial_times, run_reply, run_times}

-- "its condition is the first to hold": a condition with this number and place holds, and none that stands before it in the list
pub record FirstHolds (checks : List Check) (number place : ℕ) : Type 0 where
  pub earlier : List Check
  pub later : List Check
  pub stands : checks ≡ earlier ++ check true number place ∷ later
  pub none_before : Each (λ c. c.fails ≡ false) earlier

-- what a call says whose refusals are a list of conditions, with these numbers: "each number is said when its condition is the first to hold,
-- and at no other time"; else it answers
pub record Refuses {A : Type 0} (numbers : List ℕ) (checks : List Check) (said : Reply A) : Type 0 where
  pub exactly : (number place : ℕ) → (said ≡ refused number place) ↔ FirstHolds checks number place
  pub answers : (accepts said ≡ true) ↔ Each (λ c. c.fails ≡ false) checks
  pub own : (number place : ℕ) → said ≡ refused number place → Contains numbers number

-- and "a refusal changes nothing that was lent": what was lent before the call, and what the call left of it
pub record Refusing {A S : Type 0} (numbers : List ℕ) (checks : List Check) (said : Reply A) (before left : S) : Type 0 where
  pub says : Refuses numbers checks said
  pub unchanged : (number place : ℕ) → said ≡ refused number place → left ≡ before

-- the calls on a table, and the fresh board, each with its numbers; the two tests are lent nothing that they could change
pub record Demand1 : Type 0 where
  -- kept test
  pub model_check : (b : Book) (times : List ℤ) →
      Refuses (4 ∷ 5 ∷ 6 ∷ 7 ∷ 8 ∷ 10 ∷ 21 ∷ []) (times_checks b times) (model_check_call b times)
  -- tight test
  pub tight : (b : Book) (times : List ℤ) (number : ℕ) →
      Refuses (4 ∷ 5 ∷ 6 ∷ 7 ∷ 8 ∷ 10 ∷ 21 ∷ 24 ∷ []) (times_checks b times ++ (rule_check (length b.rules) number ∷ []))
      (tight_call b times number)
  -- fresh board
  pub initial : (jobs : ℕ) (latest times : List ℤ) →
      Refusing (4 ∷ 8 ∷ 21 ∷ []) (initial_checks jobs latest times) (initial_reply jobs latest times) times (initial_times jobs latest times)
  -- hand step: board and tally
  pub step : (b : Book) (state : State) (number : ℕ) →
      Refusing (4 ∷ 5 ∷ 6 ∷ 7 ∷ 8 ∷ 10 ∷ 21 ∷ 22 ∷ 23 ∷ 24 ∷ 25 ∷ 26 ∷ []) (step_checks b state number)
      (step_call b state number).said state (step_call b state number).after
  -- step back: board and tally
  pub back : (b : Book) (state : State) (slip : Slip) →
      Refusing (4 ∷ 5 ∷ 6 ∷ 7 ∷ 8 ∷ 10 ∷ 21 ∷ 22 ∷ 23 ∷ 27 ∷ 28 ∷ 29 ∷ []) (back_checks b state slip)
      (back_call b state slip).said state (back_call b state slip).after
  -- bench run
  pub solve : (b : Book) (buffer : List ℤ) →
      Refusing (4 ∷ 5 ∷ 6 ∷ 7 ∷ 8 ∷ 10 ∷ 21 ∷ []) (times_checks b buffer) (run_reply b buffer) buffer (run_times b buffer)
