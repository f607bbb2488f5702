-- The ★ examples of document 01, and three with latest times of their own: one table, and one test over it.
use Rattle.std.specs.Prelude.{Bool, true, false, ◌&&◌, List, [], ◌∷◌, ℕ, ◌+◌, eqb, ℤ, pos}
use Rattle.std.specs.Bool.{beq}
use Rattle.maxatom.specs.Rule.{satisfied, tight, eq_z}
use Rattle.maxatom.specs.Class.{class_of, number_of_class}
use Rattle.maxatom.specs.Book.{Book, book, zeros, total, minus}
use Rattle.maxatom.specs.Runs.{End, planned, fell, unfinished}
use Rattle.maxatom.specs.declared.Rule.{Rule}
use Rattle.maxatom.specs.declared.Slip.{Slip}
use Rattle.maxatom.specs.declared.Class.{Class}
use Rattle.maxatom.specs.declared.Class.TheVariants.{Tautology, Contradiction, Difference}
use Rattle.derivation.specs.Refusals.{Reply, refused, answer, accepts}
use Rattle.derivation.specs.Step.{State, initial, rule_at, step_call}
use Rattle.derivation.specs.Back.{back_call}
use Rattle.derivation.specs.Run.{step_bound, solve}
use Rattle.derivation.specs.Calls.{model_check_call, tight_call, run_reply}

-- What is claimed of a book. `past_bound`: the bench run takes one step more than the bound. `refusal_is`: each call on the book's table,
-- lent the fresh board and a zero tally, is refused with this number and place.
pub data Claim : Type 0 where
  plan_said : List ℤ → Claim
  none_said : Claim
  none_at : Slip → Claim
  steps_are : ℕ → Claim
  past_bound : Claim
  refusal_is : ℕ → ℕ → Claim
  total_is : ℕ → Claim
  class_is : ℕ → Class → Claim
  tight_is : ℕ → List ℤ → Bool → Claim
  step_leaves : State → ℕ → Slip → State → Claim
  back_leaves : State → Slip → State → Claim
  satisfied_is : ℕ → List ℤ → Bool → Claim

pub record Example : Type 0 where
  pub book : Book
  pub claims : List Claim

-- (x, y, k → z)
abbrev pub rule : ℕ → ℕ → ℤ → ℕ → Rule
rule x y k z = record { x = x; y = y; z = z; k = k }

abbrev pub slip : ℕ → ℤ → ℤ → Slip
slip job before after = record { job = job; before = before; after = after }

abbrev pub state : List ℤ → ℕ → ℕ → State
state times steps minutes = record { times = times; tally = record { steps = steps; minutes = minutes } }

abbrev pub example_b : List Rule
example_b = rule 0 0 (minus 10) 1 ∷ rule 3 3 (pos 0) 2 ∷ rule 1 2 (minus 1) 3 ∷ rule 1 0 (pos 25) 3 ∷ []

abbrev pub plan_b : List ℤ
plan_b = pos 0 ∷ minus 10 ∷ minus 11 ∷ minus 11 ∷ []

abbrev pub stars : List Example
stars =
    record { book = zeros 1 []; claims = plan_said (pos 0 ∷ []) ∷ steps_are 0 ∷ [] }
    ∷ record { book = zeros 4 example_b; claims = plan_said plan_b ∷ steps_are 23 ∷ total_is 36 ∷ tight_is 0 plan_b true ∷ tight_is 1 plan_b true ∷ tight_is 2 plan_b true ∷ tight_is 3 plan_b false ∷ [] }
    ∷ record { book = zeros 4 (rule 0 0 (minus 10) 1 ∷ rule 3 3 (pos 0) 2 ∷ rule 1 2 (minus 1) 3 ∷ rule 1 0 (pos 25) 3 ∷ rule 1 2 (pos 9) 0 ∷ []); claims = none_said ∷ [] }
    ∷ record { book = zeros 1 (rule 0 0 (minus 1) 0 ∷ []); claims = class_is 0 Contradiction ∷ refusal_is 10 0 ∷ [] }
    ∷ record { book = zeros 1 (rule 0 0 (pos 0) 0 ∷ []); claims = class_is 0 Tautology ∷ plan_said (pos 0 ∷ []) ∷ steps_are 0 ∷ [] }
    ∷ record { book = zeros 2 (rule 0 1 (minus 1) 0 ∷ []); claims = class_is 0 Difference ∷ plan_said (minus 1 ∷ pos 0 ∷ []) ∷ steps_are 1 ∷ [] }
    ∷ record { book = zeros 2 (rule 0 0 (minus 5) 1 ∷ []); claims = plan_said (pos 0 ∷ minus 5 ∷ []) ∷ steps_are 1 ∷ [] }
    ∷ record { book = zeros 2 (rule 0 0 (pos 5) 1 ∷ []); claims = plan_said (pos 0 ∷ pos 0 ∷ []) ∷ tight_is 0 (pos 0 ∷ pos 0 ∷ []) false ∷ [] }
    ∷ record { book = zeros 2 (rule 0 0 (minus 1) 1 ∷ rule 1 1 (pos 0) 0 ∷ []); claims = none_at (slip 1 (minus 1) (minus 2)) ∷ steps_are 3 ∷ past_bound ∷ total_is 1 ∷ [] }
    ∷ record { book = zeros 2 (rule 0 0 (minus 1) 1 ∷ rule 1 1 (pos 1) 0 ∷ []); claims = plan_said (pos 0 ∷ minus 1 ∷ []) ∷ steps_are 1 ∷ [] }
    ∷ record {
      book = zeros 2 (rule 0 1 (minus 1) 0 ∷ rule 0 0 (minus 3) 1 ∷ []);
      claims = step_leaves (state (pos 0 ∷ minus 3 ∷ []) 1 3) 0 (slip 0 (pos 0) (minus 1)) (state (minus 1 ∷ minus 3 ∷ []) 2 4) ∷ back_leaves (state (minus 1 ∷ minus 3 ∷ []) 2 4) (slip 0 (pos 0) (minus 1)) (state (pos 0 ∷ minus 3 ∷ []) 1 3) ∷ satisfied_is 0 (minus 1 ∷ minus 3 ∷ []) false ∷ [];
    }
    ∷ record {
      book = book 2 (minus 3 ∷ minus 5 ∷ []) (rule 0 0 (minus 4) 1 ∷ []);
      claims = plan_said (minus 3 ∷ minus 7 ∷ []) ∷ steps_are 1 ∷ [];
    }
    ∷ record {
      book = book 2 (minus 2 ∷ pos 0 ∷ []) (rule 0 0 (minus 1) 1 ∷ rule 1 1 (pos 0) 0 ∷ []);
      claims = none_at (slip 1 (minus 3) (minus 4)) ∷ steps_are 3 ∷ [];
    }
    ∷ record { book = book 2 (pos 0 ∷ minus 60 ∷ []) []; claims = plan_said (pos 0 ∷ minus 60 ∷ []) ∷ steps_are 0 ∷ [] }
    ∷ []

-- the tests that the claims stand for
unfoldable pub same_times : List ℤ → List ℤ → Bool
same_times [] [] = true
same_times [] (b ∷ bs) = false
same_times (a ∷ s) [] = false
same_times (a ∷ s) (b ∷ t) = eq_z a b && same_times s t

unfoldable pub same_slip : Slip → Slip → Bool
same_slip s t = eqb s.job t.job && eq_z s.before t.before && eq_z s.after t.after

unfoldable pub says_slip : Reply Slip → Slip → Bool
says_slip (refused number place) s = false
says_slip (answer t) s = same_slip t s

unfoldable pub says_refused : {A : Type 0} → Reply A → ℕ → ℕ → Bool
says_refused (refused number place) n p = eqb number n && eqb place p
says_refused (answer a) n p = false

unfoldable pub same_end : End → End → Bool
same_end planned planned = true
same_end planned (fell j) = false
same_end planned unfinished = false
same_end (fell i) planned = false
same_end (fell i) (fell j) = same_slip i j
same_end (fell i) unfinished = false
same_end unfinished planned = false
same_end unfinished (fell j) = false
same_end unfinished unfinished = true

unfoldable pub is_fall : End → Bool
is_fall planned = false
is_fall (fell j) = true
is_fall unfinished = false

unfoldable pub same_state : State → State → Bool
same_state s t = same_times s.times t.times && eqb s.tally.steps t.tally.steps && eqb s.tally.minutes t.tally.minutes

unfoldable pub holds : Book → Claim → Bool
holds b (plan_said times) = let run = solve b in same_end run.end planned && same_times run.times times
holds b none_said = is_fall (solve b).end
holds b (none_at last) = same_end (solve b).end (fell last)
holds b (steps_are n) = eqb (solve b).steps n
holds b past_bound = eqb (solve b).steps (step_bound b + 1)
holds b (refusal_is n p) =
    let state = initial b in
    says_refused (model_check_call b state.times) n p
    && says_refused (tight_call b state.times 0) n p
    && says_refused (step_call b state 0).said n p
    && says_refused (back_call b state (slip 0 (pos 0) (minus 1))).said n p
    && says_refused (run_reply b state.times) n p
holds b (total_is n) = eqb (total b.rules) n
holds b (class_is number c) = eqb (number_of_class (class_of (rule_at b.rules number))) (number_of_class c)
holds b (tight_is number times said) = beq (tight (rule_at b.rules number) times) said
holds b (step_leaves before number took after) =
    let called = step_call b before number in
    says_slip called.said took && same_state called.after after
holds b (back_leaves before took after) = let called = back_call b before took in accepts called.said && same_state called.after after
holds b (satisfied_is number times said) = beq (satisfied (rule_at b.rules number) times) said

unfoldable pub all_hold : Book → List Claim → Bool
all_hold b [] = true
all_hold b (c ∷ claims) = holds b c && all_hold b claims

unfoldable pub right : List Example → Bool
right [] = true
right (e ∷ examples) = all_hold e.book e.claims && right examples
