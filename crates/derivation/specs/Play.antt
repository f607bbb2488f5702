-- Lists of calls. Each call begins with the state that the one before left; what a call does is a parameter.
use Rattle.std.specs.Prelude.{Bool, cond, List, [], ◌∷◌, ◌++◌, ℕ, zero, suc, ◌+◌}
use Rattle.maxatom.specs.Rule.{time_at, minutes_off}
use Rattle.maxatom.specs.declared.Rule.{Rule}
use Rattle.derivation.specs.Refusals.{Reply, accepts}
use Rattle.derivation.specs.Step.{State, rule_at, Called}

-- a call of the list: what was asked for, the reply, and the states around it
pub record Entry (Q A : Type 0) : Type 0 where
  pub asked : Q
  pub said : Reply A
  pub before : State
  pub after : State

unfoldable pub play : {Q A : Type 0} → (State → Q → Called A) → State → List Q → List (Entry Q A)
play call state [] = []
play call state (asked ∷ calls) =
    let called = call state asked in
    record { asked = asked; said = called.said; before = state; after = called.after } ∷ play call called.after calls

-- the state after the list
unfoldable pub end_state : {Q A : Type 0} → State → List (Entry Q A) → State
end_state state [] = state
end_state state (e ∷ log) = end_state e.after log

-- a call isn't refused; of a hand step document 01 says that it steps
unfoldable pub answered : {Q A : Type 0} → Entry Q A → Bool
answered e = accepts e.said

-- the sum of a number of each call
unfoldable pub sum_log : {Q A : Type 0} → (Entry Q A → ℕ) → List (Entry Q A) → ℕ
sum_log f [] = 0
sum_log f (e ∷ log) = f e + sum_log f log

-- how many of the calls weren't refused
abbrev pub count_steps : {Q A : Type 0} → List (Entry Q A) → ℕ
count_steps log = sum_log (λ e. cond (answered e) 1 0) log

-- the minutes that a step took off its rule's third job
unfoldable pub took_off : {A : Type 0} → List Rule → Entry ℕ A → ℕ
took_off rules e =
    let job = (rule_at rules e.asked).z in
    minutes_off (time_at e.before.times job) (time_at e.after.times job)

-- the minutes that all the steps of the list took off
abbrev pub sum_minutes : {A : Type 0} → List Rule → List (Entry ℕ A) → ℕ
sum_minutes rules log = sum_log (λ e. cond (answered e) (took_off rules e) 0) log

-- `count` numbers, from `at` on
unfoldable pub up_from : ℕ → ℕ → List ℕ
up_from at zero = []
up_from at (suc count) = at ∷ up_from (at + 1) count

-- the rule numbers from 0 upward, and again: the calls of `passes` passes over `count` rules
unfoldable pub rounds : ℕ → ℕ → List ℕ
rounds zero count = []
rounds (suc passes) count = up_from 0 count ++ rounds passes count
