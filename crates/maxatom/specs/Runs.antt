-- Runs: passes over clauses from given times, a step on each violated one.
use Rattle.std.specs.Prelude.{cond, Option, Some, None, List, [], ◌∷◌, ℕ, zero, suc, ◌+◌, eqb, ℤ}
use Rattle.std.specs.Int.Signed.{lt_z}
use Rattle.maxatom.specs.Rule.{time_at, minutes_off}
use Rattle.maxatom.specs.Clauses.{Clause, left_of, kept, stepped}
use Rattle.maxatom.specs.declared.Slip.{Slip}

-- what a step on a clause takes off
abbrev pub slip_at : List ℤ → Clause → Slip
slip_at times c = record { job = c.target; before = time_at times c.target; after = left_of (time_at times) c }

-- what a pass leaves: the times, the steps so far, and the slip of the step that fell, where one did
pub record Pass : Type 0 where
  pub times : List ℤ
  pub steps : ℕ
  pub fallen : Option Slip

-- one pass: a step on each violated clause, and an end at once when a time falls below the floor
unfoldable pub pass : ℤ → List Clause → List ℤ → ℕ → Pass
pass floor [] times steps = record { times = times; steps = steps; fallen = None }
pass floor (c ∷ cs) times steps =
    let lowered = stepped times c in
    let next = pass floor cs times steps in
    let down = pass floor cs lowered (steps + 1) in
    cond (kept c times) next
    (cond (lt_z (left_of (time_at times) c) floor) (record { times = lowered; steps = steps + 1; fallen = Some (slip_at times c) }) down)

-- how a run stands: a plan; none, with the slip of the step that fell; or not at its end
pub data End : Type 0 where
  planned : End
  fell : Slip → End
  unfinished : End

pub record Run : Type 0 where
  pub times : List ℤ
  pub steps : ℕ
  pub end : End

-- at most n passes: the run ends after a pass without a step, or at once where a time falls
unfoldable pub passes : ℕ → ℤ → List Clause → List ℤ → ℕ → Run
passes zero floor cs times steps = record { times = times; steps = steps; end = unfinished }
passes (suc n) floor cs times steps =
    let p = pass floor cs times steps in
    let ended : End → Run = λ end. record { times = p.times; steps = p.steps; end = end } in
    let more = passes n floor cs p.times p.steps in
    elim p.fallen [ Some slip ↦ ended (fell slip) | None ↦ cond (eqb p.steps steps) (ended planned) more ]

-- the sum of a measure over the times
unfoldable pub sum_by : (ℤ → ℕ) → List ℤ → ℕ
sum_by w [] = 0
sum_by w (t ∷ b) = w t + sum_by w b

-- the minutes from the times down to the floor
abbrev pub room : ℤ → List ℤ → ℕ
room floor times = sum_by (λ t. minutes_off t floor) times

-- a run from the times: each pass but the last takes off a minute or more, so that one pass more than the room is always enough
unfoldable pub run : ℤ → List Clause → List ℤ → Run
run floor cs times = passes (room floor times + 1) floor cs times 0
