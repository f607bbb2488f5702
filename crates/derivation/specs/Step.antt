-- The hand step, on any arguments.
use Rattle.std.specs.Prelude.{Bool, true, false, not, ◌&&◌, ◌||◌, List, [], ◌∷◌, ◌++◌, ℕ, ◌+◌, ◌*◌, leb, length, get_or, set, ℤ, pos, ◌+ℤ◌, ◌-ℤ◌}
use Rattle.std.specs.Int.Signed.{le_z, lt_z}
use Rattle.maxatom.specs.Rule.{time_at, left_side, satisfied, eq_z, minutes_off}
use Rattle.maxatom.specs.Book.{Book, total, smallest, floor}
use Rattle.maxatom.specs.declared.Rule.{Rule}
use Rattle.maxatom.specs.declared.Slip.{Slip}
use Rattle.derivation.specs.Refusals.{Reply, Check, check, reply, lent, times_checks, rule_check}
use Rattle.derivation.specs.declared.Tally.{Tally}

-- a board and the tally lent with it
pub record State : Type 0 where
  pub times : List ℤ
  pub tally : Tally

-- fresh board, which holds the latest times, and zero tally
abbrev pub initial : Book → State
initial b = record { times = b.latest; tally = record { steps = 0; minutes = 0 } }

-- stands for the rule of a number that no rule has
abbrev pub no_rule : Rule
no_rule = record { x = 0; y = 0; z = 0; k = pos 0 }

-- the rule of a number
abbrev pub rule_at : List Rule → ℕ → Rule
rule_at rules number = get_or rules number no_rule

-- the lowest legal time: the smallest latest time minus 2K
abbrev pub lowest : Book → ℤ
lowest b = smallest b.latest -ℤ pos (2 * total b.rules)

-- legal: each time is from the lowest to the job's own latest time
unfoldable pub in_range : ℤ → List ℤ → List ℤ → Bool
in_range low [] times = true
in_range low (l ∷ latest) [] = true
in_range low (l ∷ latest) (t ∷ times) = le_z low t && le_z t l && in_range low latest times

-- shows none: some time is below the floor
unfoldable pub below_floor : ℤ → List ℤ → Bool
below_floor f [] = false
below_floor f (t ∷ times) = lt_z t f || below_floor f times

unfoldable pub sum_z : List ℤ → ℤ
sum_z [] = pos 0
sum_z (t ∷ times) = t +ℤ sum_z times

-- fits: the minutes are the sum of the latest times minus that of the times, and the steps are no more than the minutes
unfoldable pub fits : List ℤ → Tally → List ℤ → Bool
fits latest tally times = eq_z (pos tally.minutes) (sum_z latest -ℤ sum_z times) && leb tally.steps tally.minutes

-- the refusals of a hand step for the rule it names; 25: the board shows none; 26: the rule is kept
abbrev pub rule_step_checks : Book → State → ℕ → List Check
rule_step_checks b state number =
    rule_check (length b.rules) number
    ∷ check (below_floor (floor b) state.times) 25 0
    ∷ check (satisfied (rule_at b.rules number) state.times) 26 0
    ∷ []

-- The checks of a call that is lent a board and a tally: those of the table, the latest times and the board's length, then 22: the board isn't
-- legal, then 23: the tally doesn't fit.
unfoldable pub state_checks : Book → State → List Check
state_checks b state =
    times_checks b state.times
    ++ (check (not (in_range (lowest b) b.latest state.times)) 22 0 ∷ check (not (fits b.latest state.tally state.times)) 23 0 ∷ [])

-- the checks of a hand step
unfoldable pub step_checks : Book → State → ℕ → List Check
step_checks b state number = state_checks b state ++ rule_step_checks b state number

-- what a step on a rule takes off: the third job, its time before, and the left side, which is its time after
abbrev pub slip_of : Rule → List ℤ → Slip
slip_of r times = record { job = r.z; before = time_at times r.z; after = left_side r times }

-- sets z's time to the left side, and brings the tally up to date
unfoldable pub step_on : Rule → State → State
step_on r state =
    let left = left_side r state.times in
    record {
      times = set state.times r.z left;
      tally = record { steps = state.tally.steps + 1; minutes = state.tally.minutes + minutes_off (time_at state.times r.z) left };
    }

-- a call's reply, and the state that it leaves
pub record Called (A : Type 0) : Type 0 where
  pub said : Reply A
  pub after : State

-- a call under checks that would answer a, and take one state to another
unfoldable pub called_by : {A : Type 0} → List Check → A → State → State → Called A
called_by checks a before after = let said = reply checks a in record { said = said; after = lent said before after }

-- hand step, which tells what it took off
unfoldable pub step_call : Book → State → ℕ → Called Slip
step_call b state number =
    let r = rule_at b.rules number in
    called_by (step_checks b state number) (slip_of r state.times) state (step_on r state)
