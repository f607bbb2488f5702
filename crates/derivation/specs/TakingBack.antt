-- Hand steps and steps back, in any order: one statement about any list of them, and that a step and then its slip leave things as they
-- were. Their proofs: proofs/AnyOrder.antt and proofs/Slips.antt.
use Rattle.std.specs.Prelude.{◌≡◌, ◌↔◌, Bool, true, false, cond, ◌&&◌, List, [], ◌∷◌, ℕ, ◌+◌, ◌<◌, ◌≤◌, length, ℤ, pos, ◌-ℤ◌, ◌≤ℤ◌, ◌<ℤ◌}
use Rattle.maxatom.specs.Rule.{time_at, minutes_off}
use Rattle.maxatom.specs.Book.{Book, Each, Plan}
use Rattle.maxatom.specs.declared.Slip.{Slip}
use Rattle.derivation.specs.Refusals.{Reply, refused, answer, NotRefused}
use Rattle.derivation.specs.Step.{State, initial, rule_at, sum_z, fits, Called, step_call}
use Rattle.derivation.specs.Back.{back_on, back_call}
use Rattle.derivation.specs.Play.{Entry, play, end_state, answered, sum_log}
use Rattle.derivation.specs.Demands.{Due, Lowered, Unchanged, step_numbers, WithPlan, WithNone}

-- a hand step on a rule, or a step back by a slip, whoever wrote it
pub data Call : Type 0 where
  hand : ℕ → Call
  back : Slip → Call

-- a reply without what it tells
unfoldable pub done : {A : Type 0} → Reply A → Reply (Unit {0})
done (refused number place) = refused number place
done (answer a) = answer tt

-- what a call does: a hand step, of whose reply only remains that it was done, or a step back
unfoldable pub call : Book → State → Call → Called (Unit {0})
call b state (hand number) = record { said = done (step_call b state number).said; after = (step_call b state number).after }
call b state (back slip) = back_call b state slip

-- the conditions of a step back: the job is one of the book, at the slip's time after; the time before is above that and does not pass the
-- job's latest; the tally has a step, and would still fit
pub record BackDue (b : Book) (slip : Slip) (before : State) : Type 0 where
  pub of_book : slip.job < b.jobs
  pub stands : time_at before.times slip.job ≡ slip.after
  pub above : slip.after <ℤ slip.before
  pub not_late : slip.before ≤ℤ time_at b.latest slip.job
  pub has_step : 1 ≤ before.tally.steps
  pub fits_after : fits b.latest (back_on slip before).tally (back_on slip before).times ≡ true

-- "the job returns to the time before, one step leaves the tally, and so do the minutes"
pub record Returned (slip : Slip) (before after : State) : Type 0 where
  pub returned : time_at after.times slip.job ≡ slip.before
  pub no_other : (job : ℕ) → (job ≡ slip.job → ⊥) → time_at after.times job ≡ time_at before.times job
  pub same_size : length after.times ≡ length before.times
  pub one_less : after.tally.steps + 1 ≡ before.tally.steps
  pub minutes : after.tally.minutes + minutes_off slip.before slip.after ≡ before.tally.minutes

-- what makes a call one that is done
abbrev pub Allowed : Book → Call → State → Type 0
Allowed b (hand number) before = Due b number before
Allowed b (back slip) before = BackDue b slip before

-- what it does then
abbrev pub Did : Book → Call → State → State → Type 0
Did b (hand number) before after = Lowered (rule_at b.rules number) before.times after.times
Did b (back slip) before after = Returned slip before after

-- the numbers with which it is refused: those of a hand step, or those of a step back
abbrev pub call_numbers : Call → List ℕ
call_numbers (hand number) = step_numbers
call_numbers (back slip) = 27 ∷ 28 ∷ 29 ∷ []

unfoldable pub is_hand : Call → Bool
is_hand (hand number) = true
is_hand (back slip) = false

unfoldable pub is_back : Call → Bool
is_back (hand number) = false
is_back (back slip) = true

-- how many of the calls that the test picks were done
abbrev pub count_done : (Call → Bool) → List (Entry Call (Unit {0})) → ℕ
count_done picks log = sum_log (λ e. cond (picks e.asked && answered e) 1 0) log

-- the log of a list of calls from a fresh board with a zero tally, and the state after it
abbrev pub mixed_log : Book → List Call → List (Entry Call (Unit {0}))
mixed_log b calls = play (call b) (initial b) calls

abbrev pub mixed_end : Book → List Call → State
mixed_end b calls = end_state (initial b) (mixed_log b calls)

-- what holds of any list of them: with a plan or none as in demand 3, for the tally's steps, which are the hand steps done less those taken back
pub record Mixed (b : Book) (calls : List Call) : Type 0 where
  pub exactly : Each (λ e. (answered e ≡ true) ↔ Allowed b e.asked e.before) (mixed_log b calls)
  pub did : Each (λ e. answered e ≡ true → Did b e.asked e.before e.after) (mixed_log b calls)
  pub others : Each (λ e. answered e ≡ false → Unchanged (call_numbers e.asked) e) (mixed_log b calls)
  pub steps : (mixed_end b calls).tally.steps + count_done is_back (mixed_log b calls) ≡ count_done is_hand (mixed_log b calls)
  pub minutes : pos (mixed_end b calls).tally.minutes ≡ sum_z b.latest -ℤ sum_z (mixed_end b calls).times
  pub with_plan : (plan : List ℤ) → Plan b plan → WithPlan b plan (mixed_end b calls).times (mixed_end b calls).tally.steps
  pub with_none : (((plan : List ℤ) × Plan b plan) → ⊥) → WithNone b (mixed_end b calls).times (mixed_end b calls).tally.steps

-- any list of hand steps and steps back on a book that isn't refused
abbrev pub TakingBack : Type 0
TakingBack = (b : Book) → NotRefused b → (calls : List Call) → Mixed b calls

-- "a step and then its slip restore board and tally", from any state in which the step is done
abbrev pub Restores : Type 0
Restores =
    (b : Book) (state : State) (number : ℕ) (slip : Slip) → (step_call b state number).said ≡ answer slip →
    back_call b (step_call b state number).after slip ≡ record { said = answer tt; after = state }
