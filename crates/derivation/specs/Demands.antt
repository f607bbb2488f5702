-- Demands 2 and 3, each as one statement. Their proofs: proofs/Exact.antt and proofs/AnyOrder.antt.
use Rattle.std.specs.Prelude.{◌≡◌, ◌↔◌, true, false, List, [], ◌∷◌, ◌++◌, ℕ, ◌+◌, ◌*◌, ◌<◌, ◌≤◌, length, set, ℤ, ◌≤ℤ◌, ◌<ℤ◌}
use Rattle.std.specs.List.{Contains}
use Rattle.maxatom.specs.Rule.{time_at, left_side, satisfied}
use Rattle.maxatom.specs.Book.{Book, zeros, Each, AllSatisfied, Satisfiable, Plan, Under, total, minus, floor}
use Rattle.maxatom.specs.declared.Rule.{Rule}
use Rattle.maxatom.specs.declared.Slip.{Slip}
use Rattle.maxatom.specs.Runs.{planned, fell, unfinished}
use Rattle.derivation.specs.Refusals.{refused, answer, NotRefused}
use Rattle.derivation.specs.Step.{State, initial, rule_at, lowest, below_floor, step_call}
use Rattle.derivation.specs.Play.{Entry, play, end_state, answered, count_steps, sum_minutes, rounds}
use Rattle.derivation.specs.Run.{step_bound, pass_bound, solve}

-- Demand 3. A call "that named a rule of the book, broken just then, while no job stood below the floor"
pub record Due (b : Book) (number : ℕ) (before : State) : Type 0 where
  pub of_book : number < length b.rules
  pub violated : satisfied (rule_at b.rules number) before.times ≡ false
  pub above : below_floor (floor b) before.times ≡ false

-- "lowered the rule's third job, and no other, to what the rule allows"
pub record Lowered (r : Rule) (before after : List ℤ) : Type 0 where
  pub allowed : time_at after r.z ≡ left_side r before
  pub lower : time_at after r.z <ℤ time_at before r.z
  pub no_other : (job : ℕ) → (job ≡ r.z → ⊥) → time_at after job ≡ time_at before job
  pub same_size : length after ≡ length before

-- what a hand step tells: the rule's third job, and its times before and after
pub record Told (r : Rule) (before after : List ℤ) (slip : Slip) : Type 0 where
  pub job_is : slip.job ≡ r.z
  pub before_is : slip.before ≡ time_at before r.z
  pub after_is : slip.after ≡ time_at after r.z

-- any hand step, on anything, that is answered
abbrev pub StepTells : Type 0
StepTells =
    (b : Book) (state : State) (number : ℕ) (slip : Slip) → (step_call b state number).said ≡ answer slip →
    Told (rule_at b.rules number) state.times (step_call b state number).after.times slip

-- "the other calls changed nothing", and were refused with one of these numbers
pub record Unchanged {Q A : Type 0} (numbers : List ℕ) (e : Entry Q A) : Type 0 where
  pub same : e.after ≡ e.before
  pub number : (n : ℕ) × Contains numbers n × (e.said ≡ refused n 0)

-- those of a hand step
abbrev pub step_numbers : List ℕ
step_numbers = 24 ∷ 25 ∷ 26 ∷ []

-- "If a plan exists"
pub record WithPlan (b : Book) (plan times : List ℤ) (steps : ℕ) : Type 0 where
  pub not_below_plan : Under plan times
  pub not_below_floor : below_floor (floor b) times ≡ false
  pub bound : steps ≤ step_bound b
  pub at_bound : steps ≡ step_bound b → AllSatisfied b.rules times
  pub is_plan : (times ≡ plan) ↔ AllSatisfied b.rules times

-- "If none exists"
pub record WithNone (b : Book) (times : List ℤ) (steps : ℕ) : Type 0 where
  pub violated : (number : ℕ) × (number < length b.rules) × (satisfied (rule_at b.rules number) times ≡ false)
  pub bound : steps ≤ step_bound b + 1
  pub at_bound : steps ≡ step_bound b + 1 → below_floor (floor b) times ≡ true

-- the log of a list of hand steps from a fresh board with a zero tally, and the state after it
abbrev pub log_of : Book → List ℕ → List (Entry ℕ Slip)
log_of b calls = play (step_call b) (initial b) calls

abbrev pub finally : Book → List ℕ → State
finally b calls = end_state (initial b) (log_of b calls)

pub record AnyOrder (b : Book) (calls : List ℕ) : Type 0 where
  pub exactly : Each (λ e. (answered e ≡ true) ↔ Due b e.asked e.before) (log_of b calls)
  pub lowered : Each (λ e. answered e ≡ true → Lowered (rule_at b.rules e.asked) e.before.times e.after.times) (log_of b calls)
  pub others : Each (λ e. answered e ≡ false → Unchanged step_numbers e) (log_of b calls)
  pub steps : (finally b calls).tally.steps ≡ count_steps (log_of b calls)
  pub minutes : (finally b calls).tally.minutes ≡ sum_minutes b.rules (log_of b calls)
  pub with_plan : (plan : List ℤ) → Plan b plan → WithPlan b plan (finally b calls).times (count_steps (log_of b calls))
  pub with_none : (((plan : List ℤ) × Plan b plan) → ⊥) → WithNone b (finally b calls).times (count_steps (log_of b calls))

-- any list of hand steps on a book that isn't refused
abbrev pub Demand3 : Type 0
Demand3 = (b : Book) → NotRefused b → (calls : List ℕ) → AnyOrder b calls

-- Demand 2: a plan if and only if some choice of whole-number times keeps every rule, "none" in every other case
pub record Exact (b : Book) : Type 0 where
  pub plan_iff : ((solve b).end ≡ planned) ↔ Satisfiable b
  pub plan_is : (solve b).end ≡ planned → Plan b (solve b).times
  pub none_iff : ((slip : Slip) × ((solve b).end ≡ fell slip)) ↔ (Satisfiable b → ⊥)

abbrev pub Demand2 : Type 0
Demand2 = (b : Book) → NotRefused b → Exact b

-- the bench run as a list of hand steps: the passes that it can make
abbrev pub run_list : Book → List ℕ
run_list b = rounds (pass_bound b) (length b.rules)

-- the bench run's last step, and the board of one step earlier: that of the end, with the slip's job put back at its time before
pub record LastStep (b : Book) (slip : Slip) : Type 0 where
  pub calls : List ℕ
  pub number : ℕ
  pub rest : List ℕ
  pub of_run : run_list b ≡ calls ++ number ∷ rest
  pub one_less : (finally b calls).tally.steps + 1 ≡ (solve b).steps
  pub told : (step_call b (finally b calls) number).said ≡ answer slip
  pub put_back : (finally b calls).times ≡ set (solve b).times slip.job slip.before

-- what the slip of a run for none says: the job stands at its time after, which is below the floor, and its time before is not
pub record Fallen (b : Book) (slip : Slip) : Type 0 where
  pub of_book : slip.job < b.jobs
  pub stands : time_at (solve b).times slip.job ≡ slip.after
  pub below : slip.after <ℤ floor b
  pub above : floor b ≤ℤ slip.before
  pub last : LastStep b slip

-- how the bench run goes: it ends, within the bounds, as its round-robin list of hand steps does
pub record RunFacts (b : Book) : Type 0 where
  pub ends : (solve b).end ≡ unfinished → ⊥
  pub plan_steps : (solve b).end ≡ planned → (solve b).steps ≤ step_bound b
  pub none_steps : (slip : Slip) → (solve b).end ≡ fell slip → (solve b).steps ≤ step_bound b + 1
  pub fallen : (slip : Slip) → (solve b).end ≡ fell slip → Fallen b slip
  pub times_are : (finally b (run_list b)).times ≡ (solve b).times
  pub same_steps : (finally b (run_list b)).tally.steps ≡ (solve b).steps

-- the bench run of any book that isn't refused
abbrev pub RunsSo : Type 0
RunsSo = (b : Book) → NotRefused b → RunFacts b

-- what the documents say of plans
pub record PlanFacts (b : Book) : Type 0 where
  pub plan_iff_model : ((plan : List ℤ) × Plan b plan) ↔ Satisfiable b
  pub unique : (p q : List ℤ) → Plan b p → Plan b q → p ≡ q
  pub at_latest : (plan : List ℤ) → Plan b plan → (job : ℕ) × (job < b.jobs) × (time_at plan job ≡ time_at b.latest job)

-- the plans of any book that isn't refused
abbrev pub PlansSo : Type 0
PlansSo = (b : Book) → NotRefused b → PlanFacts b

-- what document 01 has of a book in which every latest time is zero: the floor −K, legal times from −2K to 0, and the bound n × K
pub record AtZero (jobs : ℕ) (rules : List Rule) : Type 0 where
  pub floor_is : floor (zeros jobs rules) ≡ minus (total rules)
  pub lowest_is : lowest (zeros jobs rules) ≡ minus (2 * total rules)
  pub bound_is : step_bound (zeros jobs rules) ≡ jobs * total rules
