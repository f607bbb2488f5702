-- Demand 3, and what any list of hand steps and steps back does, from one invariant. Assumes nothing.
use mathlib.Core.Path.{◌≡◌, refl, sym, ap, subst, ◌∙◌}
use mathlib.Core.Logic.{◌↔◌, ◌⊎◌, inl, inr, ⊎_elim}
use mathlib.Core.Bool.{Bool, true, false, not, cond, ◌&&◌}
use mathlib.Core.List.{List, [], ◌∷◌}
use Prim.Native.Nat.{ℕ, suc, ◌+◌, ◌-◌, ◌<◌, ◌≤◌}
use native.Mathlib.Omega.{arith}
use lib.ListN.{length, length-set}
use lib.Seq.{get_or-set_same, get_or-set_other}
use lib.IntN.{ℤ, pos}
use lib.Signed.{◌<ℤ◌}
use borrow.Author.Tests.{leb-true, eqb-false, ne_eqb, not-false}
use Rattle.std.specs.List.{Contains}
use Rattle.std.proofs.lemmas.Bool.{and_parts}
use Rattle.maxatom.specs.Rule.{time_at, left_side, satisfied, minutes_off}
use Rattle.maxatom.specs.Book.{Book, Each, AllSatisfied, Model, Plan, Under, floor}
use Rattle.maxatom.specs.Accepted.{InBook, Accepted}
use Rattle.maxatom.specs.declared.Rule.{Rule}
use Rattle.maxatom.specs.declared.Slip.{Slip}
use Rattle.maxatom.specs.Clauses.{clause_of, clauses_of}
use Rattle.maxatom.proofs.Choose.{clash}
use Rattle.maxatom.proofs.Integers.{up, dn, le_read, le_make, lt_read, le_false, lt_false, false_le, false_lt, eq_true, true_eq, off_parts, by_test_not}
use Rattle.maxatom.proofs.Lists.{each_map, each_place}
use Rattle.maxatom.proofs.Derivations.{Derivation, start, step, raise, same_length, one_below, minutes_lost, longest, longest_high, stays_high, full, lemma_7, under_latest}
use Rattle.maxatom.proofs.Rules.{left_same, in_clauses, keeps_all, kept_all, setting}
use Rattle.maxatom.proofs.Plans.{plan_unique}
use Rattle.derivation.specs.Refusals.{Reply, refused, answer, accepts}
use Rattle.derivation.specs.Step.{State, initial, no_rule, rule_at, below_floor, fits, step_on, Called, step_call}
use Rattle.derivation.specs.Back.{back_on, slip_differs, tally_short, back_call}
use Rattle.derivation.specs.Play.{Entry, play, end_state, answered, sum_log, count_steps, took_off}
use Rattle.derivation.specs.Demands.{Due, Lowered, Unchanged, step_numbers, WithPlan, WithNone, Demand3}
use Rattle.derivation.specs.TakingBack.{Call, hand, back, done, call, BackDue, Returned, Allowed, Did, call_numbers, is_hand, is_back, TakingBack}
use Rattle.derivation.proofs.Checks.{neither, neither_from, accepted_iff}
use Rattle.derivation.proofs.Reached.{Reached, high_test, test_high, floor_low, size_is, sums, View, no_rule_lem, too_low, kept, steps, view, BackView, no_job, differs_lem, short_lem, returns, back_view}

pub each_at : (P : Rule → Type 0) (rules : List Rule) (number : ℕ) → number < length rules → Each P rules → P (rule_at rules number)
each_at P rules number h e = each_place P rules number no_rule h e

pub broken : (r : Rule) (times : List ℤ) → satisfied r times ≡ false → left_side r times <ℤ time_at times r.z
unfolding satisfied
broken r times e = le_false _ _ e

-- a call of a list
abbrev entry_of : {Q A : Type 0} → (State → Q → Called A) → State → Q → Entry Q A
entry_of call state asked = record { asked = asked; said = (call state asked).said; before = state; after = (call state asked).after }

module _ {Q A : Type 0} (call : State → Q → Called A) where
  -- what each call keeps, and what is shown of each on the way
  pub play_all : (R : State → Type 0) (S : Entry Q A → Type 0) →
      ((state : State) (asked : Q) → R state → S (entry_of call state asked) × R (call state asked).after) →
      (state : State) → R state → (calls : List Q) → Each S (play call state calls) × R (end_state state (play call state calls))
  unfolding play end_state
  play_all R S on state r [] = (tt, r)
  play_all R S on state r (asked ∷ calls) =
      let first = on state asked r in
      let ih = play_all R S on (call state asked).after first.1 calls in
      ((first.0, ih.0), ih.1)

  -- a number of the state, changed by each call, is changed by their sums
  pub play_sums : (m : State → ℕ) (f g : Entry Q A → ℕ) (state : State) (calls : List Q) →
      Each (λ e. m e.before + f e ≡ m e.after + g e) (play call state calls) →
      m state + sum_log f (play call state calls) ≡ m (end_state state (play call state calls)) + sum_log g (play call state calls)
  unfolding play end_state sum_log
  play_sums m f g state [] e = refl
  play_sums m f g state (asked ∷ calls) e = omega (arith, e.0, play_sums m f g (call state asked).after calls e.1)

pub sum_none : {Q A : Type 0} (log : List (Entry Q A)) → sum_log (λ e. 0) log ≡ 0
unfolding sum_log
sum_none [] = refl
sum_none (e ∷ log) = omega (arith, sum_none log)

-- what is shown of one hand step of the list
pub record Shown (b : Book) (e : Entry ℕ Slip) : Type 0 where
  pub exactly : (answered e ≡ true) ↔ Due b e.asked e.before
  pub lowered : answered e ≡ true → Lowered (rule_at b.rules e.asked) e.before.times e.after.times
  pub others : answered e ≡ false → Unchanged step_numbers e
  pub steps_on : e.before.tally.steps + cond (answered e) 1 0 ≡ e.after.tally.steps + 0
  pub minutes_on : e.before.tally.minutes + cond (answered e) (took_off b.rules e) 0 ≡ e.after.tally.minutes + 0

-- and of one call, a hand step or a step back
pub record ShownCall (b : Book) (e : Entry Call (Unit {0})) : Type 0 where
  pub exactly : (answered e ≡ true) ↔ Allowed b e.asked e.before
  pub did : answered e ≡ true → Did b e.asked e.before e.after
  pub others : answered e ≡ false → Unchanged (call_numbers e.asked) e
  pub counted : e.before.tally.steps + cond (is_hand e.asked && answered e) 1 0 ≡ e.after.tally.steps + cond (is_back e.asked && answered e) 1 0

done_accepts : {A : Type 0} (said : Reply A) → accepts (done said) ≡ accepts said
unfolding done accepts
done_accepts (refused number place) = refl
done_accepts (answer a) = refl

done_refused : {A : Type 0} {said : Reply A} {number : ℕ} → said ≡ refused number 0 → done said ≡ refused number 0
unfolding done
done_refused e = ap done e

-- a hand step as a call
as_call : {b : Book} {e : Entry ℕ Slip} → Shown b e → ShownCall b (record { asked = hand e.asked; said = done e.said; before = e.before; after = e.after })
unfolding answered is_hand is_back
as_call {e = e} s =
    let same = done_accepts e.said in
    record {
      exactly = rw same s.exactly;
      did = λ q. s.lowered (sym same ∙ q);
      others = λ q. let u = s.others (sym same ∙ q) in record { same = u.same; number = (u.number.0, u.number.1, done_refused u.number.2) };
      counted = rw same s.steps_on;
    }

module _ {b : Book} (a : Accepted b) where
  -- a step from a reached state
  module _ {state : State} (d : Reached b state) (number : ℕ) (h : number < length b.rules)
      (above : below_floor (floor b) state.times ≡ false) (violated : satisfied (rule_at b.rules number) state.times ≡ false) where
    left_lower : left_side (rule_at b.rules number) state.times <ℤ time_at state.times (rule_at b.rules number).z
    left_lower = broken _ _ violated

    pub reached_step : Reached b (step_on (rule_at b.rules number) state)
    unfolding step_on
    reached_step =
        let r = rule_at b.rules number in
        rw (left_same r state.times) at
        (step (clause_of r) d
        (record {
          among = in_clauses b.rules number no_rule h;
          high = test_high (floor b) state.times (floor_low a) above;
          violated = rw (left_same r state.times) left_lower;
        }))

    pub allowed : time_at (step_on (rule_at b.rules number) state).times (rule_at b.rules number).z ≡ left_side (rule_at b.rules number) state.times
    unfolding step_on
    allowed =
        get_or-set_same state.times _ _ (pos 0)
        (subst (λ (n : ℕ). (rule_at b.rules number).z < n) (sym (size_is a d)) (each_at (InBook b.jobs) b.rules number h a.rules_in).third)

    lowers : Lowered (rule_at b.rules number) state.times (step_on (rule_at b.rules number) state).times
    unfolding step_on
    lowers =
        record {
          allowed = allowed;
          lower = rw allowed left_lower;
          no_other = λ job other. get_or-set_other state.times _ job _ (pos 0) other;
          same_size = length-set state.times _ _;
        }

  -- a refused hand step
  stays : (state : State) (asked number : ℕ) → (Due b asked state → ⊥) → Contains step_numbers number →
      Shown b (record { asked = asked; said = refused number 0; before = state; after = state })
  unfolding answered accepts
  stays state asked number not-due own =
      record {
        exactly = ((λ e. clash e refl), (λ due. absurd (not-due due)));
        lowered = λ e. clash e refl;
        others = λ e. record { same = refl; number = (number, own, refl) };
        steps_on = refl;
        minutes_on = refl;
      }

  entry : (state : State) (number : ℕ) → Reached b state → (called : Called Slip) → View a state number called →
      Shown b (record { asked = number; said = called.said; before = state; after = called.after }) × Reached b called.after
  unfolding answered accepts took_off step_on
  entry state number d called (no_rule_lem h) = (stays state number 24 (λ due. omega (arith, due.of_book)) (0, omega arith, refl), d)
  entry state number d called (too_low h low) = (stays state number 25 (λ due. clash low due.above) (1, omega arith, refl), d)
  entry state number d called (kept h above sat) = (stays state number 26 (λ due. clash sat due.violated) (2, omega arith, refl), d)
  entry state number d called (steps h above violated) = (
    record {
      exactly = ((λ e. record { of_book = h; violated = violated; above = above }), (λ due. refl));
      lowered = λ e. lowers d number h above violated;
      others = λ e. clash refl e;
      steps_on = omega arith;
      minutes_on = rw (allowed d number h above violated) (omega arith);
    },
    reached_step d number h above violated,
  )

  pub step_shown : (state : State) (number : ℕ) → Reached b state → Shown b (entry_of (step_call b) state number) × Reached b (step_call b state number).after
  step_shown state number d = entry state number d (step_call b state number) (view a state number d)

  -- a refused step back
  keeps : (state : State) (slip : Slip) (number : ℕ) → (BackDue b slip state → ⊥) → Contains (call_numbers (back slip)) number →
      ShownCall b (record { asked = back slip; said = refused number 0; before = state; after = state })
  unfolding answered accepts is_hand is_back
  keeps state slip number not-due own =
      record {
        exactly = ((λ e. clash e refl), (λ due. absurd (not-due due)));
        did = λ e. clash e refl;
        others = λ e. record { same = refl; number = (number, own, refl) };
        counted = refl;
      }

  -- a step back that is done
  module _ {state : State} (d : Reached b state) (slip : Slip) (due : BackDue b slip state) where
    abbrev off : ℕ
    off = minutes_off slip.before slip.after

    inside : slip.job < length state.times
    inside = rw (size_is a d) due.of_book

    enough : off ≤ state.tally.minutes
    enough =
        omega (
          arith,
          minutes_lost (setting a) d,
          one_below b.latest state.times slip.job (same_length d) (under_latest d),
          off_parts slip.before slip.after (le_make (omega (arith, lt_read due.above))),
          le_read due.not_late,
          ap up due.stands,
          ap dn due.stands,
        )

    reached_back : Reached b (back_on slip state)
    unfolding fits
    reached_back =
        raise slip.job slip.before
        (subst (λ (n : ℕ). Derivation (clauses_of b.rules) (floor b) b.latest state.times (state.tally.steps - 1 + 1) n) (rw due.stands (omega (arith, enough)))
        (subst (λ (n : ℕ). Derivation (clauses_of b.rules) (floor b) b.latest state.times n state.tally.minutes) (omega (arith, due.has_step)) d))
        (record { inside = rw a.size due.of_book; later = rw due.stands due.above; not_late = due.not_late })
        (leb-true _ _ (and_parts _ _ due.fits_after).1)

    returned : Returned slip state (back_on slip state)
    returned =
        record {
          returned = get_or-set_same state.times slip.job slip.before (pos 0) inside;
          no_other = λ job other. get_or-set_other state.times slip.job job slip.before (pos 0) other;
          same_size = length-set state.times slip.job slip.before;
          one_less = omega (arith, due.has_step);
          minutes = omega (arith, enough);
        }

  -- the tests on a slip, as facts
  due_of : (state : State) (slip : Slip) → slip.job < b.jobs → slip_differs b state slip ≡ false → tally_short b state slip ≡ false → BackDue b slip state
  unfolding slip_differs tally_short
  due_of state slip h d u =
      let (stands, times) = neither _ _ d in
      let (above, late) = neither _ _ times in
      let (some, fit) = neither _ _ u in
      record {
        of_book = h;
        stands = eq_true _ _ (not-false _ stands);
        above = le_false _ _ above;
        not_late = lt_false _ _ late;
        has_step = omega (arith, eqb-false _ _ some);
        fits_after = not-false _ fit;
      }

  pub differs_not : (state : State) (slip : Slip) → BackDue b slip state → slip_differs b state slip ≡ false
  unfolding slip_differs
  differs_not state slip due =
      neither_from _ _ (ap not (true_eq _ _ due.stands)) (neither_from _ _ (false_le due.above) (false_lt due.not_late))

  pub short_not : (state : State) (slip : Slip) → BackDue b slip state → tally_short b state slip ≡ false
  unfolding tally_short
  short_not state slip due = neither_from _ _ (ne_eqb _ _ (λ e. omega (arith, due.has_step, e))) (ap not due.fits_after)

  back_entry : (state : State) (slip : Slip) → Reached b state → (called : Called (Unit {0})) → BackView a state slip called →
      ShownCall b (record { asked = back slip; said = called.said; before = state; after = called.after }) × Reached b called.after
  unfolding answered accepts is_hand is_back
  back_entry state slip d called (no_job h) = (keeps state slip 27 (λ due. omega (arith, due.of_book)) (0, omega arith, refl), d)
  back_entry state slip d called (differs_lem h e) = (keeps state slip 28 (λ due. clash e (differs_not state slip due)) (1, omega arith, refl), d)
  back_entry state slip d called (short_lem h e f) = (keeps state slip 29 (λ due. clash f (short_not state slip due)) (2, omega arith, refl), d)
  back_entry state slip d called (returns h e f) =
      let due = due_of state slip h e f in (
        record {
          exactly = ((λ q. due), (λ q. refl));
          did = λ q. returned d slip due;
          others = λ q. clash refl q;
          counted = omega (arith, due.has_step);
        },
        reached_back d slip due,
      )

  pub call_shown : (state : State) (asked : Call) → Reached b state → ShownCall b (entry_of (call b) state asked) × Reached b (call b state asked).after
  unfolding call
  call_shown state (hand number) d = let s = step_shown state number d in (as_call s.0, s.1)
  call_shown state (back slip) d = back_entry state slip d (back_call b state slip) (back_view a state slip d)

-- a violated rule, or all are satisfied
search_violated : (rules : List Rule) (times : List ℤ) →
    ((number : ℕ) × (number < length rules) × (satisfied (rule_at rules number) times ≡ false)) ⊎ AllSatisfied rules times
search_violated [] times = inr tt
search_violated (r ∷ rules) times = go (satisfied r times) refl (search_violated rules times)
  where
    go : (b : Bool) → satisfied r times ≡ b →
        ((number : ℕ) × (number < length rules) × (satisfied (rule_at rules number) times ≡ false)) ⊎ AllSatisfied rules times →
        ((number : ℕ) × (number < length (r ∷ rules)) × (satisfied (rule_at (r ∷ rules) number) times ≡ false)) ⊎ AllSatisfied (r ∷ rules) times
    go false e (inl w) = inl (0, omega arith, e)
    go false e (inr w) = inl (0, omega arith, e)
    go true e (inl w) = inl (suc w.0, omega (arith, w.1), w.2)
    go true e (inr w) = inr (e, w)

module _ {b : Book} (a : Accepted b) {state : State} (d : Reached b state) where
  above_models : (times : List ℤ) → Model b times → Under times b.latest → Under times state.times
  above_models times m u = lemma_7 (time_at times) (keeps_all b.rules times m.keeps) u d

  -- with nothing violated, the assignment is the plan
  pub is_plan : AllSatisfied b.rules state.times → Plan b state.times
  is_plan sat =
      record {
        model = record { size = size_is a d; keeps = sat };
        not_late = λ job. under_latest d job;
        above_all = above_models;
      }

  pub with_plan : (plan : List ℤ) → Plan b plan → WithPlan b plan state.times state.tally.steps
  with_plan plan p =
      let k = keeps_all b.rules plan p.model.keeps in
      let u = p.not_late in
      let high = stays_high (setting a) (time_at plan) k u d in
      record {
        not_below_plan = above_models plan p.model p.not_late;
        not_below_floor = high_test (floor b) state.times high;
        bound = omega (arith, longest_high (setting a) d high);
        at_bound = λ e. kept_all b.rules state.times (full (setting a) (time_at plan) k u d e);
        is_plan = ((λ e. subst (AllSatisfied b.rules) (sym e) p.model.keeps), (λ sat. plan_unique (is_plan sat) p));
      }

  pub with_none : (((plan : List ℤ) × Plan b plan) → ⊥) → WithNone b state.times state.tally.steps
  with_none none =
      record {
        violated = ⊎_elim (λ w. w) (λ sat. absurd (none (state.times, is_plan sat))) (search_violated b.rules state.times);
        bound = omega (arith, longest (setting a) d);
        at_bound = λ e. by_test_not _ (λ above.
            omega (arith, longest_high (setting a) d (test_high (floor b) state.times (floor_low a) above)));
      }

-- a list of hand steps keeps what a derivation keeps
pub played : {b : Book} → Accepted b → (state : State) → Reached b state → (calls : List ℕ) →
    Each (Shown b) (play (step_call b) state calls) × Reached b (end_state state (play (step_call b) state calls))
played {b = b} a state d calls = play_all (step_call b) (Reached b) (Shown b) (step_shown a) state d calls

pub demand_3 : Demand3
demand_3 b passing calls =
    let a = (accepted_iff b).0 passing in
    let (shown, reached) = played a (initial b) start calls in
    let log = play (step_call b) (initial b) calls in
    let count : (end_state (initial b) log).tally.steps ≡ count_steps log =
    omega (arith, play_sums (step_call b) (λ s. s.tally.steps) _ (λ e. 0) (initial b) calls (each_map (Shown b) _ log (λ e s. s.steps_on) shown), sum_none log) in
    record {
      exactly = each_map (Shown b) _ log (λ e s. s.exactly) shown;
      lowered = each_map (Shown b) _ log (λ e s. s.lowered) shown;
      others = each_map (Shown b) _ log (λ e s. s.others) shown;
      steps = count;
      minutes =
          omega (arith, play_sums (step_call b) (λ s. s.tally.minutes) _ (λ e. 0) (initial b) calls (each_map (Shown b) _ log (λ e s. s.minutes_on) shown), sum_none log);
      with_plan = λ plan q. rw count at (with_plan a reached plan q);
      with_none = λ none. rw count at (with_none a reached none);
    }

-- any list of hand steps and steps back
pub taking_back : TakingBack
taking_back b passing calls =
    let a = (accepted_iff b).0 passing in
    let (shown, reached) = play_all (call b) (Reached b) (ShownCall b) (call_shown a) (initial b) start calls in
    let log = play (call b) (initial b) calls in
    record {
      exactly = each_map (ShownCall b) _ log (λ e s. s.exactly) shown;
      did = each_map (ShownCall b) _ log (λ e s. s.did) shown;
      others = each_map (ShownCall b) _ log (λ e s. s.others) shown;
      steps = omega (arith, play_sums (call b) (λ s. s.tally.steps) _ _ (initial b) calls (each_map (ShownCall b) _ log (λ e s. s.counted) shown));
      minutes = sums a reached;
      with_plan = with_plan a reached;
      with_none = with_none a reached;
    }
