-- The bench run is its round-robin list of hand steps, and ends within as many passes as its bound of steps, and one more. Assumes nothing.
use mathlib.Core.Path.{◌≡◌, refl, sym, ap, subst, ◌∙◌}
use mathlib.Core.Bool.{Bool, true, false, cond}
use mathlib.Core.List.{List, [], ◌∷◌, ◌++◌, append_assoc}
use Prim.Native.Nat.{ℕ, zero, suc, ◌+◌, ◌<◌, ◌≤◌}
use native.Mathlib.Numerals.{add-one}
use native.Mathlib.Omega.{arith}
use lib.Dec.{eqb}
use lib.ListN.{length, set, drop}
use lib.IntN.{ℤ, pos}
use lib.Signed.{◌≤ℤ◌, ◌<ℤ◌, lt_z}
use borrow.Author.Tests.{eqb-true, eqb-false}
use Rattle.std.specs.Prelude.{Option, Some, None}
use Rattle.std.proofs.lemmas.Option.{none-some}
use Rattle.maxatom.specs.Rule.{time_at, left_side, satisfied}
use Rattle.maxatom.specs.Book.{Book, AllSatisfied, floor}
use Rattle.maxatom.specs.Accepted.{InBook, Accepted}
use Rattle.maxatom.specs.declared.Rule.{Rule}
use Rattle.maxatom.specs.declared.Slip.{Slip}
use Rattle.maxatom.specs.Clauses.{Clause, clause_of, clauses_of}
use Rattle.maxatom.specs.Clauses as Test
use Rattle.maxatom.specs.Runs.{Pass, pass, End, planned, fell, unfinished, Run, passes}
use Rattle.maxatom.proofs.Choose.{clash}
use Rattle.maxatom.proofs.Integers.{le_read, lt_read, lt_true, lt_false, by_test_not}
use Rattle.maxatom.proofs.Lists.{set_time}
use Rattle.maxatom.proofs.Derivations.{longest_high}
use Rattle.maxatom.proofs.Rules.{left_same, setting}
use Rattle.derivation.specs.Refusals.{answer}
use Rattle.derivation.specs.Step.{State, rule_at, below_floor, slip_of, step_on, Called, step_call}
use Rattle.derivation.specs.Play.{play, end_state, up_from, rounds}
use Rattle.derivation.specs.Run.{pass_bound}
use Rattle.derivation.proofs.Reached.{Reached, high_test, test_high, floor_low, size_is, View, no_rule_lem, too_low, kept, steps, view}
use Rattle.derivation.proofs.AnyOrder.{each_at, reached_step, allowed, played}

-- the state after a list of calls
abbrev pub run_through : Book → State → List ℕ → State
run_through b state calls = end_state state (play (step_call b) state calls)

pub run_append : (b : Book) (state : State) (xs ys : List ℕ) →
    run_through b state (xs ++ ys) ≡ run_through b (run_through b state xs) ys
unfolding play end_state
run_append b state [] ys = refl
run_append b state (x ∷ xs) ys = run_append b (step_call b state x).after xs ys

module _ {b : Book} (a : Accepted b) where
  pub after_step : {state : State} {number : ℕ} {called : Called Slip} → View a state number called → number < length b.rules →
      below_floor (floor b) state.times ≡ false → satisfied (rule_at b.rules number) state.times ≡ false →
      called.after ≡ step_on (rule_at b.rules number) state
  after_step (no_rule_lem h) i b s = absurd (omega arith)
  after_step (too_low h low) i b s = clash low b
  after_step (kept h above sat) i b s = clash sat s
  after_step (steps h above violated) i b s = refl

  said_step : {state : State} {number : ℕ} {called : Called Slip} → View a state number called → number < length b.rules →
      below_floor (floor b) state.times ≡ false → satisfied (rule_at b.rules number) state.times ≡ false →
      called.said ≡ answer (slip_of (rule_at b.rules number) state.times)
  said_step (no_rule_lem h) i b s = absurd (omega arith)
  said_step (too_low h low) i b s = clash low b
  said_step (kept h above sat) i b s = clash sat s
  said_step (steps h above violated) i b s = refl

  after_stay : {state : State} {number : ℕ} {called : Called Slip} → View a state number called →
      (number < length b.rules → below_floor (floor b) state.times ≡ false → satisfied (rule_at b.rules number) state.times ≡ false → ⊥) →
      called.after ≡ state
  after_stay (no_rule_lem h) n = refl
  after_stay (too_low h low) n = refl
  after_stay (kept h above sat) n = refl
  after_stay (steps h above violated) n = absurd (n h above violated)

  -- a state from which no call steps stays
  stay : (state : State) → Reached b state →
      ((number : ℕ) → number < length b.rules → below_floor (floor b) state.times ≡ false → satisfied (rule_at b.rules number) state.times ≡ false → ⊥) →
      (calls : List ℕ) → run_through b state calls ≡ state
  unfolding play end_state
  stay state d n [] = refl
  stay state d n (number ∷ calls) =
      ap (λ (s : State). run_through b s calls) (after_stay (view a state number d) (n number)) ∙ stay state d n calls

  pub stay_low : (state : State) → Reached b state → below_floor (floor b) state.times ≡ true → (calls : List ℕ) → run_through b state calls ≡ state
  stay_low state d low calls = stay state d (λ number h above violated. clash low above) calls

  pub stay_kept : (state : State) → Reached b state → AllSatisfied b.rules state.times → (calls : List ℕ) → run_through b state calls ≡ state
  stay_kept state d sat calls =
      stay state d (λ number h above violated. clash (each_at (λ r. satisfied r state.times ≡ true) b.rules number h sat) violated) calls

  -- what a step does to the floor test
  module _ {state : State} (d : Reached b state) (number : ℕ) (h : number < length b.rules)
      (above : below_floor (floor b) state.times ≡ false) (violated : satisfied (rule_at b.rules number) state.times ≡ false) where
    pub stays_above : lt_z (left_side (rule_at b.rules number) state.times) (floor b) ≡ false →
        below_floor (floor b) (step_on (rule_at b.rules number) state).times ≡ false
    unfolding step_on
    stays_above e =
        high_test (floor b) _
        (λ job. set_time (λ (t : ℤ). floor b ≤ℤ t) state.times _ job _ (test_high (floor b) state.times (floor_low a) above job) (λ q. lt_false _ _ e))

    pub falls_below : lt_z (left_side (rule_at b.rules number) state.times) (floor b) ≡ true →
        below_floor (floor b) (step_on (rule_at b.rules number) state).times ≡ true
    falls_below e =
        by_test_not _
        (λ q. let r = rule_at b.rules number in
        let fall : left_side r state.times <ℤ floor b = lt_true e in
        omega (arith, lt_read fall, le_read (rw (allowed a d number h above violated) at (test_high (floor b) (step_on r state).times (floor_low a) q r.z))))

head_of : {r s : Rule} {xs ys : List Rule} → ◌≡◌ {A = List Rule} (r ∷ xs) (s ∷ ys) → (r ≡ s) × (xs ≡ ys)
head_of e = (cc, cc)

no_head : {r : Rule} {xs : List Rule} → ◌≡◌ {A = List Rule} [] (r ∷ xs) → ⊥
no_head e = let z : ◌≡◌ {A = ℕ} 0 1 = cc in omega arith

-- the rule at a number, and those after it
drop_at : (rules : List Rule) (i : ℕ) (r : Rule) (rest : List Rule) → drop i rules ≡ r ∷ rest →
    (i < length rules) × (rule_at rules i ≡ r) × (drop (suc i) rules ≡ rest)
drop_at [] zero r rest e = absurd (no_head e)
drop_at [] (suc i) r rest e = absurd (no_head e)
drop_at (x ∷ rules) zero r rest e = let q = head_of e in (omega arith, q.0, q.1)
drop_at (x ∷ rules) (suc i) r rest e = let q = drop_at rules i r rest e in (omega (arith, q.0), q.1, q.2)

-- a pass over a rule's clause and more, in the words of rules
pub pass_rule : (low : ℤ) (r : Rule) (cs : List Clause) (times : List ℤ) (count : ℕ) →
    let lowered = set times r.z (left_side r times) in
    pass low (clause_of r ∷ cs) times count
    ≡ cond (satisfied r times) (pass low cs times count)
    (cond (lt_z (left_side r times) low) (record { times = lowered; steps = count + 1; fallen = Some (slip_of r times) }) (pass low cs lowered (count + 1)))
unfolding pass Test.kept satisfied
pass_rule low r cs times count = rw (left_same r times) refl

-- a fall: the last hand step of a list that stepped, from a state that shows no fall, and its slip
pub record Falls (b : Book) (state : State) (calls : List ℕ) (times : List ℤ) (steps : ℕ) (slip : Slip) : Type 0 where
  pub earlier : List ℕ
  pub number : ℕ
  pub rest : List ℕ
  pub of_calls : calls ≡ earlier ++ number ∷ rest
  pub high : below_floor (floor b) (run_through b state earlier).times ≡ false
  pub one_less : (run_through b state earlier).tally.steps + 1 ≡ steps
  pub told : (step_call b (run_through b state earlier) number).said ≡ answer slip
  pub of_book : slip.job < b.jobs
  pub size : length (run_through b state earlier).times ≡ b.jobs
  pub before_is : slip.before ≡ time_at (run_through b state earlier).times slip.job
  pub stored : times ≡ set (run_through b state earlier).times slip.job slip.after
  pub low : slip.after <ℤ floor b

-- with calls before it, and with calls behind it
module _ {b : Book} {state : State} {calls : List ℕ} {times : List ℤ} {steps : ℕ} {slip : Slip} where
  pub falls_after : (from : State) (first : List ℕ) → run_through b from first ≡ state → Falls b state calls times steps slip → Falls b from (first ++ calls) times steps slip
  falls_after from first e f =
      let joined : run_through b from (first ++ f.earlier) ≡ run_through b state f.earlier = run_append b from first f.earlier ∙ ap (λ (s : State). run_through b s f.earlier) e in
      record {
        earlier = first ++ f.earlier;
        number = f.number;
        rest = f.rest;
        of_calls = ap (λ (l : List ℕ). first ++ l) f.of_calls ∙ sym (append_assoc first f.earlier (f.number ∷ f.rest));
        high = rw joined f.high;
        one_less = rw joined f.one_less;
        told = ap (λ (s : State). (step_call b s f.number).said) joined ∙ f.told;
        of_book = f.of_book;
        size = rw joined f.size;
        before_is = rw joined f.before_is;
        stored = rw joined f.stored;
        low = f.low;
      }

  pub falls_before : (more : List ℕ) → Falls b state calls times steps slip → Falls b state (calls ++ more) times steps slip
  falls_before more f =
      record {
        earlier = f.earlier;
        number = f.number;
        rest = f.rest ++ more;
        of_calls = ap (λ (l : List ℕ). l ++ more) f.of_calls ∙ append_assoc f.earlier (f.number ∷ f.rest) more;
        high = f.high;
        one_less = f.one_less;
        told = f.told;
        of_book = f.of_book;
        size = f.size;
        before_is = f.before_is;
        stored = f.stored;
        low = f.low;
      }

-- what a pass over the last rules is, from a state that shows no fall
pub record PassIs (b : Book) (rest : List Rule) (state : State) (calls : List ℕ) (w : Pass) : Type 0 where
  pub times_is : (run_through b state calls).times ≡ w.times
  pub steps_is : (run_through b state calls).tally.steps ≡ w.steps
  pub more : state.tally.steps ≤ w.steps
  pub still : w.steps ≡ state.tally.steps → AllSatisfied rest state.times × (w.times ≡ state.times)
  pub above : w.fallen ≡ None → below_floor (floor b) w.times ≡ false
  pub below : (slip : Slip) → w.fallen ≡ Some slip → below_floor (floor b) w.times ≡ true
  pub fell_at : (slip : Slip) → w.fallen ≡ Some slip → Falls b state calls w.times w.steps slip

some_is : {s t : Slip} → Some s ≡ Some t → s ≡ t
some_is e = cc

module _ {b : Book} (a : Accepted b) where
  pub pass_is : (rest : List Rule) (i : ℕ) (state : State) → Reached b state → below_floor (floor b) state.times ≡ false → drop i b.rules ≡ rest →
      PassIs b rest state (up_from i (length rest)) (pass (floor b) (clauses_of rest) state.times state.tally.steps)
  unfolding pass up_from play end_state step_on
  pass_is [] i state d above e =
      record {
        times_is = refl;
        steps_is = refl;
        more = omega arith;
        still = λ q. (tt, refl);
        above = λ q. above;
        below = λ slip q. absurd (none-some slip q);
        fell_at = λ slip q. absurd (none-some slip q);
      }
  pass_is (r ∷ rest) i state d above e =
      let q = drop_at b.rules i r rest e in
      subst (PassIs b (r ∷ rest) state (up_from i (length (r ∷ rest)))) (sym (pass_rule (floor b) r (clauses_of rest) state.times state.tally.steps))
      (go (satisfied r state.times) (lt_z (left_side r state.times) (floor b)) refl refl q.0 q.1
      (λ s d' above'. pass_is rest (i + 1) s d' above' (ap (λ (n : ℕ). drop n b.rules) (add-one i) ∙ q.2)))
    where
      next : List ℕ
      next = up_from (i + 1) (length rest)

      lowered : List ℤ
      lowered = set state.times r.z (left_side r state.times)

      dropped : Pass
      dropped = record { times = lowered; steps = state.tally.steps + 1; fallen = Some (slip_of r state.times) }

      go : (sat low : Bool) → satisfied r state.times ≡ sat → lt_z (left_side r state.times) (floor b) ≡ low → i < length b.rules → rule_at b.rules i ≡ r →
          ((s : State) → Reached b s → below_floor (floor b) s.times ≡ false → PassIs b rest s next (pass (floor b) (clauses_of rest) s.times s.tally.steps)) →
          PassIs b (r ∷ rest) state (i ∷ next)
          (cond sat (pass (floor b) (clauses_of rest) state.times state.tally.steps) (cond low dropped (pass (floor b) (clauses_of rest) lowered (state.tally.steps + 1))))
      go true c p q h at on =
          let ih = on state d above in
          let same = after_stay a (view a state i d) (λ _ _ violated. clash (rw at p) violated) in
          record {
            times_is = ap (λ (s : State). (run_through b s next).times) same ∙ ih.times_is;
            steps_is = ap (λ (s : State). (run_through b s next).tally.steps) same ∙ ih.steps_is;
            more = ih.more;
            still = λ k. let w = ih.still k in ((p, w.0), w.1);
            above = ih.above;
            below = ih.below;
            fell_at = λ slip k. falls_after state (i ∷ []) same (ih.fell_at slip k);
          }
      go false true p q h at on =
          let violated : satisfied (rule_at b.rules i) state.times ≡ false = rw at p in
          let down : Reached b (step_on r state) = rw at at (reached_step a d i h above violated) in
          let low : below_floor (floor b) (step_on r state).times ≡ true = rw at at (falls_below a d i h above violated (rw at q)) in
          let same : (step_call b state i).after ≡ step_on r state = rw at at (after_step a (view a state i d) h above violated) in
          let end : run_through b state (i ∷ next) ≡ step_on r state = ap (λ (s : State). run_through b s next) same ∙ stay_low a (step_on r state) down low next in
          record {
            times_is = ap (λ (s : State). s.times) end;
            steps_is = ap (λ (s : State). s.tally.steps) end;
            more = omega arith;
            still = λ k. absurd (omega (arith, k));
            above = λ k. absurd (none-some (slip_of r state.times) (sym k));
            below = λ slip k. low;
            fell_at = λ slip k. subst (Falls b state (i ∷ next) lowered (state.tally.steps + 1)) (some_is k)
                (record {
                  earlier = [];
                  number = i;
                  rest = next;
                  of_calls = refl;
                  high = above;
                  one_less = refl;
                  told = rw at at (said_step a (view a state i d) h above violated);
                  of_book = rw at at (each_at (InBook b.jobs) b.rules i h a.rules_in).third;
                  size = size_is a d;
                  before_is = refl;
                  stored = refl;
                  low = lt_true q;
                });
          }
      go false false p q h at on =
          let violated : satisfied (rule_at b.rules i) state.times ≡ false = rw at p in
          let down : Reached b (step_on r state) = rw at at (reached_step a d i h above violated) in
          let same : (step_call b state i).after ≡ step_on r state = rw at at (after_step a (view a state i d) h above violated) in
          let ih = on (step_on r state) down (rw at at (stays_above a d i h above violated (rw at q))) in
          record {
            times_is = ap (λ (s : State). (run_through b s next).times) same ∙ ih.times_is;
            steps_is = ap (λ (s : State). (run_through b s next).tally.steps) same ∙ ih.steps_is;
            more = omega (arith, ih.more);
            still = λ k. absurd (omega (arith, k, ih.more));
            above = ih.above;
            below = ih.below;
            fell_at = λ slip k. falls_after state (i ∷ []) same (ih.fell_at slip k);
          }

-- what n passes are
pub record PassesAre (b : Book) (state : State) (n : ℕ) (w : Run) : Type 0 where
  pub times_is : (run_through b state (rounds n (length b.rules))).times ≡ w.times
  pub steps_is : (run_through b state (rounds n (length b.rules))).tally.steps ≡ w.steps
  pub planned_is : w.end ≡ planned → AllSatisfied b.rules w.times
  pub fell_at : (slip : Slip) → w.end ≡ fell slip → Falls b state (rounds n (length b.rules)) w.times w.steps slip
  pub ends : pass_bound b ≤ n + state.tally.steps → w.end ≡ unfinished → ⊥

fell_is : {s t : Slip} → fell s ≡ fell t → s ≡ t
fell_is e = cc

no_slip : Slip
no_slip = record { job = 0; before = pos 0; after = pos 0 }

-- three ways to stand
ends_apart : {j : Slip} → ((planned ≡ fell j) → ⊥) × ((planned ≡ unfinished) → ⊥) × ((fell j ≡ unfinished) → ⊥)
ends_apart =
    ((λ e. let z : ◌≡◌ {A = ℕ} 0 1 = cc in omega arith), (λ e. let z : ◌≡◌ {A = ℕ} 0 1 = cc in omega arith), (λ e. let z : ◌≡◌ {A = ℕ} 0 1 = cc in omega arith))

module _ {b : Book} (a : Accepted b) where
  pub passes_are : (n : ℕ) (state : State) → Reached b state → below_floor (floor b) state.times ≡ false →
      PassesAre b state n (passes n (floor b) (clauses_of b.rules) state.times state.tally.steps)
  unfolding passes rounds play end_state
  passes_are zero state d above =
      record {
        times_is = refl;
        steps_is = refl;
        planned_is = λ e. absurd ((ends_apart {j = no_slip}).1 (sym e));
        fell_at = λ slip e. absurd (ends_apart.2 (sym e));
        ends = λ few e. omega (arith, longest_high (setting a) d (test_high (floor b) state.times (floor_low a) above));
      }
  passes_are (suc n) state d above =
      let p = pass_is a b.rules 0 state d above refl in
      go (pass (floor b) (clauses_of b.rules) state.times state.tally.steps).fallen
      (eqb (pass (floor b) (clauses_of b.rules) state.times state.tally.steps).steps state.tally.steps) refl refl p
      (λ high. passes_are n mid reached (rw p.times_is high))
    where
      calls : List ℕ
      calls = up_from 0 (length b.rules)

      mid : State
      mid = run_through b state calls

      reached : Reached b mid
      reached = (played a state d calls).1

      w : Pass
      w = pass (floor b) (clauses_of b.rules) state.times state.tally.steps

      joined : run_through b state (rounds (suc n) (length b.rules)) ≡ run_through b mid (rounds n (length b.rules))
      joined = run_append b state calls (rounds n (length b.rules))

      ended : End → Run
      ended end = record { times = w.times; steps = w.steps; end = end }

      go : (o : Option Slip) (c : Bool) → w.fallen ≡ o → eqb w.steps state.tally.steps ≡ c → PassIs b b.rules state calls w →
          (below_floor (floor b) w.times ≡ false → PassesAre b mid n (passes n (floor b) (clauses_of b.rules) mid.times mid.tally.steps)) →
          PassesAre b state (suc n)
          (elim o [ Some slip ↦ ended (fell slip) | None ↦ cond c (ended planned) (passes n (floor b) (clauses_of b.rules) w.times w.steps) ])
      go (Some slip) c e g p on =
          let end = joined ∙ stay_low a mid reached (rw p.times_is (p.below slip e)) (rounds n (length b.rules)) in
          record {
            times_is = ap (λ (s : State). s.times) end ∙ p.times_is;
            steps_is = ap (λ (s : State). s.tally.steps) end ∙ p.steps_is;
            planned_is = λ q. absurd (ends_apart.0 (sym q));
            fell_at = λ last q. falls_before (rounds n (length b.rules)) (p.fell_at last (e ∙ ap Some (fell_is q)));
            ends = λ few q. ends_apart.2 q;
          }
      go None true e g p on =
          let still = p.still (eqb-true w.steps state.tally.steps g) in
          let sat : AllSatisfied b.rules w.times = rw still.1 still.0 in
          let end = joined ∙ stay_kept a mid reached (rw p.times_is sat) (rounds n (length b.rules)) in
          record {
            times_is = ap (λ (s : State). s.times) end ∙ p.times_is;
            steps_is = ap (λ (s : State). s.tally.steps) end ∙ p.steps_is;
            planned_is = λ q. sat;
            fell_at = λ slip q. absurd (ends_apart.0 q);
            ends = λ few q. (ends_apart {j = no_slip}).1 q;
          }
      go None false e g p on =
          let same : passes n (floor b) (clauses_of b.rules) mid.times mid.tally.steps ≡ passes n (floor b) (clauses_of b.rules) w.times w.steps =
          ap (λ (t : List ℤ). passes n (floor b) (clauses_of b.rules) t mid.tally.steps) p.times_is ∙ ap (λ (k : ℕ). passes n (floor b) (clauses_of b.rules) w.times k) p.steps_is in
          let ih = subst (PassesAre b mid n) same (on (p.above e)) in
          record {
            times_is = ap (λ (s : State). s.times) joined ∙ ih.times_is;
            steps_is = ap (λ (s : State). s.tally.steps) joined ∙ ih.steps_is;
            planned_is = ih.planned_is;
            fell_at = λ slip q. falls_after state calls refl (ih.fell_at slip q);
            ends = λ few q. ih.ends (omega (arith, p.steps_is, p.more, eqb-false w.steps state.tally.steps g)) q;
          }
