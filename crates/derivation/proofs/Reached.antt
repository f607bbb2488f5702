-- A state that hand steps and steps back reach from the initial one is a derivation's: so 21, 22 and 23 never fail there, and a call does
-- one of four things.
-- Assumes nothing.
use mathlib.Core.Path.{◌≡◌, refl, sym, ap, subst, ◌∙◌}
use mathlib.Core.Bool.{Bool, true, false, not, ◌||◌}
use mathlib.Core.List.{List, [], ◌∷◌, ◌++◌}
use Prim.Native.Nat.{ℕ, zero, suc, ◌+◌, ◌*◌, ◌<◌, ◌≤◌}
use native.Mathlib.Omega.{arith}
use lib.Dec.{leb}
use lib.ListN.{length}
use lib.IntN.{ℤ, pos, neg_ℤ, ◌-ℤ◌}
use lib.Signed.{◌≤ℤ◌, lt_z}
use borrow.Author.Tests.{leb-true, leb-false, le-leb}
use Rattle.std.proofs.lemmas.Bool.{and_from}
use Rattle.maxatom.specs.Rule.{time_at, satisfied}
use Rattle.maxatom.specs.Book.{Book, Each, total, smallest, floor}
use Rattle.maxatom.specs.Accepted.{Accepted}
use Rattle.maxatom.specs.declared.Slip.{Slip}
use Rattle.maxatom.specs.Clauses.{clauses_of}
use Rattle.maxatom.proofs.Choose.{clash}
use Rattle.maxatom.proofs.Integers.{up, dn, le_read, le_make, eq_make, add_parts, neg_parts, true_le, lt_false, false_lt, true_eq}
use Rattle.maxatom.specs.Runs.{sum_by}
use Rattle.maxatom.proofs.Lists.{each_map, each_join}
use Rattle.maxatom.proofs.Clauses.{Below}
use Rattle.maxatom.proofs.Derivations.{Derivation, same_length, under_latest, few_steps, not_far, minutes_lost, floor_under}
use Rattle.maxatom.proofs.Rules.{smallest_least, smallest_holds, floor_parts, weighed, setting}
use Rattle.derivation.specs.Refusals.{Reply, refused, answer, Check, reply, verdict, lent, times_checks}
use Rattle.derivation.specs.Step.{State, rule_at, lowest, in_range, below_floor, sum_z, fits, rule_step_checks, state_checks, step_checks, slip_of, step_on, Called, called_by, step_call}
use Rattle.derivation.specs.Back.{back_on, slip_differs, tally_short, slip_checks, back_checks, back_call}
use Rattle.derivation.proofs.Checks.{Passes, neither_from, says, skips, skips_all, refused_append, times_pass}

abbrev pub Reached : Book → State → Type 0
Reached b state = Derivation (clauses_of b.rules) (floor b) b.latest state.times state.tally.steps state.tally.minutes

-- a call under checks, check by check
module _ {A : Type 0} (c : Check) (checks : List Check) (a : A) (before after : State) where
  pub call_says : c.fails ≡ true → called_by (c ∷ checks) a before after ≡ record { said = refused c.number c.place; after = before }
  unfolding called_by lent
  call_says e = ap (λ (s : Reply A). record { said = s; after = lent s before after }) (says a c checks e)

  pub call_skips : c.fails ≡ false → called_by (c ∷ checks) a before after ≡ called_by checks a before after
  unfolding called_by
  call_skips e = ap (λ (s : Reply A). record { said = s; after = lent s before after }) (skips a c checks e)

module _ {A : Type 0} (checks more : List Check) (a : A) (before after : State) where
  pub call_passes : Each (λ c. c.fails ≡ false) checks → called_by (checks ++ more) a before after ≡ called_by more a before after
  unfolding called_by
  call_passes e = ap (λ (s : Reply A). record { said = s; after = lent s before after }) (skips_all a checks more e)

  pub call_refused : {number place : ℕ} → verdict checks ≡ refused number place → called_by (checks ++ more) a before after ≡ record { said = refused number place; after = before }
  unfolding called_by lent
  call_refused e = ap (λ (s : Reply A). record { said = s; after = lent s before after }) (refused_append tt a checks more e)

pub call_done : {A : Type 0} (a : A) (before after : State) → called_by [] a before after ≡ record { said = answer a; after = after }
unfolding called_by lent reply
call_done a before after = refl

-- the tests on a board, as facts
pub high_test : (f : ℤ) (times : List ℤ) → ((job : ℕ) → f ≤ℤ time_at times job) → below_floor f times ≡ false
unfolding below_floor
high_test f [] h = refl
high_test f (t ∷ times) h = neither_from _ _ (false_lt (h 0)) (high_test f times (λ job. h (suc job)))

pub test_high : (f : ℤ) (times : List ℤ) → f ≤ℤ pos 0 → below_floor f times ≡ false → (job : ℕ) → f ≤ℤ time_at times job
unfolding below_floor
test_high f [] z e job = z
test_high f (t ∷ times) z e job = go (lt_z t f) refl (λ q j. test_high f times z q j) e job
  where
    go : (b : Bool) → lt_z t f ≡ b → (below_floor f times ≡ false → (j : ℕ) → f ≤ℤ time_at times j) →
        (b || below_floor f times) ≡ false → (j : ℕ) → f ≤ℤ time_at (t ∷ times) j
    go true p on q j = clash refl q
    go false p on q zero = lt_false t f p
    go false p on q (suc j) = on q j

range_test : (low : ℤ) (latest times : List ℤ) → Below (time_at times) (time_at latest) → ((job : ℕ) → low ≤ℤ time_at times job) → in_range low latest times ≡ true
unfolding in_range
range_test low [] times u h = refl
range_test low (l ∷ latest) [] u h = refl
range_test low (l ∷ latest) (t ∷ times) u h =
    and_from _ _ (and_from _ _ (true_le (h 0)) (true_le (u 0))) (range_test low latest times (λ job. u (suc job)) (λ job. h (suc job)))

pub sum_parts : (times : List ℤ) → up (sum_z times) + sum_by dn times ≡ sum_by up times + dn (sum_z times)
unfolding sum_z sum_by
sum_parts [] = refl
sum_parts (t ∷ times) = omega (arith, sum_parts times, add_parts t (sum_z times))

pub lowest_parts : (b : Book) → up (lowest b) + dn (smallest b.latest) + 2 * total b.rules ≡ up (smallest b.latest) + dn (lowest b)
lowest_parts b = omega (arith, add_parts (smallest b.latest) (neg_ℤ (pos (2 * total b.rules))), neg_parts (pos (2 * total b.rules)))

module _ {b : Book} (a : Accepted b) where
  pub floor_low : floor b ≤ℤ pos 0
  floor_low = le_make (omega (arith, floor_parts b, le_read (smallest_least b.latest (length b.latest)), le_read (smallest_holds (λ t. t ≤ℤ pos 0) b.latest (le_make (omega arith)) (each_map _ _ b.latest (λ t w. w.highest) a.latest_in))))

  module _ {state : State} (d : Reached b state) where
    pub size_is : length state.times ≡ b.jobs
    size_is = same_length d ∙ a.size

    range_is : in_range (lowest b) b.latest state.times ≡ true
    range_is =
        range_test (lowest b) b.latest state.times (λ job. under_latest d job)
        (λ job.
        le_make
        (omega (
          arith,
          le_read (not_far (weighed b.rules) (floor_under (setting a)) d job),
          add_parts (time_at state.times job) (pos (total b.rules)),
          floor_parts b,
          lowest_parts b,
        )))

    -- the minutes are what the times have lost
    pub sums : pos state.tally.minutes ≡ sum_z b.latest -ℤ sum_z state.times
    sums =
        eq_make
        (omega (
          arith,
          minutes_lost (setting a) d,
          sum_parts state.times,
          sum_parts b.latest,
          neg_parts (sum_z state.times),
          add_parts (sum_z b.latest) (neg_ℤ (sum_z state.times)),
        ))

    fits_is : fits b.latest state.tally state.times ≡ true
    unfolding fits
    fits_is = and_from _ _ (true_eq _ _ sums) (le-leb state.tally.steps state.tally.minutes (few_steps d))

    state_passes : Each Passes (state_checks b state)
    unfolding state_checks
    state_passes = each_join Passes (times_checks b state.times) _ (times_pass state.times a size_is) (ap not range_is, (ap not fits_is, tt))

    -- what a hand step from here does
    pub call_is : (number : ℕ) →
        step_call b state number ≡ called_by (rule_step_checks b state number) (slip_of (rule_at b.rules number) state.times) state (step_on (rule_at b.rules number) state)
    unfolding step_call step_checks
    call_is number = call_passes (state_checks b state) _ _ _ _ state_passes

    -- and a step back
    pub back_is : (slip : Slip) → back_call b state slip ≡ called_by (slip_checks b state slip) tt state (back_on slip state)
    unfolding back_call back_checks
    back_is slip = call_passes (state_checks b state) _ _ _ _ state_passes

  module _ (state : State) (number : ℕ) where
    -- the four things that a call does
    pub data View : Called Slip → Type 0 where
      no_rule_lem : length b.rules ≤ number → View (record { said = refused 24 0; after = state })
      too_low : number < length b.rules → below_floor (floor b) state.times ≡ true → View (record { said = refused 25 0; after = state })
      kept : number < length b.rules → below_floor (floor b) state.times ≡ false → satisfied (rule_at b.rules number) state.times ≡ true →
          View (record { said = refused 26 0; after = state })
      steps : number < length b.rules → below_floor (floor b) state.times ≡ false → satisfied (rule_at b.rules number) state.times ≡ false →
          View (record { said = answer (slip_of (rule_at b.rules number) state.times); after = step_on (rule_at b.rules number) state })

    pub view : Reached b state → View (step_call b state number)
    view d = go (leb (length b.rules) number) (below_floor (floor b) state.times) (satisfied (rule_at b.rules number) state.times) refl refl refl
      where
        next : State
        next = step_on (rule_at b.rules number) state

        by : (called : Called Slip) → called_by (rule_step_checks b state number) (slip_of (rule_at b.rules number) state.times) state next ≡ called → View called → View (step_call b state number)
        by called e v = subst View (sym (call_is d number ∙ e)) v

        go : (p q r : Bool) → leb (length b.rules) number ≡ p → below_floor (floor b) state.times ≡ q → satisfied (rule_at b.rules number) state.times ≡ r →
            View (step_call b state number)
        go true q r e f g = by _ (call_says _ _ _ _ _ e) (no_rule_lem (leb-true (length b.rules) number e))
        go false true r e f g = by _ (call_skips _ _ _ _ _ e ∙ call_says _ _ _ _ _ f) (too_low (leb-false (length b.rules) number e) f)
        go false false true e f g = by _ (call_skips _ _ _ _ _ e ∙ (call_skips _ _ _ _ _ f ∙ call_says _ _ _ _ _ g)) (kept (leb-false (length b.rules) number e) f g)
        go false false false e f g =
            by _ (call_skips _ _ _ _ _ e ∙ (call_skips _ _ _ _ _ f ∙ (call_skips _ _ _ _ _ g ∙ call_done _ _ _))) (steps (leb-false (length b.rules) number e) f g)

  module _ (state : State) (slip : Slip) where
    -- the four things that a step back does
    pub data BackView : Called (Unit {0}) → Type 0 where
      no_job : b.jobs ≤ slip.job → BackView (record { said = refused 27 0; after = state })
      differs_lem : slip.job < b.jobs → slip_differs b state slip ≡ true → BackView (record { said = refused 28 0; after = state })
      short_lem : slip.job < b.jobs → slip_differs b state slip ≡ false → tally_short b state slip ≡ true → BackView (record { said = refused 29 0; after = state })
      returns : slip.job < b.jobs → slip_differs b state slip ≡ false → tally_short b state slip ≡ false → BackView (record { said = answer tt; after = back_on slip state })

    pub back_view : Reached b state → BackView (back_call b state slip)
    back_view d = go (leb b.jobs slip.job) (slip_differs b state slip) (tally_short b state slip) refl refl refl
      where
        by : (called : Called (Unit {0})) → called_by (slip_checks b state slip) tt state (back_on slip state) ≡ called → BackView called → BackView (back_call b state slip)
        by called e v = subst BackView (sym (back_is d slip ∙ e)) v

        go : (p q r : Bool) → leb b.jobs slip.job ≡ p → slip_differs b state slip ≡ q → tally_short b state slip ≡ r → BackView (back_call b state slip)
        go true q r e f g = by _ (call_says _ _ _ _ _ e) (no_job (leb-true b.jobs slip.job e))
        go false true r e f g = by _ (call_skips _ _ _ _ _ e ∙ call_says _ _ _ _ _ f) (differs_lem (leb-false b.jobs slip.job e) f)
        go false false true e f g =
            by _ (call_skips _ _ _ _ _ e ∙ (call_skips _ _ _ _ _ f ∙ call_says _ _ _ _ _ g)) (short_lem (leb-false b.jobs slip.job e) f g)
        go false false false e f g =
            by _ (call_skips _ _ _ _ _ e ∙ (call_skips _ _ _ _ _ f ∙ (call_skips _ _ _ _ _ g ∙ call_done _ _ _))) (returns (leb-false b.jobs slip.job e) f g)
