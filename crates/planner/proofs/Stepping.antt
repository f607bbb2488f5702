-- The checks of a board and a tally that are lent with a table, and the calls under them: hand step, step back. Assumes nothing.
use mathlib.Core.Path.{◌≡◌, refl, sym, ap, ◌∙◌}
use mathlib.Core.Bool.{Bool, true, false, not, ◌||◌}
use mathlib.Core.List.{List, [], ◌∷◌, ◌++◌}
use Prim.Native.Nat.{ℕ, ◌+◌, ◌-◌, ◌*◌, ◌<◌, ◌≤◌}
use native.Mathlib.Omega.{arith}
use lib.Dec.{eqb, leb}
use lib.ListN.{length, set}
use lib.IntN.{ℤ, pos, neg_ℤ, ◌-ℤ◌}
use lib.Signed.{◌≤ℤ◌, ◌<ℤ◌, le_z, lt_z}
use borrow.Author.Tests.{le-leb, lt-leb, eq-eqb, ne_eqb, not-false}
use Rattle.std.specs.Prelude.{Ok, Err}
use Rattle.std.proofs.Common.{to_z, of_z}
use Rattle.std.proofs.lemmas.Bool.{and_parts}
use mir.Facts.{to_z-of_z}
use mir.Syntax.{w32}
use mir.Val.{SFits}
use Rattle.maxatom.specs.Rule.{time_at, satisfied, eq_z, minutes_off}
use Rattle.maxatom.specs.Book.{Each, Book, total, smallest, floor}
use Rattle.maxatom.specs.Accepted.{InTime, Accepted}
use Rattle.maxatom.specs.Clauses.{clause_of}
use Rattle.maxatom.specs.Inner.{InJobs}
use Rattle.maxatom.specs.declared.Slip.{Slip}
use Rattle.maxatom.proofs.Integers.{up, dn, le_read, le_make, lt_read, le_false, lt_false, eq_make, eq_true, true_eq, by_test, add_parts, neg_parts, off_parts}
use Rattle.maxatom.proofs.Lists.{sum_set}
use Rattle.maxatom.proofs.Derivations.{one_below}
use Rattle.derivation.specs.Faults.{number_of}
use Rattle.derivation.specs.Refusals.{refused, answer, accepts, Check, reply, check, times_checks}
use Rattle.derivation.specs.Step.{State, rule_at, lowest, in_range, below_floor, sum_z, fits, rule_step_checks, state_checks, step_checks, slip_of, step_on, Called, called_by, step_call}
use Rattle.derivation.specs.Back.{back_on, slip_differs, tally_short, slip_checks, back_checks, back_call}
use Rattle.derivation.specs.declared.Refusal.{Refusal}
use Rattle.derivation.proofs.Checks.{Passes, neither, says, skips, passed, accepting, refused_same, each_left, times_all_pass}
use Rattle.derivation.proofs.Reached.{sum_parts, call_says, call_skips, call_passes, call_refused, call_done}
use Rattle.derivation.proofs.Slips.{answer_is}
use Rattle.table.proofs.Latest.{floor_is}
use Rattle.solver.proofs.Laws.{in_book, in_jobs, bits_one}
use Rattle.solver.proofs.Steps.{smallest_in, Legal, legal, legal_under, tally_room, left_fits, off_bound}
use Rattle.planner.specs.Checks.{sum_reply, checks_reply, floor_reply, state_reply}
use Rattle.planner.specs.Steps.{StepRoom}
use Rattle.planner.proofs.Checking.{sound, same_size}
use Rattle.planner.proofs.Answering.{same_checks}

-- the checks of a board and a tally, check by check
module _ (b : Book) (state : State) where
  abbrev held_checks : List Check
  held_checks = check (not (in_range (lowest b) b.latest state.times)) 22 0 ∷ check (not (fits b.latest state.tally state.times)) 23 0 ∷ []

  pub table_refused : (q : Refusal) → sum_reply (Err q) ≡ checks_reply b state.times → refused (number_of q.fault) q.place ≡ state_reply b state
  unfolding state_checks
  table_refused q e = same_checks b state.times (floor b) held_checks (Err q) e

  module _ {k : ℕ} (e : sum_reply (Ok k) ≡ checks_reply b state.times) where
    -- the smallest latest time, as the code has it
    pub least_in : {least : ℤ} → SFits w32 least → least ≡ smallest b.latest → InTime (to_z w32 (of_z w32 least))
    least_in f first = rw (to_z-of_z f, first) (smallest_in (sound b state.times e).accepted)

    -- and with it the lowest legal time and the floor
    module _ {least low : ℤ} (fits_least : SFits w32 least) (first : least ≡ smallest b.latest) (fits_low : SFits w32 low) where
      pub at_lowest : low ≡ to_z w32 (of_z w32 least) -ℤ pos (2 * k) → {v : Bool} → v ≡ in_range (to_z w32 (of_z w32 low)) b.latest state.times →
          in_range (lowest b) b.latest state.times ≡ v
      at_lowest is h =
          sym (rw (floor_is b.latest {m = 2 * total b.rules} (ap (λ (n : ℕ). 2 * n) (sound b state.times e).sum) fits_least first fits_low is) at h)

      pub at_floor : low ≡ to_z w32 (of_z w32 least) -ℤ pos k → to_z w32 (of_z w32 low) ≡ floor b
      at_floor is = floor_is b.latest {m = total b.rules} (sound b state.times e).sum fits_least first fits_low is

    held_said : reply held_checks (floor b) ≡ state_reply b state
    unfolding state_checks
    held_said = same_checks b state.times (floor b) held_checks (Ok k) e

    pub board_illegal : in_range (lowest b) b.latest state.times ≡ false → refused 22 0 ≡ state_reply b state
    board_illegal h = sym (says (floor b) _ _ (ap not h)) ∙ held_said

    module _ (range : in_range (lowest b) b.latest state.times ≡ true) where
      -- the board is legal, so that the tally can be tested
      pub board_legal : Legal (lowest b) b.latest state.times
      board_legal = legal (lowest b) b.latest state.times (same_size b state.times e) range

      pub tally_differs : fits b.latest state.tally state.times ≡ false → refused 23 0 ≡ state_reply b state
      tally_differs h = sym (skips (floor b) _ _ (ap not range) ∙ says (floor b) _ _ (ap not h)) ∙ held_said

      pub state_holds : fits b.latest state.tally state.times ≡ true → {f : ℤ} → f ≡ floor b → answer f ≡ state_reply b state
      state_holds h is = ap answer is ∙ (sym (accepting held_checks (floor b) (ap not range, (ap not h, tt))) ∙ held_said)

-- a board and a tally that passed their checks
pub record Standing (b : Book) (state : State) : Type 0 where
  pub passes : Each Passes (state_checks b state)
  pub accepted : Accepted b
  pub size : length state.times ≡ b.jobs
  pub board : Legal (lowest b) b.latest state.times
  pub tally : fits b.latest state.tally state.times ≡ true

module _ (b : Book) (state : State) {f : ℤ} (e : floor_reply (Ok f) ≡ state_reply b state) where
  all_pass : Each Passes (state_checks b state)
  unfolding accepts
  all_pass = passed (state_checks b state) (floor b) (ap accepts (sym e))

  pub standing : Standing b state
  unfolding state_checks
  standing =
      let (table, held) = each_left Passes (times_checks b state.times) _ all_pass in
      let (a, size) = times_all_pass b state.times table in
      record {
        passes = all_pass;
        accepted = a;
        size = size;
        board = legal (lowest b) b.latest state.times (size ∙ sym a.size) (not-false _ held.0);
        tally = not-false _ held.1.0;
      }

  floor_told : f ≡ floor b
  floor_told = answer_is (e ∙ accepting (state_checks b state) (floor b) all_pass)

  -- and the test of the floor, as the code has it
  pub at_told : SFits w32 f → {v : Bool} → v ≡ below_floor (to_z w32 (of_z w32 f)) state.times → below_floor (floor b) state.times ≡ v
  at_told fits_floor h = sym (rw (to_z-of_z fits_floor, floor_told) at h)

-- a call under the checks of a board and a tally, with more behind them
module _ {A : Type 0} (b : Book) (state : State) (more : List Check) (a : A) (after : State) where
  call_refuses : (q : Refusal) → floor_reply (Err q) ≡ state_reply b state →
      called_by (state_checks b state ++ more) a state after ≡ record { said = refused (number_of q.fault) q.place; after = state }
  call_refuses q e = call_refused (state_checks b state) more a state after (refused_same (floor b) tt (state_checks b state) (sym e))

  call_holds : Standing b state → called_by (state_checks b state ++ more) a state after ≡ called_by more a state after
  call_holds s = call_passes (state_checks b state) more a state after s.passes

-- the hand step, check by check
module _ (b : Book) (state : State) (number : ℕ) where
  abbrev next : State
  next = step_on (rule_at b.rules number) state

  abbrev took : Slip
  took = slip_of (rule_at b.rules number) state.times

  abbrev stays : ℕ → ℕ → Called Slip
  stays fault place = record { said = refused fault place; after = state }

  pub step_refused : (q : Refusal) → floor_reply (Err q) ≡ state_reply b state → step_call b state number ≡ stays (number_of q.fault) q.place
  unfolding step_call step_checks
  step_refused q e = call_refuses b state (rule_step_checks b state number) took next q e

  module _ (s : Standing b state) where
    step_rule : step_call b state number ≡ called_by (rule_step_checks b state number) took state next
    unfolding step_call step_checks
    step_rule = call_holds b state (rule_step_checks b state number) took next s

    pub step_no_rule : length b.rules ≤ number → step_call b state number ≡ stays 24 0
    step_no_rule h = step_rule ∙ call_says _ _ _ _ _ (le-leb (length b.rules) number h)

    module _ (of_book : number < length b.rules) where
      pub rule_in_board : InJobs (length state.times) (clause_of (rule_at b.rules number))
      rule_in_board = rw s.size (in_jobs b.jobs (rule_at b.rules number) (in_book number s.accepted of_book))

      pub step_low : below_floor (floor b) state.times ≡ true → step_call b state number ≡ stays 25 0
      step_low h = step_rule ∙ (call_skips _ _ _ _ _ (lt-leb (length b.rules) number of_book) ∙ call_says _ _ _ _ _ h)

      module _ (above : below_floor (floor b) state.times ≡ false) where
        step_high : step_call b state number ≡ called_by (check (satisfied (rule_at b.rules number) state.times) 26 0 ∷ []) took state next
        step_high = step_rule ∙ (call_skips _ _ _ _ _ (lt-leb (length b.rules) number of_book) ∙ call_skips _ _ _ _ _ above)

        pub step_kept : satisfied (rule_at b.rules number) state.times ≡ true → step_call b state number ≡ stays 26 0
        step_kept h = step_high ∙ call_says _ _ _ _ _ h

        pub step_done : satisfied (rule_at b.rules number) state.times ≡ false → step_call b state number ≡ record { said = answer took; after = next }
        step_done h = step_high ∙ (call_skips _ _ _ _ _ h ∙ call_done _ _ _)

        -- the step may be taken
        pub step_room : satisfied (rule_at b.rules number) state.times ≡ false → StepRoom (rule_at b.rules number) state.times state.tally
        step_room h =
            let (steps, minutes) = tally_room s.accepted s.board state.tally (omega (arith, s.size, s.accepted.few)) s.tally in
            let r = in_book number s.accepted of_book in
            record {
              in_jobs = rule_in_board;
              left_fits = left_fits s.accepted s.board above (rule_at b.rules number) r;
              steps_fit = omega arith;
              minutes_fit = omega (arith, off_bound s.accepted s.board above (rule_at b.rules number) r h);
            }

-- a step back, check by check
module _ (b : Book) (state : State) (slip : Slip) where
  abbrev remains : ℕ → ℕ → Called (Unit {0})
  remains fault place = record { said = refused fault place; after = state }

  pub back_refused : (q : Refusal) → floor_reply (Err q) ≡ state_reply b state → back_call b state slip ≡ remains (number_of q.fault) q.place
  unfolding back_call back_checks
  back_refused q e = call_refuses b state (slip_checks b state slip) tt (back_on slip state) q e

  -- the tests of the slip, one by one
  pub differs_by : {p q r : Bool} → eq_z (time_at state.times slip.job) slip.after ≡ p → le_z slip.before slip.after ≡ q →
      lt_z (time_at b.latest slip.job) slip.before ≡ r → slip_differs b state slip ≡ (not p || (q || r))
  unfolding slip_differs
  differs_by e f g = rw (e, f, g) refl

  -- and as the code has them, on bits
  pub time_differs : (of_z w32 (time_at state.times slip.job) ≡ of_z w32 slip.after → ⊥) → slip_differs b state slip ≡ true
  time_differs h = differs_by (by_test _ (λ q. h (ap (of_z w32) (eq_true _ _ q)))) refl refl

  module _ (fits_before : SFits w32 slip.before) (fits_after : SFits w32 slip.after) (fits_time : SFits w32 (time_at state.times slip.job))
      (same : of_z w32 (time_at state.times slip.job) ≡ of_z w32 slip.after) where
    same_time : eq_z (time_at state.times slip.job) slip.after ≡ true
    same_time = true_eq _ _ (bits_one fits_time fits_after same)

    abbrev above : Bool → Type 0
    above t = le_z (to_z w32 (of_z w32 slip.before)) (to_z w32 (of_z w32 slip.after)) ≡ t

    pub no_higher : above true → slip_differs b state slip ≡ true
    no_higher e = differs_by same_time (rw (to_z-of_z fits_before, to_z-of_z fits_after) at e) refl

    module _ (fits_latest : SFits w32 (time_at b.latest slip.job)) (e : above false) where
      -- so the last test decides
      pub late : {t : Bool} → lt_z (to_z w32 (of_z w32 (time_at b.latest slip.job))) (to_z w32 (of_z w32 slip.before)) ≡ t → slip_differs b state slip ≡ t
      late f =
          differs_by same_time (rw (to_z-of_z fits_before, to_z-of_z fits_after) at e) (rw (to_z-of_z fits_latest, to_z-of_z fits_before) at f)

  module _ (s : Standing b state) where
    back_slip : back_call b state slip ≡ called_by (slip_checks b state slip) tt state (back_on slip state)
    unfolding back_call back_checks
    back_slip = call_holds b state (slip_checks b state slip) tt (back_on slip state) s

    pub back_no_job : b.jobs ≤ slip.job → back_call b state slip ≡ remains 27 0
    back_no_job h = back_slip ∙ call_says _ _ _ _ _ (le-leb b.jobs slip.job h)

    module _ (of_book : slip.job < b.jobs) where
      pub back_differs : slip_differs b state slip ≡ true → back_call b state slip ≡ remains 28 0
      back_differs h = back_slip ∙ (call_skips _ _ _ _ _ (lt-leb b.jobs slip.job of_book) ∙ call_says _ _ _ _ _ h)

      module _ (alike : slip_differs b state slip ≡ false) where
        abbrev off : ℕ
        off = minutes_off slip.before slip.after

        -- what the tests of the slip have seen: the job is at its time after, which is below its time before, which is no later than the job's latest
        stands : time_at state.times slip.job ≡ slip.after
        unfolding slip_differs
        stands = eq_true _ _ (not-false _ (neither _ _ alike).0)

        above_after : slip.after <ℤ slip.before
        unfolding slip_differs
        above_after = le_false _ _ (neither _ _ (neither _ _ alike).1).0

        off_is : up slip.before + dn slip.after ≡ up slip.after + dn slip.before + off
        off_is = off_parts slip.before slip.after (le_make (omega (arith, lt_read above_after)))

        not_late : slip.before ≤ℤ time_at b.latest slip.job
        unfolding slip_differs
        not_late = lt_false _ _ (neither _ _ (neither _ _ alike).1).1

        minutes_are : pos state.tally.minutes ≡ sum_z b.latest -ℤ sum_z state.times
        unfolding fits
        minutes_are = eq_true _ _ (and_parts _ _ s.tally).0

        -- so the tally has the slip's minutes
        pub enough : off ≤ state.tally.minutes
        enough =
            omega (
              arith,
              ap up minutes_are,
              add_parts (sum_z b.latest) (neg_ℤ (sum_z state.times)),
              neg_parts (sum_z state.times),
              sum_parts b.latest,
              sum_parts state.times,
              one_below b.latest state.times slip.job (s.size ∙ sym s.accepted.size) (λ job. legal_under s.board job),
              off_is,
              le_read not_late,
              ap up stands,
              ap dn stands,
            )

        -- and without them they fit the board after: the steps are what may be too many
        back_fits : fits b.latest (back_on slip state).tally (back_on slip state).times ≡ leb (state.tally.steps - 1) (state.tally.minutes - off)
        unfolding fits
        back_fits =
            rw (true_eq (pos (state.tally.minutes - off)) (sum_z b.latest -ℤ sum_z (set state.times slip.job slip.before)) minutes_after) refl
          where
            minutes_after : pos (state.tally.minutes - off) ≡ sum_z b.latest -ℤ sum_z (set state.times slip.job slip.before)
            minutes_after =
                let inside : slip.job < length state.times = rw s.size of_book in
                eq_make
                (omega (
                  arith,
                  enough,
                  ap up minutes_are,
                  ap dn minutes_are,
                  off_is,
                  ap up stands,
                  ap dn stands,
                  sum_parts state.times,
                  sum_parts (set state.times slip.job slip.before),
                  sum_set up state.times slip.job slip.before inside,
                  sum_set dn state.times slip.job slip.before inside,
                  neg_parts (sum_z state.times),
                  neg_parts (sum_z (set state.times slip.job slip.before)),
                  add_parts (sum_z b.latest) (neg_ℤ (sum_z state.times)),
                  add_parts (sum_z b.latest) (neg_ℤ (sum_z (set state.times slip.job slip.before))),
                ))

        unfit_by : {p q : Bool} → eqb state.tally.steps 0 ≡ p → leb (state.tally.steps - 1) (state.tally.minutes - off) ≡ q → tally_short b state slip ≡ (p || not q)
        unfolding tally_short
        unfit_by e f = rw (e, back_fits ∙ f) refl

        back_alike : back_call b state slip ≡ called_by (check (tally_short b state slip) 29 0 ∷ []) tt state (back_on slip state)
        back_alike = back_slip ∙ (call_skips _ _ _ _ _ (lt-leb b.jobs slip.job of_book) ∙ call_skips _ _ _ _ _ alike)

        pub back_none : state.tally.steps ≡ 0 → back_call b state slip ≡ remains 29 0
        back_none h = back_alike ∙ call_says _ _ _ _ _ (unfit_by (eq-eqb state.tally.steps 0 h) refl)

        module _ (some : state.tally.steps ≡ 0 → ⊥) where
          pub back_many : state.tally.minutes - off < state.tally.steps - 1 → back_call b state slip ≡ remains 29 0
          back_many h = back_alike ∙ call_says _ _ _ _ _ (unfit_by (ne_eqb state.tally.steps 0 some) (lt-leb _ _ h))

          pub back_done : state.tally.steps - 1 ≤ state.tally.minutes - off → back_call b state slip ≡ record { said = answer tt; after = back_on slip state }
          back_done h = back_alike ∙ (call_skips _ _ _ _ _ (unfit_by (ne_eqb state.tally.steps 0 some) (le-leb _ _ h)) ∙ call_done _ _ _)
