-- Demand 1, from the one form of a reply. Assumes nothing.
use mathlib.Core.Path.{◌≡◌, refl, ap, subst, ◌∙◌}
use mathlib.Core.Bool.{Bool, true, false, cond}
use mathlib.Core.List.{List, [], ◌∷◌}
use Prim.Native.Nat.{ℕ, ◌+◌}
use native.Mathlib.Omega.{arith}
use lib.IntN.{ℤ}
use lib.Dec.{eqb}
use lib.ListN.{length}
use Rattle.std.specs.List.{Contains}
use Rattle.maxatom.specs.Book.{Each, Book}
use Rattle.maxatom.specs.declared.Rule.{Rule}
use Rattle.derivation.specs.Refusals.{refused, accepts, Check, check, reply, lent, rule_checks, table_checks, time_checks, size_check, latest_checks, book_checks, times_checks}
use Rattle.derivation.specs.Step.{State, state_checks, step_checks, step_call, called_by}
use Rattle.derivation.specs.Back.{back_checks, back_call}
use Rattle.derivation.specs.Calls.{model_check_call, tight_call, initial_checks, initial_reply, initial_times, run_reply, run_times}
use Rattle.derivation.specs.Demand1.{FirstHolds, Refuses, Refusing, Demand1}
use Rattle.maxatom.proofs.Lists.{each_join}
use Rattle.derivation.proofs.Checks.{says, skips_all, each_left, passed, accepting, answer_not}

module _ {A : Type 0} (a : A) where
  -- the first condition to hold is said
  first_said : (checks : List Check) (number place : ℕ) → FirstHolds checks number place → reply checks a ≡ refused number place
  first_said checks number place f =
      ap (λ (l : List Check). reply l a) f.stands ∙ skips_all a f.earlier (check true number place ∷ f.later) f.none_before ∙ says a (check true number place) f.later refl

  -- and what is said is the first to hold
  said_first : (checks : List Check) (number place : ℕ) → reply checks a ≡ refused number place → FirstHolds checks number place
  unfolding reply
  said_first [] number place e = absurd (answer_not e)
  said_first (c ∷ checks) number place e = go c.fails refl (λ q. said_first checks number place q) e
    where
      go : (t : Bool) → c.fails ≡ t → (reply checks a ≡ refused number place → FirstHolds checks number place) →
          cond t (refused c.number c.place) (reply checks a) ≡ refused number place → FirstHolds (c ∷ checks) number place
      go true p f q =
          let n : c.number ≡ number = cc in
          let m : c.place ≡ place = cc in
          record {
            earlier = [];
            later = checks;
            stands =
                ap (λ (d : Check). d ∷ checks)
                (ap (λ (t : Bool). check t c.number c.place) p ∙ ap (λ (k : ℕ). check true k c.place) n ∙ ap (λ (k : ℕ). check true number k) m);
            none_before = tt;
          }
      go false p f q =
          let first = f q in
          record {
            earlier = c ∷ first.earlier;
            later = first.later;
            stands = ap (λ (l : List Check). c ∷ l) first.stands;
            none_before = (p, first.none_before);
          }

  -- a reply, of whose checks each has one of these numbers
  pub refuses : (numbers : List ℕ) (checks : List Check) → Each (λ c. Contains numbers c.number) checks → Refuses numbers checks (reply checks a)
  unfolding accepts
  refuses numbers checks e =
      record {
        exactly = λ number place. (said_first checks number place, first_said checks number place);
        answers = (passed checks a, (λ p. ap accepts (accepting checks a p)));
        own = λ number place said.
            let f = said_first checks number place said in
            (each_left (λ c. Contains numbers c.number) f.earlier _ (subst (Each (λ c. Contains numbers c.number)) f.stands e)).1.0;
      }

  -- with what was lent
  pub refusing : {S : Type 0} (numbers : List ℕ) (checks : List Check) (before after : S) → Each (λ c. Contains numbers c.number) checks →
      Refusing numbers checks (reply checks a) before (lent (reply checks a) before after)
  unfolding lent
  refusing numbers checks before after e =
      record { says = refuses numbers checks e; unchanged = λ number place said. rw said }

-- the checks of a list of latest times have the numbers 8 and 21
module _ (numbers : List ℕ) (eight : Contains numbers 8) (size : Contains numbers 21) where
  time_numbers : (at : ℕ) (latest : List ℤ) → Each (λ c. Contains numbers c.number) (time_checks at latest)
  unfolding time_checks
  time_numbers at [] = tt
  time_numbers at (t ∷ latest) = (eight, time_numbers (at + 1) latest)

  latest_numbers : (jobs : ℕ) (latest : List ℤ) → Each (λ c. Contains numbers c.number) (latest_checks jobs latest)
  unfolding latest_checks
  latest_numbers jobs latest = go (eqb (length latest) jobs)
    where
      go : (t : Bool) → Each (λ c. Contains numbers c.number) (cond t (time_checks 0 latest) (size_check jobs latest ∷ []))
      go true = time_numbers 0 latest
      go false = (size, tt)

-- the numbers of the checks of a book and its times, and others behind them
module _ (more : List ℕ) where
  abbrev numbers : List ℕ
  numbers = 4 ∷ 5 ∷ 6 ∷ 7 ∷ 8 ∷ 10 ∷ 21 ∷ more

  abbrev Own : Check → Type 0
  Own c = Contains numbers c.number

  rule_numbers : (jobs at : ℕ) (rules : List Rule) → Each Own (rule_checks jobs at rules)
  unfolding rule_checks
  rule_numbers jobs at [] = tt
  rule_numbers jobs at (r ∷ rules) = ((2, omega arith, refl), ((3, omega arith, refl), ((5, omega arith, refl), rule_numbers jobs (at + 1) rules)))

  times_numbers : (b : Book) (times : List ℤ) → Each Own (times_checks b times)
  unfolding table_checks book_checks times_checks
  times_numbers b times =
      each_join Own (book_checks b) _
      (each_join Own (table_checks b.jobs b.rules) _ ((0, omega arith, refl), ((1, omega arith, refl), rule_numbers b.jobs 0 b.rules))
      (latest_numbers numbers (4, omega arith, refl) (6, omega arith, refl) b.jobs b.latest))
      ((6, omega arith, refl), tt)

-- and of a state
state_numbers : (more : List ℕ) (b : Book) (state : State) → Each (Own (22 ∷ 23 ∷ more)) (state_checks b state)
unfolding state_checks
state_numbers more b state =
    each_join (Own (22 ∷ 23 ∷ more)) (times_checks b state.times) _ (times_numbers (22 ∷ 23 ∷ more) b state.times)
    ((7, omega arith, refl), ((8, omega arith, refl), tt))

pub demand_1 : Demand1
unfolding model_check_call tight_call initial_checks initial_reply initial_times run_reply run_times step_call called_by step_checks back_call back_checks
demand_1 =
    record {
      model_check = λ b times. refuses _ _ _ (times_numbers [] b times);
      tight = λ b times number. refuses _ _ _ (each_join _ (times_checks b times) _ (times_numbers (24 ∷ []) b times) ((7, omega arith, refl), tt));
      initial = λ jobs latest times.
          refusing _ _ _ _ _ (
            (0, omega arith, refl),
            each_join _ (latest_checks jobs latest) _ (latest_numbers (4 ∷ 8 ∷ 21 ∷ []) (1, omega arith, refl) (2, omega arith, refl) jobs latest)
                ((2, omega arith, refl), tt),
          );
      step = λ b state number.
          refusing _ _ _ _ _
          (each_join _ (state_checks b state) _ (state_numbers (24 ∷ 25 ∷ 26 ∷ []) b state)
          ((9, omega arith, refl), ((10, omega arith, refl), ((11, omega arith, refl), tt))));
      back = λ b state slip.
          refusing _ _ _ _ _
          (each_join _ (state_checks b state) _ (state_numbers (27 ∷ 28 ∷ 29 ∷ []) b state)
          ((9, omega arith, refl), ((10, omega arith, refl), ((11, omega arith, refl), tt))));
      solve = λ b buffer. refusing _ _ _ _ _ (times_numbers [] b buffer);
    }
