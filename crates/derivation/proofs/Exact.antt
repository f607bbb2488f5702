-- Demand 2: the bench run says plan exactly where a model exists, of any sign, and its assignment is then the plan. Assumes nothing.
use mathlib.Core.Path.{◌≡◌, refl, sym, ap, ◌∙◌}
use mathlib.Core.List.{List}
use Prim.Native.Nat.{ℕ, ◌*◌, ◌<◌}
use native.Mathlib.Omega.{arith}
use lib.ListN.{length, set}
use lib.Seq.{get_or-set_same}
use lib.IntN.{ℤ, pos, ◌+ℤ◌, ◌-ℤ◌}
use Rattle.maxatom.specs.Rule.{time_at}
use Rattle.maxatom.specs.Book.{Book, Plan, Satisfiable, total, smallest, floor, minus}
use Rattle.maxatom.specs.Accepted.{Accepted}
use Rattle.maxatom.specs.declared.Rule.{Rule}
use Rattle.maxatom.specs.declared.Slip.{Slip}
use Rattle.maxatom.specs.Clauses.{Assignment, clauses_of}
use Rattle.maxatom.proofs.Integers.{up, dn, le_read, le_make, lt_read, add_parts, minus_parts}
use Rattle.maxatom.specs.Runs.{End, planned, fell, unfinished, sum_by, run}
use Rattle.maxatom.proofs.Lists.{sum_most}
use Rattle.maxatom.proofs.Clauses.{Below, lemma_1}
use Rattle.maxatom.proofs.Derivations.{start, floor_under, longest, stays_high}
use Rattle.maxatom.proofs.Rules.{keeps_all, setting, smallest_least, zero_smallest, zero_floor, zero_room}
use Rattle.maxatom.proofs.Signed.{zero_minus}
use Rattle.maxatom.proofs.Plans.{plan_unique, plan_at_latest}
use Rattle.derivation.specs.Step.{State, initial}
use Rattle.derivation.specs.Play.{rounds}
use Rattle.derivation.specs.Run.{pass_bound, solve}
use Rattle.derivation.specs.Demands.{Demand2, Exact, Fallen, RunsSo, PlansSo, AtZero}
use Rattle.derivation.proofs.Checks.{accepted_iff}
use Rattle.derivation.proofs.Reached.{Reached, high_test, test_high, floor_low}
use Rattle.derivation.proofs.Slips.{set_back}
use Rattle.derivation.proofs.AnyOrder.{played, is_plan, with_plan}
use Rattle.derivation.proofs.Passes.{PassesAre, passes_are, run_through}

-- the state after the calls of all passes
abbrev last : Book → State
last b = run_through b (initial b) (rounds (pass_bound b) (length b.rules))

module _ {b : Book} (a : Accepted b) where
  reached : Reached b (last b)
  reached = (played a (initial b) start _).1

  bench : PassesAre b (initial b) (pass_bound b) (solve b)
  unfolding solve run
  bench = passes_are a (pass_bound b) (initial b) start (high_test (floor b) b.latest (floor_under (setting a)))

  plan_is : (solve b).end ≡ planned → Plan b (solve b).times
  plan_is e = rw bench.times_is at (is_plan a reached (rw bench.times_is (bench.planned_is e)))

  -- what the slip of a fall says
  fallen : (slip : Slip) → (solve b).end ≡ fell slip → Fallen b slip
  fallen slip e =
      let f = bench.fell_at slip e in
      let before = (run_through b (initial b) f.earlier).times in
      let inside : slip.job < length before = rw f.size f.of_book in
      record {
        of_book = f.of_book;
        stands = ap (λ (t : List ℤ). time_at t slip.job) f.stored ∙ get_or-set_same before slip.job slip.after (pos 0) inside;
        below = f.low;
        above = rw f.before_is (test_high (floor b) before (floor_low a) f.high slip.job);
        last =
            record {
              calls = f.earlier;
              number = f.number;
              rest = f.rest;
              of_run = f.of_calls;
              one_less = f.one_less;
              told = f.told;
              put_back = sym (ap (λ (t : List ℤ). set t slip.job slip.before) f.stored ∙ (ap (λ (v : ℤ). set (set before slip.job slip.after) slip.job v) f.before_is ∙ set_back before slip.job slip.after));
            };
      }

  -- a fall leaves no model: shifted below the smallest latest time, it would keep every time at the floor or above
  no_model_lem : (slip : Slip) → (solve b).end ≡ fell slip → Satisfiable b → ⊥
  no_model_lem slip e (times, m) =
      omega (arith, le_read (rw bench.times_is at (stays_high (setting a) t (lemma_1 (clauses_of b.rules) (time_at times) d (keeps_all b.rules times m.keeps)) below reached slip.job)), lt_read (fallen slip e).below, ap up (fallen slip e).stands, ap dn (fallen slip e).stands)
    where
      d : ℤ
      d = smallest b.latest -ℤ pos (sum_by up times)

      t : Assignment
      t job = time_at times job +ℤ d

      below : Below t (time_at b.latest)
      below job =
          le_make
          (omega (
            arith,
            sum_most up times job refl,
            add_parts (time_at times job) d,
            add_parts (smallest b.latest) (minus (sum_by up times)),
            minus_parts (sum_by up times),
            le_read (smallest_least b.latest job),
          ))

  ended : (C : Type 0) → ((solve b).end ≡ planned → C) → ((slip : Slip) → (solve b).end ≡ fell slip → C) → C
  ended C f g = go (solve b).end refl
    where
      go : (e : End) → (solve b).end ≡ e → C
      go planned q = f q
      go (fell slip) q = g slip q
      go unfinished q = absurd (bench.ends (omega arith) q)

  pub exact : Exact b
  exact =
      record {
        plan_iff = ((λ e. ((solve b).times, (plan_is e).model)), (λ s. ended _ (λ e. e) (λ slip e. absurd (no_model_lem slip e s))));
        plan_is = plan_is;
        none_iff = ((λ w. no_model_lem w.0 w.1), (λ none. ended _ (λ e. absurd (none ((solve b).times, (plan_is e).model))) (λ slip e. (slip, e))));
      }

pub demand_2 : Demand2
demand_2 b passing = exact ((accepted_iff b).0 passing)

pub run_facts : RunsSo
run_facts b passing =
    let a = (accepted_iff b).0 passing in
    record {
      ends = (bench a).ends (omega arith);
      plan_steps = λ e. rw (bench a).steps_is at (with_plan a (reached a) _ (plan_is a e)).bound;
      none_steps = λ slip e. rw (bench a).steps_is at (longest (setting a) (reached a));
      fallen = fallen a;
      times_are = (bench a).times_is;
      same_steps = (bench a).steps_is;
    }

pub plan_facts : PlansSo
plan_facts b passing =
    let a = (accepted_iff b).0 passing in
    record {
      plan_iff_model = ((λ w. (w.0, w.1.model)), (λ s. ((solve b).times, plan_is a ((exact a).plan_iff.1 s))));
      unique = λ p q x y. plan_unique x y;
      at_latest = λ p x. plan_at_latest a x;
    }

-- document 01's base, from the definitions with latest times
pub at_zero : (jobs : ℕ) (rules : List Rule) → AtZero jobs rules
at_zero jobs rules =
    record {
      floor_is = zero_floor jobs rules;
      lowest_is = rw (zero_smallest jobs) (zero_minus (pos (2 * total rules)));
      bound_is = rw (zero_floor jobs rules) (zero_room jobs rules);
    }
