-- The jobs of an accepted book's rules, and the initial assignment. Assumes nothing.
use mathlib.Core.Path.{◌≡◌, refl, sym, ap, ◌∙◌}
use mathlib.Core.Logic.{◌⊎◌, ⊎_elim}
use mathlib.Core.Bool.{Bool, true, false, not}
use mathlib.Core.List.{List, [], ◌∷◌, ◌++◌}
use Prim.Native.Nat.{ℕ, ◌<◌, ◌≤◌}
use lib.ListN.{length}
use lib.IntN.{ℤ}
use borrow.Author.Tests.{le-ltb, lt-ltb, eq-eqb, ne_eqb, eqb-true, eqb-false}
use mir.Syntax.{Width, w64}
use mir.Val.{SFits, of_z, to_z}
use mir.Facts.{to_z-of_z}
use lib.Dec.{eqb}
use Rattle.maxatom.specs.Rule.{eq_z}
use Rattle.maxatom.proofs.Integers.{eq_true, true_eq, by_test}
use Rattle.maxatom.specs.Book.{Book, Each}
use Rattle.maxatom.specs.Accepted.{Accepted, InBook}
use Rattle.maxatom.specs.Clauses.{clause_of, clauses_of}
use Rattle.maxatom.specs.Inner.{InJobs}
use Rattle.maxatom.specs.declared.Rule.{Rule}
use Rattle.std.specs.Prelude.{Ok, Err}
use Rattle.derivation.specs.Faults.{number_of}
use Rattle.derivation.specs.declared.Refusal.{Refusal}
use Rattle.derivation.specs.Refusals.{Reply, refused, answer, accepts, verdict, lent, jobs_check, size_check, latest_checks}
use Rattle.derivation.specs.Replies.{outcome_reply}
use Rattle.derivation.specs.Step.{rule_at}
use Rattle.derivation.specs.Calls.{initial_checks, initial_reply, initial_times}
use Rattle.derivation.proofs.AnyOrder.{each_at}
use Rattle.derivation.proofs.Checks.{says, skips, passed, accepting, latest_all, refused_append, answered_append}

pub in_book : {b : Book} (i : ℕ) → Accepted b → i < length b.rules → InBook b.jobs (rule_at b.rules i)
in_book {b = b} i a h = each_at (InBook b.jobs) b.rules i h a.rules_in

-- the jobs of a rule's clause, and of each clause of a book
pub in_jobs : (jobs : ℕ) (r : Rule) → InBook jobs r → InJobs jobs (clause_of r)
in_jobs jobs r b = record { arms = (b.first, (b.second, tt)); target = b.third }

pub all_in_jobs : (jobs : ℕ) (rules : List Rule) → Each (InBook jobs) rules → Each (InJobs jobs) (clauses_of rules)
all_in_jobs jobs [] e = tt
all_in_jobs jobs (r ∷ rules) e = (in_jobs jobs r e.0, all_in_jobs jobs rules e.1)

-- two numbers are one where their bits are
pub bits_one : {w : Width} {a b : ℤ} → SFits w a → SFits w b → of_z w a ≡ of_z w b → a ≡ b
bits_one {w = w} f g e = sym (to_z-of_z f) ∙ (ap (to_z w) e ∙ to_z-of_z g)

pub same_bits : (a b : ℤ) → SFits w64 a → SFits w64 b → eqb (of_z w64 a) (of_z w64 b) ≡ eq_z b a
same_bits a b f g = by (eqb (of_z w64 a) (of_z w64 b)) refl
  where
    by : (t : Bool) → eqb (of_z w64 a) (of_z w64 b) ≡ t → eqb (of_z w64 a) (of_z w64 b) ≡ eq_z b a
    by true e = e ∙ sym (true_eq b a (sym (bits_one f g (eqb-true (of_z w64 a) (of_z w64 b) e))))
    by false e = e ∙ sym (by_test (eq_z b a) (λ q. eqb-false (of_z w64 a) (of_z w64 b) e (ap (of_z w64) (sym (eq_true b a q)))))

-- the initial assignment, check by check: the reply, and the times after
module _ (jobs : ℕ) (latest times : List ℤ) where
  abbrev pub Initial : Reply (Unit {0}) → List ℤ → Type 0
  Initial said after = (said ≡ initial_reply jobs latest times) × (after ≡ initial_times jobs latest times)

  initially : (said : Reply (Unit {0})) → initial_reply jobs latest times ≡ said → Initial said (lent said times latest)
  unfolding initial_times
  initially said e = (sym e, sym (ap (λ (r : Reply (Unit {0})). lent r times latest) e))

  pub initial_count : jobs < 1 ⊎ (1 ≤ jobs × 256 < jobs) → Initial (refused 4 0) times
  unfolding initial_reply initial_checks lent
  initial_count h = initially (refused 4 0) (says tt (jobs_check jobs) _ (⊎_elim (λ l. rw (lt-ltb jobs 1 l)) (λ m. rw (le-ltb jobs 1 m.0, lt-ltb 256 jobs m.1)) h))

  module _ (p : 1 ≤ jobs) (q : jobs ≤ 256) where
    counted : initial_reply jobs latest times ≡ verdict (latest_checks jobs latest ++ (size_check jobs times ∷ []))
    unfolding initial_reply initial_checks
    counted = skips tt (jobs_check jobs) _ (rw (le-ltb jobs 1 p, le-ltb 256 jobs q))

    pub initial_latest : (r : Refusal) → outcome_reply (Err r) ≡ verdict (latest_checks jobs latest) → Initial (refused (number_of r.fault) r.place) times
    unfolding lent
    initial_latest r e = initially (refused (number_of r.fault) r.place) (counted ∙ refused_append tt tt (latest_checks jobs latest) _ (sym e))

    module _ (e : outcome_reply (Ok tt) ≡ verdict (latest_checks jobs latest)) where
      listed : initial_reply jobs latest times ≡ verdict (size_check jobs times ∷ [])
      listed = counted ∙ answered_append tt tt (latest_checks jobs latest) _ (sym e)

      pub latest_size : length latest ≡ jobs
      unfolding accepts
      latest_size = (latest_all jobs latest (passed (latest_checks jobs latest) tt (ap accepts (sym e)))).0

      pub initial_size : (length times ≡ jobs → ⊥) → Initial (refused 21 0) times
      unfolding lent
      initial_size h = initially (refused 21 0) (listed ∙ says tt (size_check jobs times) _ (ap not (ne_eqb (length times) jobs h)))

      pub initial_done : length times ≡ jobs → Initial (answer tt) latest
      unfolding lent
      initial_done h = initially (answer tt) (listed ∙ accepting (size_check jobs times ∷ []) tt (ap not (eq-eqb (length times) jobs h), tt))
