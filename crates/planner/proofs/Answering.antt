-- The calls on a table after its checks: kept test, tight test, bench run. Assumes nothing.
use mathlib.Core.Path.{◌≡◌, refl, sym, ap, ◌∙◌}
use mathlib.Core.Bool.{Bool, true, false, cond, not}
use mathlib.Core.List.{List, [], ◌∷◌, ◌++◌, append-nil}
use Prim.Native.Nat.{ℕ, ◌+◌, ◌<◌, ◌≤◌}
use native.Mathlib.Omega.{arith}
use lib.ListN.{length}
use lib.IntN.{ℤ}
use borrow.Author.Tests.{le-leb, lt-leb}
use Rattle.std.specs.Prelude.{Option, Some, None, Result, Ok, Err, MatchOption}
use Rattle.std.specs.Option.{ok_or}
use Rattle.std.proofs.Common.{Bor}
use Rattle.derivation.specs.declared.Fault.{Fault}
use Rattle.std.specs.List.{All, HoldsAt, position, position_from}
use Rattle.std.proofs.lemmas.List.{get_or_default}
use Rattle.std.proofs.lemmas.Iterator.Adapters.{position_from-zero}
use Rattle.maxatom.specs.Rule.{satisfied, tight}
use Rattle.maxatom.specs.Book.{Book, book, total}
use Rattle.maxatom.specs.Clauses.{clause_of}
use Rattle.maxatom.specs.Inner.{InJobs}
use Rattle.maxatom.specs.declared.Rule.{Rule}
use Rattle.derivation.specs.Faults.{number_of}
use Rattle.derivation.specs.Refusals.{refused, answer, Check, reply, rule_check, times_checks}
use Rattle.solver.proofs.Laws.{in_book, in_jobs}
use Rattle.solver.proofs.Steps.{total_bound}
use Rattle.derivation.specs.Step.{no_rule, rule_at}
use Rattle.derivation.specs.Calls.{violates, first_violated, model_check_call, tight_call}
use Rattle.derivation.specs.Run.{solve}
use Rattle.derivation.specs.Replies.{model_check, SolvedCall}
use Rattle.derivation.specs.Inner.{SolvedAs}
use Rattle.derivation.specs.declared.Solved.{Solved}
use Rattle.planner.specs.Checks.{sum_reply, checks_reply, then_reply}
use Rattle.derivation.proofs.RunCalls.{call_refused as run_refused, call_answered as run_answered}
use Rattle.derivation.specs.declared.Refusal.{Refusal}
use Rattle.derivation.proofs.Checks.{says, accepting, refused_same, answered_same, refused_append, answered_append}
use Rattle.planner.proofs.Checking.{answers, sound}

-- the rule of a number, where a look-up finds it
pub taken : (rules : List Rule) {number : ℕ} (o : Option (Bor Rule)) {r : Bor Rule} (fault : Fault) →
    MatchOption o (length rules ≤ number) (λ x. (number < length rules) × HoldsAt (λ y. x.now ≡ y) rules number) → Ok r ≡ ok_or o fault → (number < length rules) × (r.now ≡ rule_at rules number)
taken rules None fault m e = absurd (cc e)
taken rules (Some x) {r = r} fault m e = let same : r ≡ x = cc e in (m.0, ap (λ (x : Bor Rule). x.now) same ∙ m.1 no_rule)

-- the first violated rule is the first that a search finds
module _ (times : List ℤ) where
  abbrev pub violated : Rule → Bool
  violated r = not (satisfied r times)

  found_from : (at : ℕ) (rules : List Rule) → model_check (position_from violated at rules) ≡ first_violated at rules times
  unfolding first_violated
  found_from at [] = refl
  found_from at (r ∷ rules) = by (satisfied r times) (found_from (at + 1) rules)
    where
      by : (b : Bool) → model_check (position_from violated (at + 1) rules) ≡ first_violated (at + 1) rules times →
          model_check (cond (not b) (Some at) (position_from violated (at + 1) rules)) ≡ cond b (first_violated (at + 1) rules times) (violates at)
      by true e = e
      by false e = refl

  found : (rules : List Rule) → model_check (position violated rules) ≡ first_violated 0 rules times
  found rules = ap model_check (position_from-zero violated rules) ∙ found_from 0 rules

-- where the checks of a table said r: their refusal, or K
module _ (b : Book) (times : List ℤ) where
  -- r stands in the place of the table's checks, with any answer and any checks behind them
  pub same_checks : {A : Type 0} (a : A) (more : List Check) (r : Result ℕ Refusal) → sum_reply r ≡ checks_reply b times →
      then_reply r more a ≡ reply (times_checks b times ++ more) a
  same_checks a more (Err q) e = sym (refused_append (total b.rules) a (times_checks b times) more (sym e))
  same_checks a more (Ok k) e = sym (answered_append (total b.rules) a (times_checks b times) more (answers b times e))

  -- and so each call's reply is the one of its meaning: kept test
  pub model_call : (r : Result ℕ Refusal) → sum_reply r ≡ checks_reply b times →
      then_reply r [] (model_check (position (violated times) b.rules)) ≡ model_check_call b times
  unfolding model_check_call
  model_call r e =
      same_checks (model_check (position (violated times) b.rules)) [] r e
      ∙ (ap (λ (checks : List Check). reply checks (model_check (position (violated times) b.rules))) (append-nil (times_checks b times))
      ∙ ap (reply (times_checks b times)) (found times b.rules))

  -- tight test
  pub tight_call_lem : (number : ℕ) (r : Result ℕ Refusal) → sum_reply r ≡ checks_reply b times →
      then_reply r (rule_check (length b.rules) number ∷ []) (tight (rule_at b.rules number) times) ≡ tight_call b times number
  unfolding tight_call
  tight_call_lem number r e = same_checks (tight (rule_at b.rules number) times) (rule_check (length b.rules) number ∷ []) r e

  -- bench run
  pub solved_refused : (q : Refusal) → sum_reply (Err q) ≡ checks_reply b times → SolvedCall b times (Err q) times
  solved_refused q e = run_refused b times q (refused_same (total b.rules) tt (times_checks b times) (sym e))

  pub solved_run : {k : ℕ} → sum_reply (Ok k) ≡ checks_reply b times → (r : Solved) (after : List ℤ) → SolvedAs (solve (book (length b.latest) b.latest b.rules)) r after →
      SolvedCall b times (Ok r) after
  solved_run e r after s =
      run_answered b times (answered_same (total b.rules) tt (times_checks b times) (answers b times e)) r after
      (rw (sound b times e).accepted.size at s)

  pub kept_refused : (q : Refusal) → sum_reply (Err q) ≡ checks_reply b times → refused (number_of q.fault) q.place ≡ model_check_call b times
  kept_refused q e = model_call (Err q) e

  pub tight_refused : (number : ℕ) (q : Refusal) → sum_reply (Err q) ≡ checks_reply b times → refused (number_of q.fault) q.place ≡ tight_call b times number
  tight_refused number q e = tight_call_lem number (Err q) e

  module _ {k : ℕ} (e : sum_reply (Ok k) ≡ checks_reply b times) where
    pub kept_answered : {o : Option ℕ} → o ≡ position (violated times) b.rules → answer (model_check o) ≡ model_check_call b times
    unfolding reply
    kept_answered q = ap (λ (o : Option ℕ). answer (model_check o)) q ∙ model_call (Ok k) e

    pub small_sum : k ≤ 20643840
    small_sum = let s = sound b times e in omega (arith, s.sum, total_bound s.accepted)

    pub few_times : (length b.latest ≤ 256) × (length times ≤ 256)
    few_times = let s = sound b times e in (omega (arith, s.accepted.size, s.accepted.few), omega (arith, s.size, s.accepted.few))

    pub rule_in_jobs : (number : ℕ) → number < length b.rules → InJobs (length times) (clause_of (rule_at b.rules number))
    rule_in_jobs number h = let s = sound b times e in rw s.size (in_jobs b.jobs (rule_at b.rules number) (in_book number s.accepted h))

    pub all_in_jobs : All (λ r. InJobs (length times) (clause_of r)) b.rules
    all_in_jobs = λ i d h. rw (get_or_default b.rules i no_rule d h) at (rule_in_jobs i h)

    module _ (number : ℕ) where
      pub tight_no_rule : length b.rules ≤ number → refused 24 0 ≡ tight_call b times number
      tight_no_rule h = sym (says (tight (rule_at b.rules number) times) (rule_check (length b.rules) number) [] (le-leb (length b.rules) number h)) ∙ tight_call_lem number (Ok k) e

      pub tight_answered : number < length b.rules → answer (tight (rule_at b.rules number) times) ≡ tight_call b times number
      tight_answered h =
          sym (accepting (rule_check (length b.rules) number ∷ []) (tight (rule_at b.rules number) times) (lt-leb (length b.rules) number h, tt)) ∙ tight_call_lem number (Ok k) e
