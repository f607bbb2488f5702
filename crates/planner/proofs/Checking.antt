-- The checks of a table, one after the other, and its K. Assumes nothing.
use mathlib.Core.Path.{◌≡◌, refl, sym, ap, subst, ◌∙◌}
use mathlib.Core.Logic.{◌⊎◌, ⊎_elim}
use mathlib.Core.Bool.{Bool, true, false, cond, not}
use mathlib.Core.List.{List, [], ◌∷◌, ◌++◌}
use Prim.Native.Nat.{ℕ, ◌+◌, ◌*◌, ◌<◌, ◌≤◌}
use native.Mathlib.Omega.{arith}
use native.Mathlib.Numerals.{add-one}
use Rattle.std.proofs.Common.{append_assoc}
use lib.ListN.{length, get_or, drop, drop_of_length-le}
use lib.Seq.{drop-cons}
use lib.IntN.{ℤ, nat_abs}
use borrow.Author.Tests.{le-ltb, lt-ltb, eq-eqb, ne_eqb}
use Rattle.std.specs.Prelude.{Result, Ok, Err, MatchResult, IsErrAnd, is_ok, ⊤}
use Rattle.std.proofs.lemmas.Result.{err_from_is_err_and}
use Rattle.maxatom.specs.Book.{Book, book, Each, total}
use Rattle.maxatom.specs.Class.{contradiction}
use Rattle.maxatom.specs.Accepted.{InBook, Accepted}
use Rattle.maxatom.specs.declared.Rule.{Rule}
use Rattle.maxatom.proofs.Choose.{clash}
use Rattle.derivation.specs.Faults.{number_of}
use Rattle.derivation.specs.declared.Fault.{Fault}
use Rattle.derivation.specs.declared.Fault.TheVariants.{JobNumber, Offset, ImpossibleRule}
use Rattle.derivation.specs.Refusals.{Reply, refused, answer, accepts, Check, reply, verdict, jobs_check, count_check, size_check, job_outside, offset_outside, rule_checks, table_checks, latest_checks, book_checks, times_checks}
use Rattle.derivation.specs.Replies.{outcome_reply}
use Rattle.derivation.specs.declared.Refusal.{Refusal}
use Rattle.derivation.proofs.Checks.{Passes, says, skips, passed, accepting, rule_in_lem, refused_append, answered_append, times_accepted}
use Rattle.table.specs.Faults.{bounds_then, rule_fault}
use Rattle.planner.specs.Checks.{checks_reply}

-- one rule: what is said of it comes before what is said of those after it
module _ (jobs : ℕ) (r : Rule) where
  module _ {A : Type 0} (a : A) (at : ℕ) (rules : List Rule) (more : List Check) where
    abbrev after : Reply A
    after = reply (rule_checks jobs (at + 1) rules ++ more) a

    abbrev before : Result ⊤ Fault → Reply A
    before (Ok done) = after
    before (Err fault) = refused (number_of fault) at

    rule_says : before (rule_fault jobs r) ≡ reply (rule_checks jobs at (r ∷ rules) ++ more) a
    unfolding bounds_then reply rule_checks
    rule_says = by (job_outside jobs r) (offset_outside r) (contradiction r)
      where
        by : (p q i : Bool) → before (cond p (Err JobNumber) (cond q (Err Offset) (cond i (Err ImpossibleRule) (Ok tt))))
            ≡ cond p (refused 6 at) (cond q (refused 7 at) (cond i (refused 10 at) after))
        by true q i = refl
        by false true i = refl
        by false false true = refl
        by false false false = refl

  pub rule_in : rule_fault jobs r ≡ Ok tt → InBook jobs r
  unfolding bounds_then
  rule_in e =
      let (p, q) = by (job_outside jobs r) (offset_outside r) (cond (contradiction r) (Err ImpossibleRule) (Ok tt)) e in rule_in_lem jobs r p q
    where
      by : (p q : Bool) (rest : Result ⊤ Fault) → ◌≡◌ {A = Result ⊤ Fault} (cond p (Err JobNumber) (cond q (Err Offset) rest)) (Ok tt) →
          (p ≡ false) × (q ≡ false)
      by true q rest e = cc
      by false true rest e = cc
      by false false rest e = (refl, refl)

-- what a map of an error says, read from its result
pub mapped_err : {A D E : Type 0} (P : D → E → Type 0) (v : Result A D) {w : Result A E} {q : E} → MatchResult v (λ x. w ≡ Ok x) (λ e. IsErrAnd w (P e)) → w ≡ Err q → (e : D) × (v ≡ Err e) × P e q
mapped_err P (Ok x) h e = absurd (cc (h, e))
mapped_err P (Err d) h e = let (q, s, p) = err_from_is_err_and _ h in (d, refl, subst (P d) (same (sym s ∙ e)) p)
  where
    same : {A E : Type 0} {a b : E} → ◌≡◌ {A = Result A E} (Err a) (Err b) → a ≡ b
    same e = cc

pub mapped_ok : {A D E : Type 0} (v : Result A D) {w : Result A E} {x : A} → is_ok w ≡ is_ok v → w ≡ Ok x → (y : A) × (v ≡ Ok y)
mapped_ok (Ok x) h e = (x, refl)
mapped_ok (Err d) h e = clash (ap is_ok e) h

-- the checks behind those of the table
abbrev behind : Book → List ℤ → List Check
behind b times = latest_checks b.jobs b.latest ++ (size_check b.jobs times ∷ [])

-- the first i rules have passed their checks, and their offsets without signs add up to k
pub record Checked (b : Book) (times : List ℤ) (i k : ℕ) : Type 0 where
  pub small : k ≤ i * 20160
  pub sum : k + total (drop i b.rules) ≡ total b.rules
  pub rest : reply (rule_checks b.jobs i (drop i b.rules) ++ behind b times) (total b.rules) ≡ checks_reply b times

module _ (b : Book) (times : List ℤ) where
  abbrev said : Reply ℕ
  said = checks_reply b times

  table_said : said ≡ reply (table_checks b.jobs b.rules ++ behind b times) (total b.rules)
  unfolding times_checks book_checks
  table_said =
      ap (λ (checks : List Check). reply checks (total b.rules))
      (append_assoc (table_checks b.jobs b.rules) (latest_checks b.jobs b.latest) (size_check b.jobs times ∷ []))

  pub few_jobs : b.jobs < 1 ⊎ (1 ≤ b.jobs × 256 < b.jobs) → refused 4 0 ≡ said
  unfolding table_checks
  few_jobs h =
      sym
      (table_said
      ∙ says (total b.rules) (jobs_check b.jobs) _ (⊎_elim (λ l. rw (lt-ltb b.jobs 1 l)) (λ m. rw (le-ltb b.jobs 1 m.0, lt-ltb 256 b.jobs m.1)) h))

  module _ (p : 1 ≤ b.jobs) (q : b.jobs ≤ 256) where
    jobs_pass : (checks : List Check) → reply (jobs_check b.jobs ∷ checks) (total b.rules) ≡ reply checks (total b.rules)
    jobs_pass checks = skips (total b.rules) (jobs_check b.jobs) checks (rw (le-ltb b.jobs 1 p, le-ltb 256 b.jobs q))

    pub many_rules : 1024 < length b.rules → refused 5 0 ≡ said
    unfolding table_checks
    many_rules h = sym (table_said ∙ (jobs_pass _ ∙ says (total b.rules) (count_check (length b.rules)) _ (lt-ltb 1024 (length b.rules) h)))

    pub checked_none : length b.rules ≤ 1024 → Checked b times 0 0
    unfolding table_checks
    checked_none h =
        record {
          small = omega arith;
          sum = omega arith;
          rest = sym (table_said ∙ (jobs_pass _ ∙ skips (total b.rules) (count_check (length b.rules)) _ (le-ltb 1024 (length b.rules) h)));
        }

  module _ {i k : ℕ} (c : Checked b times i k) where
    module _ (d : Rule) (h : i < length b.rules) where
      head : drop i b.rules ≡ get_or b.rules i d ∷ drop (i + 1) b.rules
      head = rw (add-one, drop-cons b.rules i d)

      here : before b.jobs (get_or b.rules i d) (total b.rules) i (drop (i + 1) b.rules) (behind b times) (rule_fault b.jobs (get_or b.rules i d)) ≡ said
      here = rule_says b.jobs (get_or b.rules i d) (total b.rules) i (drop (i + 1) b.rules) (behind b times)
          ∙ (sym (ap (λ (l : List Rule). reply (rule_checks b.jobs i l ++ behind b times) (total b.rules)) head) ∙ c.rest)

      pub checked_fault : {fault : Fault} → rule_fault b.jobs (get_or b.rules i d) ≡ Err fault → refused (number_of fault) i ≡ said
      checked_fault e = rw e at here

      pub checked_next : rule_fault b.jobs (get_or b.rules i d) ≡ Ok tt → Checked b times (i + 1) (k + nat_abs (get_or b.rules i d).k)
      unfolding total
      checked_next e =
          record {
            small = omega (arith, c.small, (rule_in b.jobs (get_or b.rules i d) e).offset);
            sum = omega (arith, c.sum, ap total head);
            rest = rw e at here;
          }

    module _ (h : length b.rules ≤ i) where
      none_left : drop i b.rules ≡ []
      none_left = drop_of_length-le b.rules h

      rules_pass : reply (behind b times) (total b.rules) ≡ said
      unfolding rule_checks
      rules_pass = sym (ap (λ (l : List Rule). reply (rule_checks b.jobs i l ++ behind b times) (total b.rules)) none_left) ∙ c.rest

      pub checked_latest : (q : Refusal) → outcome_reply (Err q) ≡ verdict (latest_checks b.jobs b.latest) → refused (number_of q.fault) q.place ≡ said
      checked_latest q e = sym (refused_append tt (total b.rules) (latest_checks b.jobs b.latest) _ (sym e)) ∙ rules_pass

      module _ (e : outcome_reply (Ok tt) ≡ verdict (latest_checks b.jobs b.latest)) where
        latest_pass : reply (size_check b.jobs times ∷ []) (total b.rules) ≡ said
        latest_pass = sym (answered_append tt (total b.rules) (latest_checks b.jobs b.latest) _ (sym e)) ∙ rules_pass

        pub checked_size : (length times ≡ b.jobs → ⊥) → refused 21 0 ≡ said
        checked_size n = sym (says (total b.rules) (size_check b.jobs times) [] (ap not (ne_eqb (length times) b.jobs n))) ∙ latest_pass

        pub checked_all : length times ≡ b.jobs → answer k ≡ said
        unfolding total
        checked_all n =
            let e : k ≡ total b.rules = omega (arith, c.sum, ap total none_left) in
            ap answer e
            ∙ (sym (accepting (size_check b.jobs times ∷ []) (total b.rules) (ap not (eq-eqb (length times) b.jobs n), tt)) ∙ latest_pass)

-- a table that passed its checks
pub record Sound (b : Book) (times : List ℤ) (k : ℕ) : Type 0 where
  pub accepted : Accepted b
  pub size : length times ≡ b.jobs
  pub sum : k ≡ total b.rules

module _ (b : Book) (times : List ℤ) {k : ℕ} (e : answer k ≡ checks_reply b times) where
  passes : Each Passes (times_checks b times)
  unfolding accepts
  passes = passed (times_checks b times) (total b.rules) (ap accepts (sym e))

  pub answers : reply (times_checks b times) (total b.rules) ≡ answer (total b.rules)
  answers = accepting (times_checks b times) (total b.rules) passes

  same : {m n : ℕ} → answer m ≡ answer n → m ≡ n
  same q = cc

  pub sound : Sound b times k
  sound = let (a, n) = times_accepted (total b.rules) b times answers in record { accepted = a; size = n; sum = same (e ∙ answers) }

  -- the list and the times are as long as each other, and the book has as many jobs as the list has places
  pub listed : Accepted (book (length b.latest) b.latest b.rules)
  listed = rw sound.accepted.size sound.accepted

  pub same_size : length times ≡ length b.latest
  same_size = sound.size ∙ sym sound.accepted.size
