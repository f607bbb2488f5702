-- The bench run's call: what it says and leaves where it is refused and where it isn't, and what its answer means. Assumes nothing.
use mathlib.Core.Path.{◌≡◌, sym, ap, ◌∙◌}
use mathlib.Core.List.{List}
use Rattle.std.specs.Prelude.{Result, Ok, Err}
use lib.IntN.{ℤ}
use Rattle.maxatom.specs.Book.{Book}
use Rattle.maxatom.specs.Runs.{planned, fell}
use Rattle.derivation.specs.Refusals.{Reply, refused, answer, accepts, lent, verdict, NotRefused, times_checks}
use Rattle.derivation.specs.Run.{solve}
use Rattle.derivation.specs.Calls.{Answer, answer_of, run_reply, run_times}
use Rattle.derivation.specs.Faults.{number_of}
use Rattle.derivation.specs.Replies.{solved_reply, Meaning, SolvedCall}
use Rattle.derivation.specs.Inner.{SolvedAs}
use Rattle.derivation.specs.declared.Refusal.{Refusal}
use Rattle.derivation.specs.declared.Solved.{Solved}
use Rattle.derivation.proofs.Checks.{accepting, passed, refused_same, answered_same, accepted_iff, times_accepted}
use Rattle.derivation.proofs.Slips.{answer_is}
use Rattle.derivation.proofs.Exact.{demand_2, run_facts}

module _ (b : Book) (buffer : List ℤ) where
  lent_by : {said : Reply Answer} → run_reply b buffer ≡ said → run_times b buffer ≡ lent said buffer (solve b).times
  unfolding run_times
  lent_by e = ap (λ (said : Reply Answer). lent said buffer (solve b).times) e

  run_refused : (q : Refusal) → verdict (times_checks b buffer) ≡ refused (number_of q.fault) q.place →
      (solved_reply (Err q) ≡ run_reply b buffer) × (buffer ≡ run_times b buffer)
  unfolding run_reply lent
  run_refused q e =
      let r = refused_same tt (answer_of (solve b)) (times_checks b buffer) e in
      (sym r, sym (lent_by r))

  run_answered : verdict (times_checks b buffer) ≡ answer tt → (r : Solved) (t : List ℤ) → SolvedAs (solve b) r t →
      (solved_reply (Ok r) ≡ run_reply b buffer) × (t ≡ run_times b buffer)
  unfolding run_reply lent
  run_answered e r t s =
      let q = answered_same tt (answer_of (solve b)) (times_checks b buffer) e in
      (ap answer s.said ∙ sym q, s.left ∙ sym (lent_by q))

  -- an answer is the run's, of a book that is not refused, and the times are those that the run left
  pub run_answer : (w : Answer) → run_reply b buffer ≡ answer w →
      NotRefused b × (answer_of (solve b) ≡ w) × (run_times b buffer ≡ (solve b).times)
  unfolding run_reply accepts lent
  run_answer w e =
      let whole = accepting (times_checks b buffer) (answer_of (solve b)) (passed (times_checks b buffer) (answer_of (solve b)) (ap accepts e)) in
      ((accepted_iff b).1 (times_accepted (answer_of (solve b)) b buffer whole).0, answer_is (sym whole ∙ e), lent_by whole)

  -- so the equations say what plan and none mean
  means : (r : Result Solved Refusal) (t : List ℤ) → solved_reply r ≡ run_reply b buffer → t ≡ run_times b buffer → Meaning b r t
  means r t said left =
      record {
        plan = λ n x.
            let (passing, w, q) = run_answer _ (sym said ∙ ap solved_reply x) in
            let end : (solve b).end ≡ planned = ap (λ (v : Answer). v.end) w in
            (rw (left, q) ((demand_2 b passing).plan_is end), rw (ap (λ (v : Answer). v.steps) w) at ((run_facts b passing).plan_steps end));
        none = λ n slip x.
            let (passing, w, q) = run_answer _ (sym said ∙ ap solved_reply x) in
            let end : (solve b).end ≡ fell slip = ap (λ (v : Answer). v.end) w in
            ((demand_2 b passing).none_iff.0 (slip, end), rw (ap (λ (v : Answer). v.steps) w) at ((run_facts b passing).none_steps slip end));
      }

  by_equations : (r : Result Solved Refusal) (t : List ℤ) → (solved_reply r ≡ run_reply b buffer) × (t ≡ run_times b buffer) → SolvedCall b buffer r t
  by_equations r t q = record { said = q.0; left = q.1; means = means r t q.0 q.1 }

  pub call_refused : (q : Refusal) → verdict (times_checks b buffer) ≡ refused (number_of q.fault) q.place → SolvedCall b buffer (Err q) buffer
  call_refused q e = by_equations (Err q) buffer (run_refused q e)

  pub call_answered : verdict (times_checks b buffer) ≡ answer tt → (r : Solved) (t : List ℤ) → SolvedAs (solve b) r t → SolvedCall b buffer (Ok r) t
  call_answered e r t s = by_equations (Ok r) t (run_answered e r t s)
