-- A call's result as an answer, and what is left of a board. Assumes nothing.
use mathlib.Core.Path.{◌≡◌, refl, sym, ap, ◌∙◌}
use mathlib.Core.List.{List}
use Prim.Native.Nat.{ℕ, ◌+◌, ◌*◌, ◌<◌, ◌≤◌}
use native.Mathlib.Omega.{arith}
use lib.IntN.{ℤ, pos}
use lib.ListN.{length, take, drop, get_or, replicate}
use borrow.Author.Tests.{ltb-false, le-leb, lt-leb}
use Rattle.std.proofs.lemmas.List.{get_or_default, take_at}
use Rattle.maxatom.specs.Book.{Book}
use Rattle.maxatom.specs.declared.Rule.{Rule}
use Rattle.derivation.specs.Refusals.{Reply, refused, answer, accepts, reply, verdict, lent}
use Rattle.derivation.specs.Step.{State, no_rule, initial}
use Rattle.derivation.specs.Calls.{Answer, initial_reply, initial_times, run_reply}
use Rattle.derivation.specs.Faults.{number_of, refusal_for}
use Rattle.derivation.specs.Replies.{state_of, solved_answer}
use Rattle.derivation.specs.declared.Tally.{Tally}
use Rattle.derivation.specs.declared.Fault.TheVariants.{NoSuchRule}
use Rattle.derivation.specs.declared.Refusal.{Refusal}
use Rattle.derivation.specs.declared.Solved.{Solved}
use Rattle.derivation.specs.declared.Solved.TheVariants as Solve
use Rattle.derivation.proofs.Checks.{passed}
use Rattle.bookfile.specs.Writing.{plan_bytes, plan_checks, with_records, plan_out}
use Rattle.bookfile.proofs.Plans.{plan_length}
use Rattle.commands.specs.declared.reading.Command.TheVariants as Ask
use Rattle.commands.specs.declared.writing.Answer.TheVariants as Say
use Rattle.commands.specs.Answers.{answer_text}
use Rattle.session.specs.Turns.{no_steps, reply_text, run_text, turn}

pub state_is : (s : State) {times : List ℤ} {tally : Tally} → times ≡ s.times → tally ≡ s.tally → state_of times tally ≡ s
state_is s e f = rw (e, f) refl

-- a rule by its number, or none
module _ (b : Book) (s : State) (number : ℕ) where
  pub rule_found : (rule : Rule) → number < length b.rules → rule ≡ get_or b.rules number rule →
      answer_text (Say.Rule number rule) ≡ (turn b s (Ask.Rule number)).text
  unfolding turn reply_text reply
  rule_found rule h e =
      rw (lt-leb (length b.rules) number h) (ap (λ (r : Rule). answer_text (Say.Rule number r)) (e ∙ get_or_default b.rules number rule no_rule h))

  pub rule_none : (refusal : Refusal) → length b.rules ≤ number → refusal ≡ refusal_for NoSuchRule →
      answer_text (Say.Refused refusal) ≡ (turn b s (Ask.Rule number)).text
  unfolding turn reply_text reply answer_text
  rule_none refusal h e = rw (e, le-leb (length b.rules) number h) refl

-- the bench run, on a buffer of zeros
module _ (b : Book) (s : State) {buffer : List ℤ} (e : buffer ≡ replicate b.jobs (pos 0)) where
  pub ran : (solved : Solved) → answer (solved_answer solved) ≡ run_reply b buffer → answer_text (Say.Run solved) ≡ (turn b s Ask.Run).text
  unfolding turn reply_text run_text
  ran (Solve.Plan steps) f = ap (reply_text (λ a. run_text a.steps a.end)) (f ∙ ap (run_reply b) e)
  ran (Solve.None steps slip) f = ap (reply_text (λ a. run_text a.steps a.end)) (f ∙ ap (run_reply b) e)

  pub ran_not : (refusal : Refusal) → refused (number_of refusal.fault) refusal.place ≡ run_reply b buffer →
      answer_text (Say.Refused refusal) ≡ (turn b s Ask.Run).text
  unfolding turn reply_text answer_text
  ran_not refusal f = ap (reply_text {A = Answer} (λ a. run_text a.steps a.end)) (f ∙ ap (run_reply b) e)

-- a fresh board, or the one that was
pub fresh_is : (b : Book) (s : State) {times : List ℤ} {tally : Tally} → times ≡ initial_times b.jobs b.latest s.times →
    tally ≡ lent (initial_reply b.jobs b.latest s.times) s.tally no_steps →
    state_of times tally ≡ lent (initial_reply b.jobs b.latest s.times) s (initial b)
unfolding initial_times lent
fresh_is b s e f = rw (e, f) (go (initial_reply b.jobs b.latest s.times))
  where
    go : (said : Reply (Unit {0})) → state_of (lent said s.times b.latest) (lent said s.tally no_steps) ≡ lent said s (initial b)
    go (refused number place) = refl
    go (answer a) = refl

-- a plan's bytes, written from the first byte of a buffer on
module _ (times : List ℤ) (out : List ℕ) (said : answer tt ≡ verdict (plan_checks times out 0)) where
  pub plan_fits : 8 * length times ≤ length out
  unfolding plan_checks accepts
  plan_fits =
      let all = passed (plan_checks times out 0) tt (ap accepts (sym said)) in
      let room = ltb-false (length out) (0 + length times * 8) all.1.0 in
      omega (arith, room)

  pub plan_is : {after : List ℕ} → after ≡ plan_out times out 0 → take (8 * length times) after ≡ plan_bytes times
  unfolding plan_out with_records lent
  plan_is e =
      rw (e, ← said)
      (take_at (plan_bytes times) (drop (0 + length times * 8) out) (8 * length times) (let n = plan_length 0 times in omega (arith, n)))
