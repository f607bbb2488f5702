-- The text of a table, by what the bench run answered, and of a file, by what the reader did. Assumes nothing.
use mathlib.Core.Path.{◌≡◌, refl, sym, ap, subst, ◌∙◌}
use mathlib.Core.List.{List, ◌∷◌}
use Prim.Native.Nat.{ℕ, zero, suc, ◌+◌, ◌*◌, ◌<◌, ◌≤◌}
use native.Mathlib.Numerals.{add-one}
use native.Mathlib.Omega.{arith}
use borrow.Author.Tests.{le-ltb}
use lib.ListN.{length, take, drop, drop_of_length-le, replicate}
use lib.IntN.{ℤ, pos, nat_abs}
use lib.Seq.{drop-cons, length-take-le, take-append_seam}
use Rattle.maxatom.specs.Book.{Book, book, total}
use Rattle.maxatom.specs.Accepted.{InBook, Accepted}
use Rattle.maxatom.specs.declared.Rule.{Rule}
use Rattle.maxatom.specs.declared.Slip.{Slip}
use Rattle.derivation.specs.Refusals.{Reply, refused, answer, lent, times_checks}
use Rattle.derivation.specs.Run.{solve}
use Rattle.derivation.specs.Step.{no_rule, rule_at}
use Rattle.derivation.specs.Replies.{solved_answer}
use Rattle.derivation.specs.Inner.{SolvedAs}
use Rattle.derivation.specs.declared.Counts.{Counts}
use Rattle.derivation.specs.declared.Solved.{Solved}
use Rattle.derivation.specs.declared.Solved.TheVariants as Solve
use Rattle.derivation.proofs.AnyOrder.{each_at}
use Rattle.derivation.proofs.Checks.{accepting, accepted_iff, times_pass}
use Rattle.derivation.proofs.RunCalls.{call_answered}
use Rattle.bookfile.specs.declared.mark.Form.TheVariants.{Sent}
use Rattle.bookfile.specs.Reading.{rules_of_file, latest_of_file, book_of_file}
use Rattle.bookfile.specs.Replies.{file_reply, room_checks, roomed, read_reply, over, read_rules, read_latest}
use Rattle.bookfile.proofs.Tables.{read_accepted, few_rules, few_jobs}
use Rattle.report.specs.Report.{refused_line, plan_text, none_text}
use Rattle.report.specs.Latest.{end_text, run_text, table_text, read_text, report_of}

-- the bench run's call on an accepted book, by the answer of the run itself and the times that it left
module _ (b : Book) (buffer : List ℤ) (a : Accepted b) (n : length buffer ≡ b.jobs) (r : Solved) (times : List ℤ)
    (s : SolvedAs (solve b) r times) where
  table_same : run_text b times (answer (solved_answer r)) ≡ table_text b buffer
  unfolding table_text
  table_same =
      let call = call_answered b buffer (accepting (times_checks b buffer) tt (times_pass buffer a n)) r times s in
      rw (call.left, call.said) refl

  pub table_plan : {steps : ℕ} → r ≡ Solve.Plan steps → plan_text b.rules times steps ≡ table_text b buffer
  unfolding run_text end_text
  table_plan e = rw e at table_same

  pub table_none : {steps : ℕ} {slip : Slip} → r ≡ Solve.None steps slip → none_text b.jobs b.rules slip steps ≡ table_text b buffer
  unfolding run_text end_text
  table_none e = rw e at table_same

-- the offsets of the first i rules of an accepted book are summed in k
pub record Summed (rules : List Rule) (k i : ℕ) : Type 0 where
  pub low : i ≤ length rules
  pub small : k ≤ i * 20160
  pub rest : k + total (drop i rules) ≡ total rules

pub summed_none : (rules : List Rule) → Summed rules 0 0
summed_none rules = record { low = omega arith; small = omega arith; rest = omega arith }

module _ {b : Book} {k i : ℕ} (a : Accepted b) (s : Summed b.rules k i) where
  pub summed_next : i < length b.rules → Summed b.rules (k + nat_abs (rule_at b.rules i).k) (i + 1)
  unfolding total
  summed_next h =
      let one = each_at (InBook b.jobs) b.rules i h a.rules_in in
      let head : drop i b.rules ≡ rule_at b.rules i ∷ drop (i + 1) b.rules = rw (add-one, drop-cons b.rules i no_rule) in
      record {
        low = omega arith;
        small = omega (arith, one.offset, s.small);
        rest = omega (arith, s.rest, ap total head);
      }

  pub summed_all : length b.rules ≤ i → k ≡ total b.rules
  unfolding total
  summed_all h = omega (arith, s.rest, ap total (drop_of_length-le b.rules {i = i} h))

-- an assignment of zeros, out of a longer one
pub take_zeros : {A : Type 0} (a : A) (n m : ℕ) → n ≤ m → take n (replicate m a) ≡ replicate n a
take_zeros a zero m h = refl
take_zeros a (suc n) zero h = absurd (omega arith)
take_zeros {A = A} a (suc n) (suc m) h = ap (λ (l : List A). a ∷ l) (take_zeros a n m (omega arith))

pub take_length : {A : Type 0} {n : ℕ} (l : List A) → n ≤ length l → n ≡ length (take n l)
take_length {n = n} l h = sym (length-take-le n l h)

-- what was put over the first places
put_first : {A : Type 0} (new places : List A) {n : ℕ} → n ≡ length new → take n (over new places) ≡ new
unfolding over
put_first new places e = rw e (take-append_seam new (drop (length new) places))

-- a file that is not refused
module _ (file : List ℕ) {counts : Counts} (e : file_reply Sent file ≡ answer counts) where
  is_accepted : Accepted (book_of_file Sent file)
  is_accepted = (accepted_iff (book_of_file Sent file)).0 (read_accepted file counts e).0

  jobs_are : counts.jobs ≡ (book_of_file Sent file).jobs
  jobs_are = (read_accepted file counts e).1

  rules_are : counts.rules ≡ length (rules_of_file Sent file)
  rules_are = (read_accepted file counts e).2

-- 1,024 places hold the rules of any file that is not refused, and 256 its latest times
pub read_same : (file : List ℕ) → read_reply file 1024 256 ≡ file_reply Sent file
unfolding read_reply roomed
read_same file = go (file_reply Sent file) refl
  where
    go : (r : Reply Counts) → file_reply Sent file ≡ r → roomed 1024 256 r ≡ r
    go (refused number place) e = refl
    go (answer counts) e =
        accepting (room_checks 1024 256 counts) counts
        (le-ltb 1024 counts.rules (few_rules Sent file e), (le-ltb 256 counts.jobs (few_jobs Sent file e), tt))

-- what the reader says of a table of 1,024 places and a list of 256, and what it leaves in them
module _ (file : List ℕ) {counts : Counts} (said : answer counts ≡ read_reply file 1024 256) where
  pub answered : file_reply Sent file ≡ answer counts
  answered = sym (said ∙ read_same file)

  pub room : (counts.rules ≤ 1024) × (counts.jobs ≤ 256)
  room = (few_rules Sent file answered, few_jobs Sent file answered)

  module _ (rules : List Rule) (latest : List ℤ) (m : length rules ≡ 1024) (n : length latest ≡ 256) where
    rules_read : take counts.rules (read_rules file rules latest) ≡ rules_of_file Sent file
    unfolding read_rules lent
    rules_read = rw (m, n, ← said) (put_first (rules_of_file Sent file) rules (rules_are file answered))

    latest_read : take counts.jobs (read_latest file rules latest) ≡ latest_of_file file
    unfolding read_latest lent
    latest_read = rw (m, n, ← said) (put_first (latest_of_file file) latest (jobs_are file answered ∙ sym (is_accepted file answered).size))

    module _ {r : List Rule} {l : List ℤ} (p : r ≡ read_rules file rules latest) (q : l ≡ read_latest file rules latest) where
      -- the first places, as many as were counted
      abbrev pub read : Book
      read = let first = take counts.jobs l in book (length first) first (take counts.rules r)

      pub read_is : read ≡ book_of_file Sent file
      read_is = rw (p, q, rules_read, latest_read, (is_accepted file answered).size) refl

      pub accepted_read : Accepted read
      accepted_read = subst Accepted (sym read_is) (is_accepted file answered)

      pub report_read : table_text read (take counts.jobs (replicate 256 (pos 0))) ≡ report_of file
      unfolding report_of read_text
      report_read = rw (read_is, take_zeros (pos 0) counts.jobs 256 room.1, jobs_are file answered, answered) refl

pub report_refused : (file : List ℕ) {number place : ℕ} → refused number place ≡ read_reply file 1024 256 →
    refused_line number place ≡ report_of file
unfolding report_of read_text
report_refused file said = rw (sym (said ∙ read_same file)) refl
