-- The rules of a file that is not refused pass the table's checks. Assumes nothing.
use mathlib.Core.Path.{◌≡◌, refl, sym, ap, subst, ◌∙◌}
use mathlib.Core.Bool.{Bool, true, false, cond}
use mathlib.Core.List.{List, [], ◌∷◌, ◌++◌, map}
use Prim.Native.Nat.{ℕ, zero, suc, ◌+◌, ◌≤◌}
use native.Mathlib.Omega.{arith}
use borrow.Author.Tests.{le-ltb}
use lib.Dec.{eqb, leb}
use lib.IntN.{pos}
use lib.ListN.{length, length-map}
use Rattle.maxatom.specs.Book.{most_jobs, most_rules, Each}
use Rattle.maxatom.specs.Accepted.{InTime}
use Rattle.maxatom.specs.declared.Rule.{Rule}
use Rattle.derivation.specs.declared.Counts.{Counts}
use Rattle.derivation.specs.Refusals.{answer, accepts, rule_checks, table_checks, latest_outside, book_checks, NotRefused}
use Rattle.derivation.proofs.Checks.{Passes, answer_not, passed, accepting, in_time, latest_passes, accepted_iff}
use Rattle.maxatom.proofs.Lists.{each_join}
use Rattle.bookfile.specs.declared.mark.Form.{Form}
use Rattle.bookfile.specs.declared.mark.Form.TheVariants.{Sent}
use Rattle.bookfile.specs.declared.reading.LatestTime.{LatestTime}
use Rattle.bookfile.specs.Numbers.{word}
use Rattle.bookfile.specs.Kinds.{kind_checks, class_checks, jobs_at, kind_at, size_at, decoded_rule}
use Rattle.bookfile.specs.Reading.{head_checks, record_checks, rule_reply, entry, Placed, before, rules_from, read, latest_records, rules_begin, entries, rules_of_file, minute_of, minutes_from, latest_of_file, book_of_file}
use Rattle.bookfile.specs.Replies.{file_reply}
use Rattle.bookfile.specs.Theorems.{ReadAccepted}
use Rattle.bookfile.proofs.Records.{own_checks}
use Rattle.bookfile.proofs.Rules.{looks, passes, rule_is, not_full}
use Rattle.bookfile.proofs.Filling.{Good, good_from}
use Rattle.bookfile.specs.Inner.{Listed}
use Rattle.bookfile.proofs.Walks.{passes_few, split, listed, listed_jobs, listed_rules, latest_length}

abbrev rule_of : Placed → Rule
rule_of e = e.rule

-- the rules that were read of a sent file pass the checks of a table, and those of any file are no more than 1,024
record Fine (form : Form) (jobs number count : ℕ) (es : List Placed) : Type 0 where
  pass : form ≡ Sent → Each Passes (rule_checks jobs number (map rule_of es))
  few : count + length es ≤ most_rules

fine_none : (form : Form) (jobs number count : ℕ) (es : List Placed) → count ≤ most_rules → answer [] ≡ answer es → Fine form jobs number count es
unfolding rule_checks
fine_none form jobs number count [] h e = record { pass = λ sent. tt; few = omega arith }
fine_none form jobs number count (d ∷ es) h e = absurd (let z : ◌≡◌ {A = List Placed} [] (d ∷ es) = cc in omega (arith, ap length z))

fine : (form : Form) (most jobs : ℕ) (file : List ℕ) (number count at : ℕ) (es : List Placed) → count ≤ most_rules →
    rules_from form most jobs file count at ≡ answer es → Fine form jobs number count es
unfolding rules_from rule_checks record_checks
fine form zero jobs file number count at es h e = absurd (answer_not (sym e))
fine form (suc most) jobs file number count at es h e =
    go (leb (length file) at) (λ others c q. fine form most jobs file (number + 1) (count + 1) (at + size_at file at) others c q) e
  where
    go : (t : Bool) →
        ((others : List Placed) → count + 1 ≤ most_rules → rules_from form most jobs file (count + 1) (at + size_at file at) ≡ answer others →
        Fine form jobs (number + 1) (count + 1) others) →
        cond t (answer []) (before (entry at) (rule_reply form jobs file count at) (rules_from form most jobs file (count + 1) (at + size_at file at)))
        ≡ answer es → Fine form jobs number count es
    go true f q = fine_none form jobs number count es h q
    go false f q =
        let s = split at (rule_reply form jobs file count at) (rules_from form most jobs file (count + 1) (at + size_at file at)) es q in
        let p = passes form jobs file count at s.says_first in
        let class = class_checks form (decoded_rule file at) at in
        let own : Each Passes (kind_checks (kind_at file at) jobs file at ++ class) = p.1.1.1.1 in
        let fields = subst (Each Passes) (own_checks file at jobs class) own in
        let r = rule_is form jobs file count at s.says_first in
        let n = not_full form jobs file count at s.says_first in
        let m = f s.others (omega arith) s.says_more in
        rw s.is
        (record {
          pass = λ sent.
              let ten : Each Passes (class_checks Sent (decoded_rule file at) at) =
              subst (λ (f : Form). Each Passes (class_checks f (decoded_rule file at) at)) sent fields.1.1.1 in
              (rw r fields.1.0, (rw r fields.1.1.0, (rw r ten.0, m.pass sent)));
          few = omega (arith, m.few);
        })

-- the latest times that were read, and zero, are within the bounds
minute_in : (jobs : ℕ) (given : List ℕ) (found : List LatestTime) → Good jobs given found → (job : ℕ) → InTime (minute_of job found)
unfolding minute_of latest_outside
minute_in jobs given [] g job = in_time (pos 0) refl
minute_in jobs given (t ∷ more) g job = go (eqb t.job job) (minute_in jobs (t.job ∷ given) more g.3 job)
  where
    go : (b : Bool) → InTime (minute_of job more) → InTime (cond b t.minute (minute_of job more))
    go true h = in_time t.minute g.1
    go false h = h

minutes_in : (found : List LatestTime) → ((job : ℕ) → InTime (minute_of job found)) → (job jobs : ℕ) →
    Each InTime (minutes_from job jobs found)
unfolding minutes_from
minutes_in found h job zero = tt
minutes_in found h job (suc jobs) = (h job, minutes_in found h (job + 1) jobs)

latest_in : (form : Form) (file : List ℕ) → Listed form file → Each InTime (latest_of_file file)
unfolding latest_of_file
latest_in form file l =
    let times = read (latest_records file) in
    minutes_in times (minute_in (word file 2) [] times (good_from (most_jobs + 1) (word file 2) file [] 4 times l.times)) 0 (word file 2)

-- all rules that were read
fine_all : (form : Form) (file : List ℕ) → Listed form file → Fine form (word file 2) 0 0 (entries form file)
fine_all form file l = fine form looks (word file 2) file 0 0 (rules_begin file) (entries form file) (omega arith) l.all

not_refused : (file : List ℕ) → Listed Sent file → NotRefused (book_of_file Sent file)
unfolding book_checks table_checks head_checks jobs_at accepts
not_refused file l =
    let f = fine_all Sent file l in
    let n = length-map (entries Sent file) rule_of in
    let h = (passed (head_checks Sent file) tt (ap accepts l.head)).1.1.1.1.0 in
    let t : Each Passes (table_checks (word file 2) (rules_of_file Sent file)) =
    (h, (le-ltb most_rules (length (rules_of_file Sent file)) (omega (arith, n, f.few)), f.pass refl)) in
    accepting (book_checks (book_of_file Sent file)) (tt {0})
    (each_join Passes (table_checks (word file 2) (rules_of_file Sent file)) _ t
    (latest_passes (word file 2) (latest_of_file file) (latest_length file) (latest_in Sent file l)))

pub read_accepted : ReadAccepted
read_accepted file counts e =
    let a = not_refused file (listed Sent file e) in (
      a,
      listed_jobs Sent file e,
      listed_rules Sent file e ∙ sym (length-map (entries Sent file) rule_of),
      ((accepted_iff (book_of_file Sent file)).0 a).possible,
    )

-- 1,024 places hold the rules of any file that is not refused, and 256 its latest times
pub few_rules : (form : Form) (file : List ℕ) {counts : Counts} → file_reply form file ≡ answer counts → counts.rules ≤ most_rules
few_rules form file e = omega (arith, listed_rules form file e, (fine_all form file (listed form file e)).few)

pub few_jobs : (form : Form) (file : List ℕ) {counts : Counts} → file_reply form file ≡ answer counts → counts.jobs ≤ most_jobs
few_jobs form file e = omega (arith, listed_jobs form file e, passes_few form file (listed form file e).head)
