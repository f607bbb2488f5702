-- Demand 1 for files: reading record by record says what one list of checks says. Assumes nothing.
use mathlib.Core.Path.{◌≡◌, refl, sym, ap, subst, ◌∙◌}
use mathlib.Core.Bool.{Bool, true, false, cond}
use mathlib.Core.List.{List, [], ◌∷◌, ◌++◌, append-nil}
use Prim.Native.Nat.{ℕ, zero, suc, ◌+◌, ◌<◌, ◌≤◌}
use native.Mathlib.Omega.{arith}
use lib.Dec.{leb}
use borrow.Author.Tests.{leb-true}
use lib.ListN.{length, drop, drop_of_length-le}
use lib.Seq.{drop-drop}
use Rattle.std.proofs.lemmas.List.{take-append-drop}
use Rattle.std.specs.List.{Contains}
use Rattle.maxatom.specs.Book.{most_jobs, most_rules, Each}
use Rattle.maxatom.specs.declared.Rule.{Rule}
use Rattle.derivation.specs.declared.Counts.{Counts}
use Rattle.derivation.specs.Refusals.{Reply, refused, answer, Check, reply, verdict, lent}
use Rattle.maxatom.proofs.Lists.{each_join}
use Rattle.derivation.proofs.Checks.{answer_not}
use Rattle.derivation.proofs.Refusing.{refuses, refusing}
use Rattle.bookfile.specs.declared.mark.Form.{Form}
use Rattle.bookfile.specs.declared.mark.Form.TheVariants.{Sent, Stored}
use Rattle.bookfile.specs.declared.reading.LatestTime.{LatestTime}
use Rattle.bookfile.specs.Numbers.{word}
use Rattle.bookfile.specs.Kinds.{kind_checks, class_checks, CE, decoded_latest, among, kind_at, size_at, decoded_rule}
use Rattle.bookfile.specs.Reading.{head_checks, latest_here, latest_record_checks, latest_record_reply, record_checks, rule_reply, entry, Placed, before, latest_from, rules_from, after, read, end_of, reading, latest_records, rules_begin, rules_of, book_reply, stretch}
use Rattle.bookfile.specs.Replies.{counted, room_checks, roomed, file_reply, read_reply, read_rules, read_latest}
use Rattle.bookfile.specs.Writing.{plan_checks, plan_out}
use Rattle.bookfile.specs.Theorems.{latest_checks_from, checks_from, file_checks, reader_checks, times_at, stretches, ToTheEnd, file_numbers, FileDemand1}
use Rattle.bookfile.proofs.Records.{own_checks}
use Rattle.bookfile.proofs.Latest.{latest_is, latest_in_book, latest_first, left, left_all, left_less}
use Rattle.bookfile.proofs.Rules.{looks, not_full}
use Rattle.bookfile.proofs.Filling.{first_of, none_of}
use Rattle.bookfile.proofs.Walks.{passes_few, split}

-- checks, and more behind them
pub after_append : {A : Type 0} (a : A) (checks more : List Check) → reply (checks ++ more) a ≡ after (verdict checks) (reply more a)
unfolding reply after
after_append a [] more = refl
after_append a (c ∷ checks) more = go c.fails (after_append a checks more)
  where
    go : (t : Bool) → reply (checks ++ more) a ≡ after (verdict checks) (reply more a) →
        cond t (refused c.number c.place) (reply (checks ++ more) a)
        ≡ after (cond t (refused c.number c.place) (verdict checks)) (reply more a)
    go true h = refl
    go false h = h

-- a function of replies that hands refusals on does so behind any checks
pub through : {A B : Type 0} (f : Reply A → Reply B) → ((number place : ℕ) → f (refused number place) ≡ refused number place) →
    (checks : List Check) (a : A) → f (reply checks a) ≡ after (verdict checks) (f (answer a))
unfolding reply after
through f h [] a = refl
through f h (c ∷ checks) a = go c.fails (through f h checks a)
  where
    go : (t : Bool) → f (reply checks a) ≡ after (verdict checks) (f (answer a)) →
        f (cond t (refused c.number c.place) (reply checks a)) ≡ after (cond t (refused c.number c.place) (verdict checks)) (f (answer a))
    go true e = h c.number c.place
    go false e = e

pub mapped : {A B : Type 0} (f : Reply A → Reply B) → ((number place : ℕ) → f (refused number place) ≡ refused number place) →
    (checks : List Check) (a : A) (b : B) → f (answer a) ≡ answer b → f (reply checks a) ≡ reply checks b
mapped f h checks a b e = through f h checks a ∙ ap (after (verdict checks)) e ∙ sym (through (λ s. s) (λ n p. refl) checks b)

-- what comes after a reply does not depend on its answer
pub after_any : {A B : Type 0} (a : A) (checks : List Check) (second : Reply B) →
    after (reply checks a) second ≡ after (verdict checks) second
unfolding after
after_any a checks second = through (λ s. after s second) (λ n p. refl) checks a

after_before : {A B C : Type 0} (kept : B → C) (said : Reply B) (rest : Reply (List C)) (second : Reply A) →
    after (before kept said rest) second ≡ after said (after rest second)
unfolding before after
after_before kept (refused number place) rest second = refl
after_before kept (answer b) (refused number place) second = refl
after_before kept (answer b) (answer more) second = refl

after_answer : {A B : Type 0} (said : Reply A) (second : Reply B) → after (after said (answer (tt {0}))) second ≡ after said second
unfolding after
after_answer (refused number place) second = refl
after_answer (answer a) second = refl

-- the latest times from a byte on are refused as their checks are
from_latest_checks : {A : Type 0} (a : A) (most jobs : ℕ) (file given : List ℕ) (at : ℕ) →
    reply (latest_checks_from most jobs file given at) a ≡ after (latest_from most jobs file given at) (answer a)
unfolding latest_checks_from latest_from latest_record_reply after reply
from_latest_checks a zero jobs file given at = refl
from_latest_checks a (suc most) jobs file given at =
    go (latest_here file at) (from_latest_checks a most jobs file (job ∷ given) (at + CE.size))
  where
    job : ℕ
    job = (decoded_latest file at).job

    here : List Check
    here = latest_record_checks jobs file (among job given) at

    behind : List Check
    behind = latest_checks_from most jobs file (job ∷ given) (at + CE.size)

    rest : Reply (List LatestTime)
    rest = latest_from most jobs file (job ∷ given) (at + CE.size)

    said : Reply LatestTime
    said = latest_record_reply jobs file (among job given) at

    go : (t : Bool) → reply behind a ≡ after rest (answer a) →
        reply (cond t (here ++ behind) []) a ≡ after (cond t (before (λ x. x) said rest) (answer [])) (answer a)
    go false h = refl
    go true h =
        after_append a here behind ∙ ap (after (verdict here)) h
        ∙ sym (after_before (λ x. x) said rest (answer a) ∙ after_any (decoded_latest file at) here (after rest (answer a)))

-- the records from a byte on are refused as their checks are
from_checks : {A : Type 0} (a : A) (form : Form) (most jobs : ℕ) (file : List ℕ) (count at : ℕ) →
    reply (checks_from form most jobs file count at) a ≡ after (rules_from form most jobs file count at) (answer a)
unfolding checks_from rules_from rule_reply after reply
from_checks a form zero jobs file count at = refl
from_checks a form (suc most) jobs file count at = go (leb (length file) at) (from_checks a form most jobs file (count + 1) (at + size_at file at))
  where
    here : List Check
    here = record_checks form jobs file count at

    behind : List Check
    behind = checks_from form most jobs file (count + 1) (at + size_at file at)

    rest : Reply (List Placed)
    rest = rules_from form most jobs file (count + 1) (at + size_at file at)

    go : (t : Bool) → reply behind a ≡ after rest (answer a) →
        reply (cond t [] (here ++ behind)) a
        ≡ after (cond t (answer []) (before (entry at) (rule_reply form jobs file count at) rest)) (answer a)
    go true h = refl
    go false h =
        after_append a here behind ∙ ap (after (verdict here)) h
        ∙ sym
        (after_before (entry at) (rule_reply form jobs file count at) rest (answer a) ∙ after_any (decoded_rule file at) here (after rest (answer a)))

-- a file's reply, and the reader's, by what the first record says, and what the latest times and the rules behind it say
module _ (jobs : ℕ) where
  abbrev found : Reply (List Placed) → Counts
  found said = record { jobs = jobs; rules = length (read said) }

  counted_after : (head : Reply (Unit {0})) (times : Reply (List LatestTime)) (rules : Reply (List Placed)) →
      counted jobs (after head (after times rules))
      ≡ after head (after times (after rules (answer (found (after head (after times rules))))))
  unfolding counted after read
  counted_after (refused number place) times rules = refl
  counted_after (answer tt) (refused number place) rules = refl
  counted_after (answer tt) (answer ts) (refused number place) = refl
  counted_after (answer tt) (answer ts) (answer es) = refl

  roomed_after : (table list : ℕ) (head : Reply (Unit {0})) (times : Reply (List LatestTime)) (rules : Reply (List Placed)) →
      let all = after head (after times rules) in
      roomed table list (counted jobs all)
      ≡ after (after head (after times (after rules (answer (tt {0}))))) (reply (room_checks table list (found all)) (found all))
  unfolding roomed counted after read
  roomed_after table list (refused number place) times rules = refl
  roomed_after table list (answer tt) (refused number place) rules = refl
  roomed_after table list (answer tt) (answer ts) (refused number place) = refl
  roomed_after table list (answer tt) (answer ts) (answer es) = refl

module _ (form : Form) (file : List ℕ) where
  abbrev counts : Counts
  counts = found (word file 2) (book_reply form file)

  checks_say : {A : Type 0} (a : A) →
      reply (file_checks form file) a ≡ after (verdict (head_checks form file)) (after (latest_records file) (after (rules_of form file) (answer a)))
  checks_say a =
      let times = latest_checks_from (most_jobs + 1) (word file 2) file [] 4 in
      let rules = checks_from form (most_rules + 1) (word file 2) file 0 (rules_begin file) in
      after_append a (head_checks form file) (times ++ rules)
      ∙ ap (after (verdict (head_checks form file)))
      (after_append a times rules
      ∙ ap (after (verdict times)) (from_checks a form (most_rules + 1) (word file 2) file 0 (rules_begin file))
      ∙ ap (λ (s : Reply (Unit {0})). after s (after (rules_of form file) (answer a)))
      (from_latest_checks (tt {0}) (most_jobs + 1) (word file 2) file [] 4)
      ∙ after_answer (latest_records file) (after (rules_of form file) (answer a)))

  pub file_is : file_reply form file ≡ reply (file_checks form file) counts
  unfolding file_reply book_reply reading
  file_is = counted_after (word file 2) (verdict (head_checks form file)) (latest_records file) (rules_of form file) ∙ sym (checks_say counts)

read_is : (file : List ℕ) (table list : ℕ) → read_reply file table list ≡ reply (reader_checks file table list) (counts Sent file)
unfolding read_reply file_reply book_reply reading
read_is file table list =
    let c = counts Sent file in
    roomed_after (word file 2) table list (verdict (head_checks Sent file)) (latest_records file) (rules_of Sent file)
    ∙ sym
    (after_append c (file_checks Sent file) _
    ∙ ap (λ (s : Reply (Unit {0})). after s (reply (room_checks table list c) c)) (checks_say Sent file (tt {0})))

-- No job has a second latest time, so however many more looks are allowed, the same is said.
same_times : (m n jobs : ℕ) (file given : List ℕ) (at : ℕ) → left jobs given < m → left jobs given < n →
    latest_from m jobs file given at ≡ latest_from n jobs file given at
unfolding latest_from before
same_times zero n jobs file given at h k = absurd (omega arith)
same_times (suc m) zero jobs file given at h k = absurd (omega arith)
same_times (suc m) (suc n) jobs file given at h k =
    go (latest_here file at)
    (by (latest_record_reply jobs file (among job given) at) refl (λ h k. same_times m n jobs file (job ∷ given) (at + CE.size) h k))
  where
    job : ℕ
    job = (decoded_latest file at).job

    long : Reply (List LatestTime)
    long = latest_from m jobs file (job ∷ given) (at + CE.size)

    short : Reply (List LatestTime)
    short = latest_from n jobs file (job ∷ given) (at + CE.size)

    by : (said : Reply LatestTime) → latest_record_reply jobs file (among job given) at ≡ said →
        (left jobs (job ∷ given) < m → left jobs (job ∷ given) < n → long ≡ short) → before (λ x. x) said long ≡ before (λ x. x) said short
    by (refused number place) e f = refl
    by (answer t) e f =
        let j : t.job ≡ job = ap (λ (x : LatestTime). x.job) (latest_is jobs file _ at e) in
        let l = latest_in_book jobs file _ at e in
        let one = left_less jobs job given (omega arith) (latest_first jobs file _ at e) in
        ap (before (λ x. x) (answer t)) (f (omega arith) (omega arith))

    go : (t : Bool) →
        before (λ x. x) (latest_record_reply jobs file (among job given) at) long
        ≡ before (λ x. x) (latest_record_reply jobs file (among job given) at) short →
        cond t (before (λ x. x) (latest_record_reply jobs file (among job given) at) long) (answer [])
        ≡ cond t (before (λ x. x) (latest_record_reply jobs file (among job given) at) short) (answer [])
    go true e = e
    go false e = refl

-- A 1,025th record is refused, so however many more looks are allowed, the same is said.
same_from : (form : Form) (m n jobs : ℕ) (file : List ℕ) (count at : ℕ) → count ≤ most_rules → looks ≤ count + m → looks ≤ count + n →
    rules_from form m jobs file count at ≡ rules_from form n jobs file count at
unfolding rules_from before
same_from form zero n jobs file count at c h k = absurd (omega arith)
same_from form (suc m) zero jobs file count at c h k = absurd (omega arith)
same_from form (suc m) (suc n) jobs file count at c h k =
    go (leb (length file) at)
    (by (rule_reply form jobs file count at) refl (λ c h k. same_from form m n jobs file (count + 1) (at + size_at file at) c h k))
  where
    long : Reply (List Placed)
    long = rules_from form m jobs file (count + 1) (at + size_at file at)

    short : Reply (List Placed)
    short = rules_from form n jobs file (count + 1) (at + size_at file at)

    by : (said : Reply Rule) → rule_reply form jobs file count at ≡ said →
        (count + 1 ≤ most_rules → looks ≤ count + 1 + m → looks ≤ count + 1 + n → long ≡ short) →
        before (entry at) said long ≡ before (entry at) said short
    by (refused number place) e f = refl
    by (answer r) e f =
        let l = not_full form jobs file count at e in ap (before (entry at) (answer r)) (f (omega arith) (omega arith) (omega arith))

    go : (t : Bool) → before (entry at) (rule_reply form jobs file count at) long ≡ before (entry at) (rule_reply form jobs file count at) short →
        cond t (answer []) (before (entry at) (rule_reply form jobs file count at) long)
        ≡ cond t (answer []) (before (entry at) (rule_reply form jobs file count at) short)
    go true e = refl
    go false e = e

-- A reading that is not refused has taken every byte from the one where it began.
whole_from : (form : Form) (most jobs : ℕ) (file : List ℕ) (count at : ℕ) (found : List Placed) → rules_from form most jobs file count at ≡ answer found →
    stretches file found ≡ drop at file
unfolding rules_from stretches stretch
whole_from form zero jobs file count at found e = absurd (answer_not (sym e))
whole_from form (suc most) jobs file count at found e =
    go (leb (length file) at) refl (whole_from form most jobs file (count + 1) (at + size_at file at)) e
  where
    rest : Reply (List Placed)
    rest = rules_from form most jobs file (count + 1) (at + size_at file at)

    go : (t : Bool) → leb (length file) at ≡ t →
        ((others : List Placed) → rest ≡ answer others → stretches file others ≡ drop (at + size_at file at) file) →
        cond t (answer []) (before (entry at) (rule_reply form jobs file count at) rest) ≡ answer found → stretches file found ≡ drop at file
    go true l f q =
        let none : found ≡ [] = cc in
        rw none (sym (drop_of_length-le file {i = at} (leb-true _ _ l)))
    go false l f q =
        let s = split at (rule_reply form jobs file count at) rest found q in
        rw (s.is, f s.others s.says_more, ← drop-drop (size_at file at) at file) (take-append-drop (size_at file at) (drop at file))

-- The latest times that were read are those of the records from the byte on.
times_from : (most jobs : ℕ) (file given : List ℕ) (at : ℕ) (found : List LatestTime) → latest_from most jobs file given at ≡ answer found →
    found ≡ times_at file at (length found)
unfolding latest_from times_at
times_from zero jobs file given at found e = absurd (answer_not (sym e))
times_from (suc most) jobs file given at found e =
    go (latest_here file at) refl (λ others f. times_from most jobs file ((decoded_latest file at).job ∷ given) (at + CE.size) others f)
  where
    go : (t : Bool) → latest_here file at ≡ t →
        ((others : List LatestTime) → latest_from most jobs file ((decoded_latest file at).job ∷ given) (at + CE.size) ≡ answer others →
        others ≡ times_at file (at + CE.size) (length others)) →
        found ≡ times_at file at (length found)
    go true h f =
        let s = first_of most jobs file given at found e h in
        rw s.is (ap (λ (l : List LatestTime). decoded_latest file at ∷ l) (f s.others s.more))
    go false h f = rw (none_of most jobs file given at found e h) refl

pub to_the_end : (form : Form) (file : List ℕ) → ToTheEnd form file
unfolding book_reply reading after
to_the_end form file =
    record {
      times = λ most found e. times_from most (word file 2) file [] 4 found e;
      whole = λ most at found e. whole_from form most (word file 2) file 0 at found e;
      same = λ more others. go more others (verdict (head_checks form file)) refl;
    }
  where
    jobs : ℕ
    jobs = word file 2

    go : (more others : ℕ) (head : Reply (Unit {0})) → verdict (head_checks form file) ≡ head →
        let many = latest_from (most_jobs + 1 + more) jobs file [] 4 in
        after head (after many (rules_from form (most_rules + 1 + others) jobs file 0 (end_of many)))
        ≡ after head (after (latest_records file) (rules_of form file))
    go more others (refused number place) e = refl
    go more others (answer tt) e =
        let few : left jobs [] ≤ most_jobs = omega (arith, left_all jobs, passes_few form file e) in
        rw (
          same_times (most_jobs + 1 + more) (most_jobs + 1) jobs file [] 4 (omega arith) (omega arith),
          same_from form (most_rules + 1 + others) looks jobs file 0 (rules_begin file) (omega arith) (omega arith) (omega arith),
        )

class_own : (form : Form) (more : List ℕ) (r : Rule) (at : ℕ) →
    Each (λ (c : Check). Contains (file_numbers form ++ more) c.number) (class_checks form r at)
class_own Sent more r at = ((9, omega arith, refl), tt)
class_own Stored more r at = tt

-- the numbers of a file's checks, and others behind them
module _ (form : Form) (more : List ℕ) where
  abbrev numbers : List ℕ
  numbers = file_numbers form ++ more

  abbrev Own : Check → Type 0
  Own c = Contains numbers c.number

  one : Contains numbers 1
  one = (0, omega arith, refl)

  two : Contains numbers 2
  two = (1, omega arith, refl)

  three : Contains numbers 3
  three = (2, omega arith, refl)

  six : Contains numbers 6
  six = (5, omega arith, refl)

  nine : Contains numbers 9
  nine = (8, omega arith, refl)

  latest_numbers : (most jobs : ℕ) (file given : List ℕ) (at : ℕ) → Each Own (latest_checks_from most jobs file given at)
  unfolding latest_checks_from latest_record_checks
  latest_numbers zero jobs file given at = (nine, tt)
  latest_numbers (suc most) jobs file given at =
      go (latest_here file at) (latest_numbers most jobs file ((decoded_latest file at).job ∷ given) (at + CE.size))
    where
      here : List Check
      here = latest_record_checks jobs file (among (decoded_latest file at).job given) at

      behind : List Check
      behind = latest_checks_from most jobs file ((decoded_latest file at).job ∷ given) (at + CE.size)

      go : (t : Bool) → Each Own behind → Each Own (cond t (here ++ behind) [])
      go false h = tt
      go true h = (one, (six, ((7, omega arith, refl), (nine, h))))

  from_numbers : (most jobs : ℕ) (file : List ℕ) (count at : ℕ) → Each Own (checks_from form most jobs file count at)
  unfolding checks_from record_checks
  from_numbers zero jobs file count at = ((4, omega arith, refl), tt)
  from_numbers (suc most) jobs file count at = go (leb (length file) at) (from_numbers most jobs file (count + 1) (at + size_at file at))
    where
      class : List Check
      class = class_checks form (decoded_rule file at) at

      own : Each Own (kind_checks (kind_at file at) jobs file at ++ class)
      own =
          subst (Each Own) (sym (own_checks file at jobs class)) (one, (six, ((6, omega arith, refl), class_own form more (decoded_rule file at) at)))

      go : (t : Bool) → Each Own (checks_from form most jobs file (count + 1) (at + size_at file at)) →
          Each Own (cond t [] (record_checks form jobs file count at ++ checks_from form most jobs file (count + 1) (at + size_at file at)))
      go true h = tt
      go false h = (one, (two, (three, ((4, omega arith, refl), each_join Own (kind_checks (kind_at file at) jobs file at ++ class) _ own h))))

  pub file_own : (file : List ℕ) → Each Own (file_checks form file)
  unfolding head_checks
  file_own file = (
    one,
    (
      two,
      (
        three,
        (
          one,
          (
            (3, omega arith, refl),
            each_join Own (latest_checks_from (most_jobs + 1) (word file 2) file [] 4) _
                (latest_numbers (most_jobs + 1) (word file 2) file [] 4)
                (from_numbers (most_rules + 1) (word file 2) file 0 (rules_begin file)),
          ),
        ),
      ),
    ),
  )

own_numbers : (form : Form) (file : List ℕ) → Each (λ (c : Check). Contains (file_numbers form) c.number) (file_checks form file)
own_numbers form file =
    subst (λ (ns : List ℕ). Each (λ (c : Check). Contains ns c.number) (file_checks form file)) (append-nil (file_numbers form))
    (file_own form [] file)

pub file_demand_1 : FileDemand1
unfolding plan_checks plan_out read_rules read_latest lent
file_demand_1 =
    record {
      file = λ form file. rw (file_is form file) (refuses _ _ _ (own_numbers form file));
      read_book = λ file rules latest.
          record {
            says = rw (read_is file (length rules) (length latest))
                (refuses _ _ _
                (each_join _ (file_checks Sent file) _ (file_own Sent (21 ∷ []) file) ((10, omega arith, refl), ((10, omega arith, refl), tt))));
            unchanged = λ number place e. rw e;
          };
      write_plan = λ times out at. refusing _ _ _ _ _ ((0, omega arith, refl), ((1, omega arith, refl), tt));
    }
