-- The rules of a file that is not refused, walked one by one. Assumes nothing.
use mathlib.Core.Path.{◌≡◌, refl, sym, ap, ◌∙◌}
use mathlib.Core.Logic.{◌⊎◌, ⊎_elim}
use mathlib.Core.List.{List, [], ◌∷◌, ◌++◌}
use Prim.Native.Nat.{ℕ, zero, suc, ◌+◌, ◌-◌, ◌<◌, ◌≤◌}
use native.Mathlib.Omega.{arith}
use native.Mathlib.Decide.{dec_lt}
use borrow.Author.Tests.{ltb-false, lt-ltb, le-ltb}
use lib.IntN.{ℤ}
use lib.Dec.{ltb}
use lib.ListN.{length, take, drop, length-drop, length-map, drop_of_length-le}
use lib.Seq.{drop-drop}
use Rattle.maxatom.specs.Book.{most_jobs, most_rules}
use Rattle.maxatom.specs.declared.Rule.{Rule}
use Rattle.maxatom.proofs.Choose.{cond_yes, cond_no}
use Rattle.derivation.specs.Refusals.{Reply, refused, answer, accepts, reply, verdict, lent}
use Rattle.derivation.proofs.Checks.{answer_not, neither, passed, accepting, refused_same}
use Rattle.derivation.specs.declared.Counts.{Counts}
use Rattle.bookfile.specs.declared.mark.Form.{Form}
use Rattle.bookfile.specs.declared.mark.Form.TheVariants.{Sent}
use Rattle.bookfile.specs.declared.reading.LatestTime.{LatestTime}
use Rattle.bookfile.specs.Numbers.{word}
use Rattle.bookfile.specs.Kinds.{jobs_at, size_at, decoded_rule}
use Rattle.bookfile.specs.Reading.{head_checks, rule_reply, entry, Placed, before, latest_from, rules_from, after, read, end_of, reading, latest_records, rules_begin, rules_of, book_reply, entries, rules_of_file, latest_of_file, minutes_from, place_at, place_of, stretch, record_of}
use Rattle.bookfile.specs.Replies.{counted, file_reply, roomed, read_reply, over, read_rules, read_latest}
use Rattle.bookfile.specs.Inner.{head_reply, ended, Listed, Begins}
use Rattle.bookfile.proofs.Rules.{looks, from_record, from_end, next, in_file, not_full, rule_is}

-- what was read, and where it ended
times_ended : (said : Reply (List LatestTime)) {begin : ℕ} → answer begin ≡ ended 4 said →
    (said ≡ answer (read said)) × (begin ≡ end_of said)
unfolding ended read end_of
times_ended (refused number place) e = absurd (answer_not e)
times_ended (answer times) e = (refl, cc)

-- a file by its first record, and by its latest times
module _ (form : Form) (file : List ℕ) where
  pub file_refused : {number place : ℕ} → head_reply form file ≡ refused number place → refused number place ≡ file_reply form file
  unfolding head_reply file_reply book_reply reading after counted
  file_refused e = rw (refused_same (word file 2) (tt {0}) (head_checks form file) e)

  -- the first record passes, and says the job count
  passes_head : {jobs : ℕ} → head_reply form file ≡ answer jobs → (verdict (head_checks form file) ≡ answer tt) × (word file 2 ≡ jobs)
  unfolding head_reply accepts
  passes_head {jobs} e =
      let p = passed (head_checks form file) (word file 2) (ap accepts e) in
      let a : answer (word file 2) ≡ answer jobs = sym (accepting (head_checks form file) (word file 2) p) ∙ e in
      (accepting (head_checks form file) (tt {0}) p, cc)

  pub head_long : {jobs : ℕ} → head_reply form file ≡ answer jobs → 4 ≤ length file
  unfolding head_reply head_checks accepts
  head_long e = ltb-false _ _ (passed (head_checks form file) (word file 2) (ap accepts e)).1.1.1.0

  pub passes_few : verdict (head_checks form file) ≡ answer tt → word file 2 ≤ most_jobs
  unfolding head_checks jobs_at accepts
  passes_few e =
      ltb-false most_jobs (word file 2)
      (neither (ltb (word file 2) 1) (ltb most_jobs (word file 2)) (passed (head_checks form file) (tt {0}) (ap accepts e)).1.1.1.1.0).1

  pub head_few : {jobs : ℕ} → head_reply form file ≡ answer jobs → jobs ≤ most_jobs
  head_few e = let p = passes_head e in rw (← p.1) (passes_few p.0)

  module _ {jobs : ℕ} (e : head_reply form file ≡ answer jobs) where
    abbrev pub times : Reply (List LatestTime)
    times = latest_from (most_jobs + 1) jobs file [] 4

    pub file_times : {number place : ℕ} → refused number place ≡ ended 4 times → refused number place ≡ file_reply form file
    unfolding file_reply book_reply reading after counted ended
    file_times {number} {place} f = let p = passes_head e in rw (p.0, p.1) (go times f)
      where
        go : (said : Reply (List LatestTime)) → refused number place ≡ ended 4 said →
            refused number place ≡ counted jobs (after said (rules_from form (most_rules + 1) jobs file 0 (end_of said)))
        go (refused n q) g =
            let h : ◌≡◌ {A = Reply ℕ} (refused number place) (refused n q) = g in
            let a : number ≡ n = cc in
            let b : place ≡ q = cc in
            rw (a, b)
        go (answer found) g = absurd (answer_not (sym g))

    module _ {begin : ℕ} (f : answer begin ≡ ended 4 times) where
      pub file_begin : begin ≡ rules_begin file
      file_begin = let p = passes_head e in rw p.1 (times_ended times f).1

      pub file_rest : counted jobs (rules_from form (most_rules + 1) jobs file 0 begin) ≡ file_reply form file
      unfolding file_reply book_reply reading after
      file_rest = let p = passes_head e in let t = times_ended times f in rw (p.0, p.1, t.1) (rw t.0)

-- a file that is not refused, from its reply
module _ (form : Form) (file : List ℕ) {counts : Counts} (e : file_reply form file ≡ answer counts) where
  listed_all : (head : Reply (Unit {0})) (times : Reply (List LatestTime)) (rules : Reply (List Placed)) →
      counted (word file 2) (after head (after times rules)) ≡ answer counts →
      (head ≡ answer tt) × (times ≡ answer (read times)) × (rules ≡ answer (read (after head (after times rules))))
      × (counts ≡ record { jobs = word file 2; rules = length (read (after head (after times rules))) })
  unfolding counted after read
  listed_all (refused number place) times rules q = absurd (answer_not (sym q))
  listed_all (answer tt) (refused number place) rules q = absurd (answer_not (sym q))
  listed_all (answer tt) (answer found) (refused number place) q = absurd (answer_not (sym q))
  listed_all (answer tt) (answer found) (answer es) q = (refl, refl, refl, cc)

  pub listed : Listed form file
  unfolding file_reply book_reply reading
  listed =
      let p = listed_all (verdict (head_checks form file)) (latest_records file) (rules_of form file) e in record { head = p.0; times = p.1; all = p.2 }

  pub listed_counts : counts ≡ record { jobs = word file 2; rules = length (entries form file) }
  unfolding file_reply book_reply reading
  listed_counts = (listed_all (verdict (head_checks form file)) (latest_records file) (rules_of form file) e).3

pub listed_long : (form : Form) (file : List ℕ) → Listed form file → 4 ≤ length file
unfolding head_checks accepts
listed_long form file l = ltb-false _ _ (passed (head_checks form file) (tt {0}) (ap accepts l.head)).1.1.1.0

-- its jobs and its rules are as many as it says
pub listed_jobs : (form : Form) (file : List ℕ) {counts : Counts} → file_reply form file ≡ answer counts → counts.jobs ≡ word file 2
listed_jobs form file e = ap (λ (q : Counts). q.jobs) (listed_counts form file e)

pub listed_rules : (form : Form) (file : List ℕ) {counts : Counts} → file_reply form file ≡ answer counts → counts.rules ≡ length (entries form file)
listed_rules form file e = ap (λ (q : Counts). q.rules) (listed_counts form file e)

-- a file that is refused has no rules
no_rules : (jobs : ℕ) (said : Reply (List Placed)) {number place : ℕ} → counted jobs said ≡ refused number place → read said ≡ []
unfolding counted read
no_rules jobs (refused n p) e = refl
no_rules jobs (answer es) e = absurd (answer_not e)

pub refused_none : (form : Form) (file : List ℕ) {number place : ℕ} → file_reply form file ≡ refused number place → entries form file ≡ []
unfolding file_reply
refused_none form file e = no_rules (word file 2) (book_reply form file) e

-- the first i rules are walked, and the next record begins at byte `at`
pub record Walked (form : Form) (file : List ℕ) (at i : ℕ) : Type 0 where
  pub low : i ≤ length (entries form file)
  pub few : i ≤ most_rules
  pub rest : rules_from form (looks - i) (word file 2) file i at ≡ answer (drop i (entries form file))

pub walked_none : (form : Form) (file : List ℕ) → Listed form file → Walked form file (rules_begin file) 0
walked_none form file l = record { low = omega arith; few = omega arith; rest = l.all }

-- a rule before others
pub record Split (at : ℕ) (said : Reply Rule) (more : Reply (List Placed)) (es : List Placed) : Type 0 where
  pub first : Rule
  pub others : List Placed
  pub says_first : said ≡ answer first
  pub says_more : more ≡ answer others
  pub is : es ≡ record { at = at; rule = first } ∷ others

pub split : (at : ℕ) (said : Reply Rule) (more : Reply (List Placed)) (es : List Placed) → before (entry at) said more ≡ answer es →
    Split at said more es
unfolding before
split at (refused number place) more es e = absurd (answer_not (sym e))
split at (answer r) (refused number place) es e = absurd (answer_not (sym e))
split at (answer r) (answer others) es e = record { first = r; others = others; says_first = refl; says_more = refl; is = cc }

module _ {form : Form} {file : List ℕ} {at i : ℕ} (w : Walked form file at i) (h : i < length (entries form file)) where
  here : at < length file
  here = go (dec_lt at (length file))
    where
      go : Dec (at < length file) → at < length file
      go (yes l) = l
      go (no l) =
          let e : answer [] ≡ answer (drop i (entries form file)) = sym (from_end form (word file 2) file i at w.few (omega arith)) ∙ w.rest in
          let d : drop i (entries form file) ≡ [] = cc in
          absurd (omega (arith, ap length d, length-drop i (entries form file)))

  parts : Split at (rule_reply form (word file 2) file i at) (next form (word file 2) file i at) (drop i (entries form file))
  parts = split at _ _ _ (sym (from_record form (word file 2) file i at w.few here) ∙ w.rest)

  others_are : parts.others ≡ drop (i + 1) (entries form file)
  others_are = sym (sym (drop-drop 1 i (entries form file)) ∙ ap (drop 1) parts.is)

  pub walked_begins : Begins form file i at
  walked_begins =
      record {
        here =
            parts.is ∙ ap (λ (r : Rule). record { at = at; rule = r } ∷ parts.others) (rule_is form (word file 2) file i at parts.says_first)
            ∙ ap (λ (es : List Placed). record { at = at; rule = decoded_rule file at } ∷ es) others_are;
        inside = in_file form (word file 2) file i at parts.says_first;
      }

  pub walked_next : Walked form file (at + size_at file at) (i + 1)
  walked_next =
      record {
        low = omega arith;
        few = omega (arith, not_full form (word file 2) file i at parts.says_first);
        rest = parts.says_more ∙ ap answer others_are;
      }

-- a rule's record, by what was read
module _ (file : List ℕ) (number : ℕ) where
  pub record_none : length (entries Sent file) ≤ number → [] ≡ record_of file number
  unfolding record_of stretch
  record_none h = sym (ap (stretch file) (drop_of_length-le (entries Sent file) {i = number} h))

  pub record_here : {at : ℕ} → Begins Sent file number at → take (size_at file at) (drop at file) ≡ record_of file number
  unfolding record_of stretch
  record_here b = sym (ap (stretch file) b.here)

  pub place_none : length (entries Sent file) ≤ number → record { at = 0; size = 0 } ≡ place_of file number
  unfolding place_of place_at
  place_none h = sym (ap (place_at file) (drop_of_length-le (entries Sent file) {i = number} h))

  pub place_refused : {n place : ℕ} → file_reply Sent file ≡ refused n place → record { at = 0; size = 0 } ≡ place_of file number
  place_refused e = place_none (omega (arith, ap length (refused_none Sent file e)))

  pub place_here : {at : ℕ} → Begins Sent file number at → record { at = at; size = size_at file at } ≡ place_of file number
  unfolding place_of place_at
  place_here b = sym (ap (place_at file) b.here)

  -- the record is that stretch of the file
  pub record_place : take (place_of file number).size (drop (place_of file number).at file) ≡ record_of file number
  unfolding record_of stretch place_of place_at
  record_place = go (drop number (entries Sent file))
    where
      go : (es : List Placed) → take (place_at file es).size (drop (place_at file es).at file) ≡ stretch file es
      go [] = refl
      go (e ∷ es) = refl

-- the reader, by what examining the file said
module _ (file : List ℕ) (rules latest : ℕ) where
  pub read_refused : {number place : ℕ} → file_reply Sent file ≡ refused number place → refused number place ≡ read_reply file rules latest
  unfolding read_reply roomed
  read_refused e = rw e

  module _ {counts : Counts} (e : file_reply Sent file ≡ answer counts) where
    pub read_short : (rules < counts.rules) ⊎ ((counts.rules ≤ rules) × (latest < counts.jobs)) →
        refused 21 0 ≡ read_reply file rules latest
    unfolding read_reply roomed reply
    read_short h =
        rw e
        (sym (⊎_elim (λ l. cond_yes _ _ (lt-ltb rules counts.rules l))
        (λ m. cond_no _ _ (le-ltb rules counts.rules m.0) ∙ cond_yes _ _ (lt-ltb latest counts.jobs m.1)) h))

    pub read_room : counts.rules ≤ rules → counts.jobs ≤ latest → answer counts ≡ read_reply file rules latest
    unfolding read_reply roomed reply
    read_room h l = rw e (sym (cond_no _ _ (le-ltb rules counts.rules h) ∙ cond_no _ _ (le-ltb latest counts.jobs l)))

-- as many latest times as jobs
pub minutes_length : (job jobs : ℕ) (found : List LatestTime) → length (minutes_from job jobs found) ≡ jobs
unfolding minutes_from
minutes_length job zero found = refl
minutes_length job (suc jobs) found = ap suc (minutes_length (job + 1) jobs found)

pub latest_length : (file : List ℕ) → length (latest_of_file file) ≡ word file 2
unfolding latest_of_file
latest_length file = minutes_length 0 (word file 2) (read (latest_records file))

module _ (file : List ℕ) (rules : List Rule) (latest : List ℤ) where
  abbrev pub reply_here : Reply Counts
  reply_here = read_reply file (length rules) (length latest)

  -- nothing is written where it is refused, and the book where it is not
  pub rules_left : {number place : ℕ} → refused number place ≡ reply_here → rules ≡ read_rules file rules latest
  unfolding read_rules lent
  rules_left e = rw (← e)

  pub latest_left : {number place : ℕ} → refused number place ≡ reply_here → latest ≡ read_latest file rules latest
  unfolding read_latest lent
  latest_left e = rw (← e)

  module _ {counts : Counts} (e : file_reply Sent file ≡ answer counts) (f : answer counts ≡ reply_here) where
    pub rules_written : rules_of_file Sent file ++ drop counts.rules rules ≡ read_rules file rules latest
    unfolding read_rules over lent
    rules_written =
        rw (← f)
        (ap (λ (n : ℕ). rules_of_file Sent file ++ drop n rules) (listed_rules Sent file e ∙ sym (length-map (entries Sent file) (λ (q : Placed). q.rule))))

    pub latest_written : latest_of_file file ++ drop counts.jobs latest ≡ read_latest file rules latest
    unfolding read_latest over lent
    latest_written = rw (← f) (ap (λ (n : ℕ). latest_of_file file ++ drop n latest) (listed_jobs Sent file e ∙ sym (latest_length file)))

-- what the code says of a file, of the place of a rule's record, and of a file for a table and a list
pub ruleset files = (file_refused, file_times, file_begin, file_rest, head_long, head_few)

pub ruleset places = (listed, listed_rules, place_refused, place_none, place_here)

pub ruleset readings = (listed, listed_jobs, listed_rules, read_refused, read_short, read_room)

pub ruleset walks = (walked_begins, walked_next)
