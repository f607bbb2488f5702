-- Sent files and stored ones: what the reader says of a file that the converter takes, and the converter of one that the reader takes.
-- Assumes nothing.
use mathlib.Core.Path.{◌≡◌, refl, sym, ap, subst, ◌∙◌}
use mathlib.Core.Bool.{Bool, true, false, cond, not}
use mathlib.Core.List.{List, [], ◌∷◌, ◌++◌, append-nil}
use Prim.Native.Nat.{ℕ, zero, suc, ◌+◌}
use borrow.Author.Tests.{eqb-true, not-false}
use lib.Dec.{eqb, leb, ltb}
use lib.ListN.{length}
use Rattle.maxatom.specs.Book.{most_rules, Each}
use Rattle.maxatom.specs.declared.Rule.{Rule}
use Rattle.derivation.specs.declared.Counts.{Counts}
use Rattle.derivation.specs.Refusals.{Reply, answer, accepts, Check, check, reply, verdict, impossible_check}
use Rattle.derivation.proofs.Checks.{Passes, answer_not, passed, accepting, skips_all}
use Rattle.bookfile.specs.declared.mark.Form.{Form}
use Rattle.bookfile.specs.declared.mark.Form.TheVariants.{Sent, Stored}
use Rattle.bookfile.specs.Numbers.{word}
use Rattle.bookfile.specs.Kinds.{kind_checks, class_checks, BK, RU, HR, rule_marks, marks, among, kind_at, size_at, decoded_rule}
use Rattle.bookfile.specs.Reading.{head_checks, record_checks, rule_reply, entry, Placed, before, rules_from, after, read, reading, latest_records, rules_begin, rules_of, book_reply, entries}
use Rattle.bookfile.specs.Replies.{counted, file_reply}
use Rattle.bookfile.proofs.Records.{own_checks}
use Rattle.bookfile.proofs.Rules.{passes, rule_is}
use Rattle.bookfile.proofs.Walks.{split, listed, listed_counts}
use Rattle.bookfile.proofs.Refusing.{through, mapped, after_append}
use Rattle.converter.specs.Theorems.{Minutes, InMinutes, impossible_checks}
use Rattle.converter.proofs.Records.{sent_mark, minutes_mark}

-- `BK` is a mark in a file of any form, so a first record that passes in a file of one form passes in a file of any
book_known : (form : Form) → not (among BK.mark (marks form)) ≡ false
unfolding among
book_known Sent = refl
book_known Stored = refl

pub head_any : (one other : Form) (file : List ℕ) → verdict (head_checks one file) ≡ answer tt →
    verdict (head_checks other file) ≡ answer tt
unfolding head_checks accepts
head_any one other file e =
    let p = passed (head_checks one file) tt (ap accepts e) in
    let book : word file 0 ≡ BK.mark = eqb-true (word file 0) BK.mark (not-false _ p.1.1.0) in
    accepting (head_checks other file) (tt {0}) (p.0, (ap (λ (w : ℕ). not (among w (marks other))) book ∙ book_known other, p.1.1))

-- what comes after latest times that are read
after_read : {A B : Type 0} (said : Reply (List A)) (second : Reply B) → said ≡ answer (read said) → after said second ≡ second
unfolding after
after_read said second e = ap (λ s. after s second) e

-- what is said of the rules of a file whose first record passes, and whose latest times are read, is said of the file
pub read_whole : (form : Form) (file : List ℕ) {said : Reply (List Placed)} → verdict (head_checks form file) ≡ answer tt →
    latest_records file ≡ answer (read (latest_records file)) → rules_of form file ≡ said → book_reply form file ≡ said
unfolding book_reply reading after
read_whole form file h t r =
    ap (λ (s : Reply (Unit {0})). after s (after (latest_records file) (rules_of form file))) h
    ∙ after_read (latest_records file) (rules_of form file) t ∙ r

-- the marks of a record in minutes are known in a file of any form, and are a rule's
known_any : (form : Form) (w : ℕ) → w ≡ RU.mark → (not (among w (marks form)) ≡ false) × (not (among w (rule_marks form)) ≡ false)
unfolding among
known_any Sent w e = rw e (refl, refl)
known_any Stored w e = rw e (refl, refl)

-- one record, whose offset is in minutes
module _ (jobs : ℕ) (file : List ℕ) (count at : ℕ) {r : Rule} where
  -- that the converter takes: the reader takes it too, but for an impossible rule
  record_sent : rule_reply Stored jobs file count at ≡ answer r → eqb (word file at) HR.mark ≡ false →
      rule_reply Sent jobs file count at ≡ reply (impossible_check r at ∷ []) r
  unfolding rule_reply record_checks
  record_sent e h =
      let p = passes Stored jobs file count at e in
      let k = known_any Sent (word file at) (minutes_mark (word file at) (not-false _ p.1.1.0) h) in
      let own = kind_checks (kind_at file at) jobs file at in
      let q : Each Passes own = subst (Each Passes) (append-nil own) p.1.1.1.1 in
      let front =
      check (ltb (length file) (at + 2)) 1 at ∷ check (not (among (word file at) (marks Sent))) 2 at
      ∷ check (not (among (word file at) (rule_marks Sent))) 3 at ∷ check (leb most_rules count) 5 at ∷ own in
      skips_all (decoded_rule file at) front (class_checks Sent (decoded_rule file at) at) (p.0, (k.0, (k.1, (p.1.1.1.0, q))))
      ∙ ap (λ (d : Rule). reply (impossible_check d at ∷ []) d) (sym (rule_is Stored jobs file count at e))

  -- that the reader takes: its offset is in minutes, and the converter takes it too
  record_stored : rule_reply Sent jobs file count at ≡ answer r →
      (rule_reply Stored jobs file count at ≡ answer r) × (eqb (word file at) HR.mark ≡ false)
  unfolding rule_reply record_checks
  record_stored e =
      let p = passes Sent jobs file count at e in
      let mark : word file at ≡ RU.mark = sent_mark (word file at) (not-false _ p.1.1.0) in
      let k = known_any Stored (word file at) mark in
      let f = subst (Each Passes) (own_checks file at jobs (class_checks Sent (decoded_rule file at) at)) p.1.1.1.1 in
      let own : Each Passes (kind_checks (kind_at file at) jobs file at ++ []) =
      subst (Each Passes) (sym (own_checks file at jobs [])) (f.0, (f.1.0, (f.1.1.0, tt))) in (
        accepting (record_checks Stored jobs file count at) (decoded_rule file at) (p.0, (k.0, (k.1, (p.1.1.1.0, own))))
            ∙ ap answer (sym (rule_is Sent jobs file count at e)),
        ap (λ (w : ℕ). eqb w HR.mark) mark,
      )

-- what is read is kept before others that are checked
before_check : {A B : Type 0} (kept : A → B) (a : A) (c : Check) (checks : List Check) (more : List B) →
    before kept (reply (c ∷ []) a) (reply checks more) ≡ reply (c ∷ checks) (kept a ∷ more)
unfolding before
before_check kept a c checks more =
    through (λ s. before kept s (reply checks more)) (λ n p. refl) (c ∷ []) a
    ∙ ap (after (verdict (c ∷ []))) (mapped (before kept (answer a)) (λ n p. refl) checks more (kept a ∷ more) refl)
    ∙ sym (after_append (kept a ∷ more) (c ∷ []) checks)

-- rules in minutes that the converter takes: the reader takes them too, but for the first impossible one
stored_rules : (most jobs : ℕ) (file : List ℕ) (count at : ℕ) (es : List Placed) → rules_from Stored most jobs file count at ≡ answer es →
    Each (Minutes file) es → rules_from Sent most jobs file count at ≡ reply (impossible_checks es) es
unfolding rules_from before reply
stored_rules zero jobs file count at es e m = absurd (answer_not (sym e))
stored_rules (suc most) jobs file count at es e m =
    go (leb (length file) at) (stored_rules most jobs file (count + 1) (at + size_at file at)) e
  where
    next : Reply (List Placed)
    next = rules_from Stored most jobs file (count + 1) (at + size_at file at)

    sent : Reply (List Placed)
    sent = rules_from Sent most jobs file (count + 1) (at + size_at file at)

    go : (t : Bool) → ((others : List Placed) → next ≡ answer others → Each (Minutes file) others → sent ≡ reply (impossible_checks others) others) →
        cond t (answer []) (before (entry at) (rule_reply Stored jobs file count at) next) ≡ answer es →
        cond t (answer []) (before (entry at) (rule_reply Sent jobs file count at) sent) ≡ reply (impossible_checks es) es
    go true f q = let none : es ≡ [] = cc in rw none refl
    go false f q =
        let s = split at (rule_reply Stored jobs file count at) next es q in
        let n : Each (Minutes file) (entry at s.first ∷ s.others) = subst (Each (Minutes file)) s.is m in
        ap (λ (x : Reply Rule). before (entry at) x sent) (record_sent jobs file count at s.says_first n.0)
        ∙ ap (before (entry at) (reply (impossible_check s.first at ∷ []) s.first)) (f s.others s.says_more n.1)
        ∙ before_check (entry at) s.first (impossible_check s.first at) (impossible_checks s.others) s.others
        ∙ ap (λ (l : List Placed). reply (impossible_checks l) l) (sym s.is)

pub sent_rules : (most jobs : ℕ) (file : List ℕ) (count at : ℕ) (es : List Placed) → rules_from Sent most jobs file count at ≡ answer es →
    (rules_from Stored most jobs file count at ≡ answer es) × Each (Minutes file) es
unfolding rules_from before
sent_rules zero jobs file count at es e = absurd (answer_not (sym e))
sent_rules (suc most) jobs file count at es e = go (leb (length file) at) (sent_rules most jobs file (count + 1) (at + size_at file at)) e
  where
    next : Reply (List Placed)
    next = rules_from Sent most jobs file (count + 1) (at + size_at file at)

    stored : Reply (List Placed)
    stored = rules_from Stored most jobs file (count + 1) (at + size_at file at)

    go : (t : Bool) → ((others : List Placed) → next ≡ answer others → (stored ≡ answer others) × Each (Minutes file) others) →
        cond t (answer []) (before (entry at) (rule_reply Sent jobs file count at) next) ≡ answer es →
        (cond t (answer []) (before (entry at) (rule_reply Stored jobs file count at) stored) ≡ answer es) × Each (Minutes file) es
    go true f q = let none : es ≡ [] = cc in (q, rw none tt)
    go false f q =
        let s = split at (rule_reply Sent jobs file count at) next es q in
        let r = record_stored jobs file count at s.says_first in
        let more = f s.others s.says_more in
        (rw (r.0, more.0) (ap answer (sym s.is)), rw s.is (r.1, more.1))

-- a file in minutes that the converter takes, read by the reader: all but the first impossible rule
pub sent_reply : (file : List ℕ) {counts : Counts} → file_reply Stored file ≡ answer counts → InMinutes file →
    file_reply Sent file ≡ reply (impossible_checks (entries Stored file)) counts
unfolding file_reply counted
sent_reply file e m =
    let l = listed Stored file e in
    let es = entries Stored file in
    ap (counted (word file 2))
    (read_whole Sent file (head_any Stored Sent file l.head) l.times
    (stored_rules (most_rules + 1) (word file 2) file 0 (rules_begin file) es l.all m))
    ∙ mapped (counted (word file 2)) (λ n p. refl) (impossible_checks es) es _ refl
    ∙ ap (reply (impossible_checks es)) (sym (listed_counts Stored file e))

-- a file that the reader takes, read by the converter: it is in minutes, and has the same rules
pub record TakenToo (file : List ℕ) : Type 0 where
  pub entries_are : book_reply Stored file ≡ book_reply Sent file
  pub minutes : InMinutes file

pub taken_too : (file : List ℕ) {counts : Counts} → file_reply Sent file ≡ answer counts → TakenToo file
unfolding read
taken_too file e =
    let l = listed Sent file e in
    let r = sent_rules (most_rules + 1) (word file 2) file 0 (rules_begin file) (entries Sent file) l.all in
    let all = read_whole Stored file (head_any Sent Stored file l.head) l.times r.0 in
    record { entries_are = all ∙ sym (read_whole Sent file l.head l.times l.all); minutes = rw (ap read all) r.1 }
