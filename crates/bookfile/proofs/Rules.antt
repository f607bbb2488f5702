-- The rules of a book's file, record by record. Assumes nothing.
use mathlib.Core.Path.{◌≡◌, refl, sym, ap, subst, ◌∙◌}
use mathlib.Core.List.{List, [], ◌++◌}
use Prim.Native.Nat.{ℕ, suc, ◌+◌, ◌-◌, ◌<◌, ◌≤◌}
use native.Mathlib.Omega.{arith}
use borrow.Author.Tests.{le-leb, lt-leb, ltb-false, leb-false}
use lib.ListN.{length}
use Rattle.maxatom.specs.Book.{most_rules, Each}
use Rattle.maxatom.specs.declared.Rule.{Rule}
use Rattle.maxatom.proofs.Choose.{cond_yes, cond_no}
use Rattle.derivation.specs.Refusals.{Reply, refused, answer, accepts}
use Rattle.derivation.proofs.Checks.{Passes, passed, accepting}
use Rattle.bookfile.specs.declared.mark.Form.{Form}
use Rattle.bookfile.specs.Kinds.{kind_checks, class_checks, kind_at, size_at, decoded_rule}
use Rattle.bookfile.specs.Reading.{record_checks, rule_reply, entry, Placed, before, rules_from}
use Rattle.bookfile.specs.Replies.{counted}
use Rattle.derivation.specs.declared.Counts.{Counts}
use Rattle.bookfile.proofs.Records.{own_checks}

-- how often the end of the file or a record is looked for
abbrev pub looks : ℕ
looks = most_rules + 1

-- a record that is taken is in the file, and not past the 1,024th
module _ (form : Form) (jobs : ℕ) (file : List ℕ) (count at : ℕ) {r : Rule} (e : rule_reply form jobs file count at ≡ answer r) where
  pub passes : Each Passes (record_checks form jobs file count at)
  unfolding accepts rule_reply
  passes = passed (record_checks form jobs file count at) (decoded_rule file at) (ap accepts e)

  pub in_file : at + size_at file at ≤ length file
  unfolding record_checks
  in_file =
      let more = class_checks form (decoded_rule file at) at in
      let own : Each Passes (kind_checks (kind_at file at) jobs file at ++ more) = passes.1.1.1.1 in
      ltb-false _ _ (subst (Each Passes) (own_checks file at jobs more) own).0

  pub not_full : count < most_rules
  unfolding record_checks
  not_full = leb-false _ _ passes.1.1.1.0

  pub rule_is : r ≡ decoded_rule file at
  unfolding rule_reply
  rule_is = let s = accepting (record_checks form jobs file count at) (decoded_rule file at) passes in cc

-- the records from a byte on
module _ (form : Form) (jobs : ℕ) (file : List ℕ) (count at : ℕ) where
  abbrev pub from : Reply (List Placed)
  from = rules_from form (looks - count) jobs file count at

  abbrev pub next : Reply (List Placed)
  next = rules_from form (looks - (count + 1)) jobs file (count + 1) (at + size_at file at)

  pub from_record : count ≤ most_rules → at < length file → from ≡ before (entry at) (rule_reply form jobs file count at) next
  unfolding rules_from
  from_record h l =
      let e : looks - count ≡ suc (looks - (count + 1)) = omega arith in
      ap (λ (n : ℕ). rules_from form n jobs file count at) e ∙ cond_no _ _ (lt-leb (length file) at l)

  pub from_end : count ≤ most_rules → length file ≤ at → from ≡ answer []
  unfolding rules_from
  from_end h l =
      let e : looks - count ≡ suc (looks - (count + 1)) = omega arith in
      ap (λ (n : ℕ). rules_from form n jobs file count at) e ∙ cond_yes _ _ (le-leb (length file) at l)

-- rules already counted
unfoldable pub added : ℕ → Reply Counts → Reply Counts
added count (refused number place) = refused number place
added count (answer counts) = answer (record { jobs = counts.jobs; rules = count + counts.rules })

-- the records before byte `at` are counted
pub record Scanned (form : Form) (jobs : ℕ) (file : List ℕ) (begin at count : ℕ) : Type 0 where
  pub low : at ≤ length file
  pub few : count ≤ most_rules
  pub rest : added count (counted jobs (rules_from form (looks - count) jobs file count at)) ≡ counted jobs (rules_from form looks jobs file 0 begin)

pub scanned_none : (form : Form) (jobs : ℕ) (file : List ℕ) (begin : ℕ) → begin ≤ length file → Scanned form jobs file begin begin 0
unfolding added counted
scanned_none form jobs file begin h = record { low = h; few = omega arith; rest = go (rules_from form looks jobs file 0 begin) }
  where
    go : (said : Reply (List Placed)) → added 0 (counted jobs said) ≡ counted jobs said
    go (refused number place) = refl
    go (answer entries) = let e : 0 + length entries ≡ length entries = omega arith in rw e

module _ {form : Form} {jobs : ℕ} {file : List ℕ} {begin at count : ℕ} (s : Scanned form jobs file begin at count) where
  pub scanned_next : {r : Rule} → at < length file → rule_reply form jobs file count at ≡ answer r →
      Scanned form jobs file begin (at + size_at file at) (count + 1)
  unfolding added counted before
  scanned_next {r} l e =
      record {
        low = in_file form jobs file count at e;
        few = omega (arith, not_full form jobs file count at e);
        rest =
            sym
            (ap (λ (x : Reply (List Placed)). added count (counted jobs x))
            (from_record form jobs file count at s.few l ∙ ap (λ (x : Reply Rule). before (entry at) x (next form jobs file count at)) e)
            ∙ go (next form jobs file count at))
            ∙ s.rest;
      }
    where
      go : (said : Reply (List Placed)) →
          added count (counted jobs (before (entry at) (answer r) said)) ≡ added (count + 1) (counted jobs said)
      go (refused number place) = refl
      go (answer entries) =
          let n : count + suc (length entries) ≡ count + 1 + length entries = omega arith in
          rw n

  pub scanned_not : {number place : ℕ} → at < length file → rule_reply form jobs file count at ≡ refused number place →
      refused number place ≡ counted jobs (rules_from form looks jobs file 0 begin)
  unfolding added counted before
  scanned_not {number} {place} l e =
      sym
      (ap (λ (x : Reply (List Placed)). added count (counted jobs x))
      (from_record form jobs file count at s.few l ∙ ap (λ (x : Reply Rule). before (entry at) x (next form jobs file count at)) e))
      ∙ s.rest

  pub scanned_all : length file ≤ at → answer (record { jobs = jobs; rules = count }) ≡ counted jobs (rules_from form looks jobs file 0 begin)
  unfolding added counted
  scanned_all l =
      let n : count + 0 ≡ count = omega arith in
      sym
      (ap (λ (x : Reply (List Placed)). added count (counted jobs x)) (from_end form jobs file count at s.few l)
      ∙ ap (λ (m : ℕ). answer (record { jobs = jobs; rules = m })) n)
      ∙ s.rest

-- what the code says of the records of rules
pub ruleset scans = (scanned_none, scanned_not, scanned_all)
