-- Records of a book's file. Assumes nothing.
use mathlib.Core.Path.{◌≡◌, refl, sym, ap, ◌∙◌}
use mathlib.Core.Logic.{◌⊎◌, ⊎_elim}
use mathlib.Core.Bool.{Bool, true, false, cond, not}
use mathlib.Core.List.{List, [], ◌∷◌, ◌++◌}
use Prim.Native.Nat.{ℕ, ◌+◌, ◌<◌, ◌≤◌}
use native.Mathlib.Omega.{arith}
use borrow.Author.Tests.{eq-eqb, ne_eqb, lt-ltb, le-ltb, le-leb, lt-leb}
use Rattle.std.specs.Prelude.{Result, Ok, Err, ⊤}
use lib.Dec.{eqb, leb, ltb}
use lib.ListN.{length}
use lib.IntN.{ℤ, pos, ◌*ℤ◌}
use Rattle.maxatom.specs.Book.{most_jobs, most_rules, most_minutes}
use Rattle.maxatom.specs.declared.Rule.{Rule}
use Rattle.maxatom.proofs.Choose.{cond_yes, cond_no, clash}
use Rattle.derivation.specs.Refusals.{Reply, refused, answer, Check, check, reply, jobs_check, job_outside, offset_outside}
use Rattle.derivation.proofs.Checks.{says, skips, accepting}
use Rattle.maxatom.specs.Class.{contradiction}
use Rattle.table.specs.Faults.{bounds_then}
use Rattle.derivation.specs.Faults.{number_of}
use Rattle.derivation.specs.declared.Fault.{Fault}
use Rattle.derivation.specs.declared.Fault.TheVariants.{JobNumber, Offset, ImpossibleRule}
use Rattle.bookfile.specs.declared.mark.Form.{Form}
use Rattle.bookfile.specs.declared.mark.Form.TheVariants.{Sent, Stored}
use Rattle.bookfile.specs.declared.mark.Mark.{Mark}
use Rattle.bookfile.specs.declared.mark.Mark.TheVariants.{Book}
use denote.Enum.Bare.{sameb}
use Rattle.bookfile.specs.contracts.mark.Mark.{the_type}
use Rattle.bookfile.specs.Marks.{mark_in, is_rule}
use Rattle.bookfile.proofs.Marks.{unknown, known, of_rule, of_book, said_of}
use Rattle.bookfile.specs.Numbers.{word, long, signed16, signed32}
use Rattle.bookfile.specs.Kinds.{kind_among, kind_checks, class_checks, cut, Kind, BK, jobs_at, rule_with, minutes_at, minutes_rule, RU, hours_at, hours_rule, HR, rule_marks, marks, among, kind_at, size_at, decoded_rule}
use Rattle.derivation.specs.Refusals.{beyond}
use Rattle.bookfile.specs.Reading.{record_checks, rule_reply, head_checks}
use Rattle.bookfile.specs.Inner.{fields_fault, said_at, head_reply}
use Rattle.bookfile.proofs.Words.{sixty_beyond}

-- the size of a rule's record, what it says, and the checks of that, by its mark
module _ (file : List ℕ) (at : ℕ) where
  kind_hours : word file at ≡ HR.mark → kind_at file at ≡ HR
  unfolding kind_at kind_among
  kind_hours h = cond_yes _ _ (eq-eqb _ _ h)

  kind_minutes : (word file at ≡ HR.mark → ⊥) → kind_at file at ≡ RU
  unfolding kind_at kind_among
  kind_minutes h = cond_no _ _ (ne_eqb _ _ h)

  -- the test of hours, as a fact
  pub in_minutes : eqb (word file at) HR.mark ≡ false → word file at ≡ HR.mark → ⊥
  in_minutes e h = clash (eq-eqb _ _ h) e

  pub size_hours : word file at ≡ HR.mark → size_at file at ≡ 10
  unfolding size_at
  size_hours h = ap (λ (k : Kind Rule). k.size) (kind_hours h)

  pub size_minutes : (word file at ≡ HR.mark → ⊥) → size_at file at ≡ 12
  unfolding size_at
  size_minutes h = ap (λ (k : Kind Rule). k.size) (kind_minutes h)

  pub size_bounds : (10 ≤ size_at file at) × (size_at file at ≤ 12)
  unfolding size_at kind_at kind_among
  size_bounds = go (eqb (word file at) HR.mark)
    where
      go : (t : Bool) → (10 ≤ (cond t HR RU).size) × ((cond t HR RU).size ≤ 12)
      go true = (omega arith, omega arith)
      go false = (omega arith, omega arith)

  pub rule_hours : word file at ≡ HR.mark → rule_with file at (pos 60 *ℤ signed16 (word file (at + 8))) ≡ decoded_rule file at
  unfolding decoded_rule hours_rule hours_at
  rule_hours h = sym (ap (λ (k : Kind Rule). k.says file at) (kind_hours h))

  pub rule_minutes : (word file at ≡ HR.mark → ⊥) → rule_with file at (signed32 (long file (at + 8))) ≡ decoded_rule file at
  unfolding decoded_rule minutes_rule minutes_at
  rule_minutes h = sym (ap (λ (k : Kind Rule). k.says file at) (kind_minutes h))

  -- a rule by its fields, as the code puts it together
  pub rule_fields : {x y z : ℕ} {k : ℤ} → x ≡ word file (at + 2) → y ≡ word file (at + 4) → z ≡ word file (at + 6) →
      rule_with file at k ≡ decoded_rule file at → record { x = x; y = y; z = z; k = k } ≡ decoded_rule file at
  unfolding rule_with
  rule_fields p q r e = rw (p, q, r) e

  -- the checks of the two kinds: hours are outside their bounds where the offset is
  pub own_checks : (jobs : ℕ) (more : List Check) →
      kind_checks (kind_at file at) jobs file at ++ more
      ≡ cut (size_at file at) file at ∷ check (job_outside jobs (decoded_rule file at)) 6 at ∷ check (offset_outside (decoded_rule file at)) 7 at ∷ more
  unfolding kind_at kind_among size_at decoded_rule hours_rule minutes_rule rule_with beyond
  own_checks jobs more = go (eqb (word file at) HR.mark)
    where
      go : (t : Bool) →
          kind_checks (cond t HR RU) jobs file at ++ more
          ≡ cut (cond t HR RU).size file at ∷ check (job_outside jobs ((cond t HR RU).says file at)) 6 at
          ∷ check (beyond most_minutes ((cond t HR RU).says file at).k) 7 at ∷ more
      go true =
          ap (λ (b : Bool). cut 10 file at ∷ check (job_outside jobs (hours_rule file at)) 6 at ∷ check b 7 at ∷ more)
          (sixty_beyond (hours_at file at))
      go false = refl

-- the rule, where the table's check of it passes
abbrev after_check : Result ⊤ Fault → Rule → Result Rule Fault
after_check (Ok done) r = Ok r
after_check (Err fault) r = Err fault

-- the reply on a record, check by check
module _ (form : Form) (jobs : ℕ) (file : List ℕ) (count at : ℕ) where
  abbrev said : Reply Rule
  said = rule_reply form jobs file count at

  abbrev rule : Rule
  rule = decoded_rule file at

  abbrev fields : List Check
  fields = check (job_outside jobs rule) 6 at ∷ check (offset_outside rule) 7 at ∷ class_checks form rule at

  abbrev whole : List Check
  whole = cut (size_at file at) file at ∷ fields

  abbrev own : List Check
  own = kind_checks (kind_at file at) jobs file at ++ class_checks form rule at

  abbrev full : List Check
  full = check (leb most_rules count) 5 at ∷ own

  abbrev counted : List Check
  counted = check (not (among (word file at) (rule_marks form))) 3 at ∷ full

  abbrev marked : List Check
  marked = check (not (among (word file at) (marks form))) 2 at ∷ counted

  pub no_mark : length file < at + 2 → said ≡ refused 1 at
  unfolding rule_reply record_checks
  no_mark h = says rule _ _ (lt-ltb _ _ h)

  module _ (h : at + 2 ≤ length file) where
    in_order : said ≡ reply marked rule
    unfolding rule_reply record_checks
    in_order = skips rule _ marked (le-ltb (length file) (at + 2) h)

    pub unknown_said : {fault : Fault} → mark_in form (word file at) ≡ Err fault → said ≡ refused (number_of fault) at
    unknown_said e =
        let u = unknown form (word file at) e in in_order ∙ says rule _ _ u.1 ∙ ap (λ (f : Fault). refused (number_of f) at) (sym u.0)

    module _ {mark : Mark} (e : mark_in form (word file at) ≡ Ok mark) where
      pub misplaced : is_rule mark ≡ false → said ≡ refused 3 at
      misplaced r =
          in_order ∙ skips rule (check (not (among (word file at) (marks form))) 2 at) counted (known form (word file at) e)
          ∙ says rule (check (not (among (word file at) (rule_marks form))) 3 at) full (rw (of_rule form (word file at) e, r))

    module _ {mark : Mark} (e : mark_in form (word file at) ≡ Ok mark) (r : is_rule mark ≡ true) where
      ruled : said ≡ reply full rule
      ruled =
          in_order ∙ skips rule (check (not (among (word file at) (marks form))) 2 at) counted (known form (word file at) e)
          ∙ skips rule (check (not (among (word file at) (rule_marks form))) 3 at) full (rw (of_rule form (word file at) e, r))

      pub full_said : 1024 ≤ count → said ≡ refused 5 at
      full_said l = ruled ∙ says rule (check (leb most_rules count) 5 at) own (le-leb most_rules count l)

      module _ (room : count < 1024) where
        counts : said ≡ reply whole rule
        counts =
            ruled ∙ skips rule (check (leb most_rules count) 5 at) own (lt-leb most_rules count room)
            ∙ ap (λ (l : List Check). reply l rule) (own_checks file at jobs (class_checks form rule at))

        pub cut_said : length file < at + size_at file at → said ≡ refused 1 at
        cut_said l = counts ∙ says rule _ _ (lt-ltb _ _ l)

        module _ (l : at + size_at file at ≤ length file) where
          fields_last : said ≡ reply fields rule
          fields_last = counts ∙ skips rule (check (ltb (length file) (at + size_at file at)) 1 at) fields (le-ltb _ _ l)

          by_fields : (r : Result ⊤ Fault) → fields_fault form jobs rule ≡ r → reply fields rule ≡ said_at at (after_check r rule)
          unfolding reply bounds_then
          by_fields r e = rw (← e) (go form)
            where
              six_seven : (p q : Bool) (more : Reply Rule) (fault : Result ⊤ Fault) → more ≡ said_at at (after_check fault rule) →
                  cond p (refused 6 at) (cond q (refused 7 at) more)
                  ≡ said_at at (after_check (cond p (Err JobNumber) (cond q (Err Offset) fault)) rule)
              six_seven true q more fault h = refl
              six_seven false true more fault h = refl
              six_seven false false more fault h = h

              ten : (t : Bool) → cond t (refused 10 at) (answer rule) ≡ said_at at (after_check (cond t (Err ImpossibleRule) (Ok tt)) rule)
              ten true = refl
              ten false = refl

              go : (f : Form) →
                  reply (check (job_outside jobs rule) 6 at ∷ check (offset_outside rule) 7 at ∷ class_checks f rule at) rule
                  ≡ said_at at (after_check (fields_fault f jobs rule) rule)
              go Stored = six_seven (job_outside jobs rule) (offset_outside rule) _ _ refl
              go Sent = six_seven (job_outside jobs rule) (offset_outside rule) _ _ (ten (contradiction rule))

          pub fault_said : {fault : Fault} → fields_fault form jobs rule ≡ Err fault → said ≡ refused (number_of fault) at
          fault_said {fault} e = fields_last ∙ by_fields (Err fault) e

          pub taken : fields_fault form jobs rule ≡ Ok tt → said ≡ answer rule
          taken e = fields_last ∙ by_fields (Ok tt) e

-- the reply on the first record, check by check
module _ (form : Form) (file : List ℕ) where
  abbrev head : Reply ℕ
  head = head_reply form file

  abbrev jobs : ℕ
  jobs = word file 2

  abbrev number : List Check
  number = jobs_check jobs ∷ []

  abbrev body : List Check
  body = check (ltb (length file) 4) 1 0 ∷ number

  abbrev opening : List Check
  opening = check (not (among (word file 0) (marks form))) 2 0 ∷ check (not (eqb (word file 0) BK.mark)) 3 0 ∷ body

  pub head_short : length file < 2 → head ≡ refused 1 0
  unfolding head_reply head_checks jobs_at
  head_short h = says jobs (check (ltb (length file) 2) 1 0) opening (lt-ltb _ _ h)

  module _ (h : 2 ≤ length file) where
    head_opens : head ≡ reply opening jobs
    unfolding head_reply head_checks jobs_at
    head_opens = skips jobs (check (ltb (length file) 2) 1 0) opening (le-ltb _ _ h)

    pub head_unknown : {fault : Fault} → mark_in form (word file 0) ≡ Err fault → head ≡ refused (number_of fault) 0
    head_unknown e =
        let u = unknown form (word file 0) e in head_opens ∙ says jobs _ _ u.1 ∙ ap (λ (f : Fault). refused (number_of f) 0) (sym u.0)

    module _ {mark : Mark} (e : mark_in form (word file 0) ≡ Ok mark) where
      pub head_other : sameb the_type mark Book ≡ false → head ≡ refused 3 0
      head_other b =
          head_opens
          ∙ skips jobs (check (not (among (word file 0) (marks form))) 2 0) (check (not (eqb (word file 0) BK.mark)) 3 0 ∷ body)
          (known form (word file 0) e)
          ∙ says jobs (check (not (eqb (word file 0) BK.mark)) 3 0) body (rw (of_book form (word file 0) e, b))

    module _ {mark : Mark} (e : mark_in form (word file 0) ≡ Ok mark) (b : sameb the_type mark Book ≡ true) where
      head_book : head ≡ reply body jobs
      head_book =
          head_opens
          ∙ skips jobs (check (not (among (word file 0) (marks form))) 2 0) (check (not (eqb (word file 0) BK.mark)) 3 0 ∷ body)
          (known form (word file 0) e)
          ∙ skips jobs (check (not (eqb (word file 0) BK.mark)) 3 0) body (rw (of_book form (word file 0) e, b))

      pub head_cut : length file < 4 → head ≡ refused 1 0
      head_cut l = head_book ∙ says jobs (check (ltb (length file) 4) 1 0) number (lt-ltb _ _ l)

      module _ (l : 4 ≤ length file) where
        head_jobs : head ≡ reply number jobs
        head_jobs = head_book ∙ skips jobs (check (ltb (length file) 4) 1 0) number (le-ltb _ _ l)

        pub head_count : (jobs < 1) ⊎ ((1 ≤ jobs) × (most_jobs < jobs)) → head ≡ refused 4 0
        head_count n =
            head_jobs
            ∙ says jobs (jobs_check jobs) [] (⊎_elim (λ p. rw (lt-ltb jobs 1 p)) (λ p. rw (le-ltb jobs 1 p.0, lt-ltb most_jobs jobs p.1)) n)

        pub head_passes : 1 ≤ jobs → jobs ≤ most_jobs → head ≡ answer jobs
        head_passes p q = head_jobs ∙ accepting number jobs (rw (le-ltb jobs 1 p, le-ltb most_jobs jobs q), tt)

-- what the code says of a record, and of the first one
pub ruleset records = (no_mark, unknown_said, misplaced, full_said, cut_said, fault_said, taken, said_of)

pub ruleset heads = (head_short, head_unknown, head_other, head_cut, head_count, head_passes, said_of)
