-- The kinds of records in the file of a book. Each has its mark, its size, what it says and its checks.
use Rattle.std.specs.Prelude.{Bool, false, cond, ◌||◌, List, [], ◌∷◌, map, ℕ, ◌+◌, ◌*◌, eqb, leb, ltb, length, ℤ, pos, ◌*ℤ◌}
use Rattle.maxatom.specs.Book.{most_minutes}
use Rattle.maxatom.specs.declared.Rule.{Rule}
use Rattle.derivation.specs.Refusals.{Check, check, impossible_check, jobs_check, job_outside, beyond, latest_outside}
use Rattle.bookfile.specs.Numbers.{word, long, signed16, signed32}
use Rattle.bookfile.specs.declared.mark.Form.{Form}
use Rattle.bookfile.specs.declared.mark.Form.TheVariants.{Sent, Stored}
use Rattle.bookfile.specs.declared.reading.LatestTime.{LatestTime}

-- two weeks: the most hours of an offset without sign
abbrev pub most_hours : ℕ
most_hours = 336

-- 1: fewer than `size` bytes, from the one where a record begins, are in the file
abbrev pub cut : ℕ → List ℕ → ℕ → Check
cut size file at = check (ltb (length file) (at + size)) 1 at

-- a kind of record
pub record Kind (A : Type 0) : Type 0 where
  -- the two letters of its mark in ASCII, the first of which is the low byte
  pub mark : ℕ
  -- bytes in all, mark included
  pub size : ℕ
  -- what a record of the kind says that begins at a byte of a file
  pub says : List ℕ → ℕ → A
  -- the checks of the fields of a record, in order, of the job count, the file, and the byte where the record begins
  pub checks : ℕ → List ℕ → ℕ → List Check

-- the checks of a record whose mark and place are right: that it is whole, then those of its fields
abbrev pub kind_checks : {A : Type 0} → Kind A → ℕ → List ℕ → ℕ → List Check
kind_checks k jobs file at = cut k.size file at ∷ k.checks jobs file at

-- a book's first record: the job count
unfoldable pub jobs_at : List ℕ → ℕ → ℕ
jobs_at file at = word file (at + 2)

abbrev pub BK : Kind ℕ
BK = record {
  mark = 66 + 256 * 75;
  size = 4;
  says = jobs_at;
  checks = λ jobs file at. jobs_check jobs ∷ [];
}

-- a latest time: job, 16 bits unsigned, and minute, 32 bits signed
unfoldable pub decoded_latest : List ℕ → ℕ → LatestTime
decoded_latest file at = record { job = word file (at + 2); minute = signed32 (long file (at + 4)) }

abbrev pub CE : Kind LatestTime
CE = record {
  mark = 67 + 256 * 69;
  size = 8;
  says = decoded_latest;
  checks = λ jobs file at.
      check (leb jobs (decoded_latest file at).job) 6 at
      ∷ check (latest_outside (decoded_latest file at).minute) 8 at
      ∷ [];
}

-- a rule: x, y, z, 16 bits unsigned each, and its offset k
unfoldable pub rule_with : List ℕ → ℕ → ℤ → Rule
rule_with file at k = record { x = word file (at + 2); y = word file (at + 4); z = word file (at + 6); k = k }

-- Its offset in minutes: k, 32 bits signed.
unfoldable pub minutes_at : List ℕ → ℕ → ℤ
minutes_at file at = signed32 (long file (at + 8))

unfoldable pub minutes_rule : List ℕ → ℕ → Rule
minutes_rule file at = rule_with file at (minutes_at file at)

abbrev pub RU : Kind Rule
RU = record {
  mark = 82 + 256 * 85;
  size = 12;
  says = minutes_rule;
  checks = λ jobs file at.
      check (job_outside jobs (minutes_rule file at)) 6 at
      ∷ check (beyond most_minutes (minutes_at file at)) 7 at
      ∷ [];
}

-- Its offset in hours, 16 bits signed; k is 60 times the hours.
unfoldable pub hours_at : List ℕ → ℕ → ℤ
hours_at file at = signed16 (word file (at + 8))

unfoldable pub hours_rule : List ℕ → ℕ → Rule
hours_rule file at = rule_with file at (pos 60 *ℤ hours_at file at)

abbrev pub HR : Kind Rule
HR = record {
  mark = 72 + 256 * 82;
  size = 10;
  says = hours_rule;
  checks = λ jobs file at.
      check (job_outside jobs (hours_rule file at)) 6 at
      ∷ check (beyond most_hours (hours_at file at)) 7 at
      ∷ [];
}

-- the kinds of rules' records that a file of a form may have: a stored one may have its offsets in hours
abbrev pub rule_kinds : Form → List (Kind Rule)
rule_kinds Sent = RU ∷ []
rule_kinds Stored = HR ∷ RU ∷ []

-- their marks, and all marks
abbrev pub rule_marks : Form → List ℕ
rule_marks form = map (λ (k : Kind Rule). k.mark) (rule_kinds form)

abbrev pub marks : Form → List ℕ
marks form = BK.mark ∷ CE.mark ∷ rule_marks form

-- a number is one of a list
unfoldable pub among : ℕ → List ℕ → Bool
among n [] = false
among n (m ∷ more) = eqb n m || among n more

-- the first of these kinds with a mark, the last where none has it
unfoldable pub kind_among : ℕ → List (Kind Rule) → Kind Rule
kind_among word [] = RU
kind_among word (k ∷ []) = k
kind_among word (k ∷ l ∷ more) = cond (eqb word k.mark) k (kind_among word (l ∷ more))

-- the further checks of a rule whose fields pass: 10, an impossible rule, which a stored file may have
abbrev pub class_checks : Form → Rule → ℕ → List Check
class_checks Sent r at = impossible_check r at ∷ []
class_checks Stored r at = []

-- the kind of a rule's record, by the mark at a byte: a stored file may have every kind
unfoldable pub kind_at : List ℕ → ℕ → Kind Rule
kind_at file at = kind_among (word file at) (rule_kinds Stored)

-- bytes in all of a rule's record
unfoldable pub size_at : List ℕ → ℕ → ℕ
size_at file at = (kind_at file at).size

-- the rule of the record that begins at a byte
unfoldable pub decoded_rule : List ℕ → ℕ → Rule
decoded_rule file at = (kind_at file at).says file at
