-- The file of a book, read record by record: the first record, then latest times, then rules to the end of the file.
use Rattle.std.specs.Prelude.{Bool, cond, not, ◌&&◌, List, [], ◌∷◌, ◌++◌, map, ℕ, zero, suc, ◌+◌, ◌*◌, eqb, leb, length, take, drop, ℤ, pos}
use Rattle.maxatom.specs.Book.{most_jobs, most_rules, Book, book}
use Rattle.maxatom.specs.declared.Rule.{Rule}
use Rattle.derivation.specs.Refusals.{Reply, refused, answer, Check, check, reply, verdict}
use Rattle.bookfile.specs.Numbers.{word}
use Rattle.bookfile.specs.Kinds.{kind_checks, class_checks, cut, BK, CE, rule_marks, marks, among, kind_at, size_at, decoded_rule}
use Rattle.bookfile.specs.declared.mark.Form.{Form}
use Rattle.bookfile.specs.declared.mark.Form.TheVariants.{Sent}
use Rattle.bookfile.specs.declared.reading.LatestTime.{LatestTime}
use Rattle.bookfile.specs.declared.reading.Stretch.{Stretch}

-- the checks of the first record
unfoldable pub head_checks : Form → List ℕ → List Check
head_checks form file =
    cut 2 file 0
    ∷ check (not (among (word file 0) (marks form))) 2 0
    ∷ check (not (eqb (word file 0) BK.mark)) 3 0
    ∷ kind_checks BK (BK.says file 0) file 0

-- the mark of a latest time stands at a byte
unfoldable pub latest_here : List ℕ → ℕ → Bool
latest_here file at = leb (at + 2) (length file) && eqb (word file at) CE.mark

-- The checks of a latest time's record, whose mark and place are right. `again`: its job has a latest time already.
unfoldable pub latest_record_checks : ℕ → List ℕ → Bool → ℕ → List Check
latest_record_checks jobs file again at = kind_checks CE jobs file at ++ check again 9 at ∷ []

unfoldable pub latest_record_reply : ℕ → List ℕ → Bool → ℕ → Reply LatestTime
latest_record_reply jobs file again at = reply (latest_record_checks jobs file again at) (CE.says file at)

-- the checks of a record behind the latest times, `count` rules already read
unfoldable pub record_checks : Form → ℕ → List ℕ → ℕ → ℕ → List Check
record_checks form jobs file count at =
    cut 2 file at
    ∷ check (not (among (word file at) (marks form))) 2 at
    ∷ check (not (among (word file at) (rule_marks form))) 3 at
    ∷ check (leb most_rules count) 5 at
    ∷ kind_checks (kind_at file at) jobs file at ++ class_checks form (decoded_rule file at) at

unfoldable pub rule_reply : Form → ℕ → List ℕ → ℕ → ℕ → Reply Rule
rule_reply form jobs file count at = reply (record_checks form jobs file count at) (decoded_rule file at)

-- a rule, with the byte where its record begins
pub record Placed : Type 0 where
  pub at : ℕ
  pub rule : Rule

abbrev pub entry : ℕ → Rule → Placed
entry at rule = record { at = at; rule = rule }

-- the first failure ends the reading; what is read is kept before the others
unfoldable pub before : {A B : Type 0} → (A → B) → Reply A → Reply (List B) → Reply (List B)
before kept (refused number place) rest = refused number place
before kept (answer a) (refused number place) = refused number place
before kept (answer a) (answer more) = answer (kept a ∷ more)

-- The latest times from byte `at` on; the jobs of `given` have one already. A record of one, or something else, is looked for at most `most`
-- times. A reading that comes to no end by then is refused with 9, at the byte where the next record would begin.
unfoldable pub latest_from : ℕ → ℕ → List ℕ → List ℕ → ℕ → Reply (List LatestTime)
latest_from zero jobs file given at = refused 9 at
latest_from (suc most) jobs file given at =
    let job = (CE.says file at).job in
    let rest = latest_from most jobs file (job ∷ given) (at + CE.size) in
    cond (latest_here file at) (before (λ t. t) (latest_record_reply jobs file (among job given) at) rest) (answer [])

-- The rules from byte `at` to the end of the file, with `count` rules already read. The end of the file or a record is looked for at most
-- `most` times. A reading that comes to no end by then is refused with 5, at the byte where the next record would begin.
unfoldable pub rules_from : Form → ℕ → ℕ → List ℕ → ℕ → ℕ → Reply (List Placed)
rules_from form zero jobs file count at = refused 5 at
rules_from form (suc most) jobs file count at =
    let rest = rules_from form most jobs file (count + 1) (at + size_at file at) in
    cond (leb (length file) at) (answer []) (before (entry at) (rule_reply form jobs file count at) rest)

-- the first reply's refusal, else the second reply
unfoldable pub after : {A B : Type 0} → Reply A → Reply B → Reply B
after (refused number place) second = refused number place
after (answer a) second = second

-- what was read, nothing where it is refused
unfoldable pub read : {A : Type 0} → Reply (List A) → List A
read (refused number place) = []
read (answer found) = found

-- the latest times behind the first record, with at most `most` looks; and the byte behind them
abbrev pub latest_by : ℕ → List ℕ → Reply (List LatestTime)
latest_by most file = latest_from most (word file 2) file [] BK.size

unfoldable pub end_of : Reply (List LatestTime) → ℕ
end_of latest = BK.size + length (read latest) * CE.size

-- reading a file of a form, with at most `times` looks for latest times and `rules` for rules
unfoldable pub reading : Form → ℕ → ℕ → List ℕ → Reply (List Placed)
reading form times rules file =
    let latest = latest_by times file in
    after (verdict (head_checks form file)) (after latest (rules_from form rules (word file 2) file 0 (end_of latest)))

-- A book has at most 256 latest times and 1,024 rules. One look more finds what is behind them.
abbrev pub latest_records : List ℕ → Reply (List LatestTime)
latest_records file = latest_by (most_jobs + 1) file

abbrev pub rules_begin : List ℕ → ℕ
rules_begin file = end_of (latest_records file)

abbrev pub rules_of : Form → List ℕ → Reply (List Placed)
rules_of form file = rules_from form (most_rules + 1) (word file 2) file 0 (rules_begin file)

unfoldable pub book_reply : Form → List ℕ → Reply (List Placed)
book_reply form file = reading form (most_jobs + 1) (most_rules + 1) file

-- the rules of a file, none where it is refused
abbrev pub entries : Form → List ℕ → List Placed
entries form file = read (book_reply form file)

abbrev pub rules_of_file : Form → List ℕ → List Rule
rules_of_file form file = map (λ (e : Placed). e.rule) (entries form file)

-- the minute of a job's record, zero where there is none
unfoldable pub minute_of : ℕ → List LatestTime → ℤ
minute_of job [] = pos 0
minute_of job (t ∷ more) = let rest = minute_of job more in cond (eqb t.job job) t.minute rest

-- the minutes of the jobs from a job on, in all as many jobs as the second number says
unfoldable pub minutes_from : ℕ → ℕ → List LatestTime → List ℤ
minutes_from job zero times = []
minutes_from job (suc more) times = minute_of job times ∷ minutes_from (job + 1) more times

-- the latest time of each job
unfoldable pub latest_of_file : List ℕ → List ℤ
latest_of_file file = minutes_from 0 (word file 2) (read (latest_records file))

-- the book of a file
abbrev pub book_of_file : Form → List ℕ → Book
book_of_file form file = book (word file 2) (latest_of_file file) (rules_of_file form file)

-- where the first entry's record stands in the file: its first byte and its length; nowhere, and 0 bytes, where there is none
unfoldable pub place_at : List ℕ → List Placed → Stretch
place_at file [] = record { at = 0; size = 0 }
place_at file (e ∷ more) = record { at = e.at; size = size_at file e.at }

unfoldable pub place_of : List ℕ → ℕ → Stretch
place_of file number = place_at file (drop number (entries Sent file))

-- the bytes of the rule's record that begins at a byte
abbrev pub bytes_at : List ℕ → ℕ → List ℕ
bytes_at file at = take (size_at file at) (drop at file)

-- the stretch of the first entry's record
unfoldable pub stretch : List ℕ → List Placed → List ℕ
stretch file [] = []
stretch file (e ∷ more) = bytes_at file e.at

-- a rule's record, asked for by rule number: empty if the reader refuses the file or it holds no such rule
unfoldable pub record_of : List ℕ → ℕ → List ℕ
record_of file number = stretch file (drop number (entries Sent file))
