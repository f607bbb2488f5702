-- What is true of reading and writing.
use Rattle.std.specs.Prelude.{◌≡◌, ◌↔◌, true, cond, List, [], ◌∷◌, ◌++◌, ℕ, zero, suc, ◌+◌, ◌<◌, ◌≤◌, leb, length, take, drop, ℤ, pos}
use Rattle.std.specs.Int.{w32}
use Rattle.std.proofs.Common.{SFits}
use Rattle.maxatom.specs.Book.{most_jobs, most_rules, book, zeros, Each, minus}
use Rattle.maxatom.specs.Class.{Possible}
use Rattle.maxatom.specs.declared.Rule.{Rule}
use Rattle.derivation.specs.Refusals.{refused, answer, Check, check, verdict, NotRefused}
use Rattle.derivation.specs.Demand1.{Refuses, Refusing}
use Rattle.derivation.specs.Examples.{example_b}
use Rattle.derivation.specs.declared.Counts.{Counts}
use Rattle.bookfile.specs.declared.mark.Form.{Form}
use Rattle.bookfile.specs.declared.mark.Form.TheVariants.{Sent, Stored}
use Rattle.bookfile.specs.declared.reading.LatestTime.{LatestTime}
use Rattle.bookfile.specs.Numbers.{word}
use Rattle.bookfile.specs.Kinds.{BK, CE, among, size_at, decoded_rule}
use Rattle.bookfile.specs.Reading.{head_checks, latest_here, latest_record_checks, record_checks, Placed, rules_from, latest_by, reading, rules_begin, book_reply, entries, rules_of_file, latest_of_file, book_of_file, bytes_at, stretch, record_of}
use Rattle.bookfile.specs.Replies.{room_checks, file_reply, read_reply, read_rules, read_latest}
use Rattle.bookfile.specs.Writing.{plan_bytes, plan_checks, plan_out}

-- The checks of the latest times from byte `at` on, one record's behind another's; the jobs of `given` have one already. A record of one, or
-- something else, is looked for at most `most` times. Where no end is found by then, one more check fails, with 9.
unfoldable pub latest_checks_from : ℕ → ℕ → List ℕ → List ℕ → ℕ → List Check
latest_checks_from zero jobs file given at = check true 9 at ∷ []
latest_checks_from (suc most) jobs file given at =
    let job = (CE.says file at).job in
    let rest = latest_checks_from most jobs file (job ∷ given) (at + CE.size) in
    cond (latest_here file at) (latest_record_checks jobs file (among job given) at ++ rest) []

-- The checks of the records from byte `at` to the end of the file, one record's behind another's, with `count` rules already read. The end
-- of the file or a record is looked for at most `most` times. Where no end is found by then, one more check fails, with 5.
unfoldable pub checks_from : Form → ℕ → ℕ → List ℕ → ℕ → ℕ → List Check
checks_from form zero jobs file count at = check true 5 at ∷ []
checks_from form (suc most) jobs file count at =
    let rest = checks_from form most jobs file (count + 1) (at + size_at file at) in
    cond (leb (length file) at) [] (record_checks form jobs file count at ++ rest)

-- All checks of a file, as one list: the first record's, those of the latest times, and those of the records behind them.
abbrev pub file_checks : Form → List ℕ → List Check
file_checks form file =
    head_checks form file
    ++ (latest_checks_from (most_jobs + 1) (word file 2) file [] BK.size
    ++ checks_from form (most_rules + 1) (word file 2) file 0 (rules_begin file))

-- and 21: reader's table shorter than the rules, or its list shorter than n
abbrev pub reader_checks : List ℕ → ℕ → ℕ → List Check
reader_checks file rules latest =
    file_checks Sent file ++ room_checks rules latest (record { jobs = word file 2; rules = length (entries Sent file) })

-- The latest times of records that stand one behind another from a byte on; the last number says how many they are.
unfoldable pub times_at : List ℕ → ℕ → ℕ → List LatestTime
times_at file at zero = []
times_at file at (suc more) = CE.says file at ∷ times_at file (at + CE.size) more

-- The bytes of these entries' records, one record's behind another's.
unfoldable pub stretches : List ℕ → List Placed → List ℕ
stretches file [] = []
stretches file (e ∷ more) = stretch file (e ∷ more) ++ stretches file more

-- Reading goes to the end of the file, or to its first refusal, whatever its form.
pub record ToTheEnd (form : Form) (file : List ℕ) : Type 0 where
  -- However many looks are allowed, the latest times of a reading that is not refused are those of the records behind the first one,
  pub times : (most : ℕ) (found : List LatestTime) → latest_by most file ≡ answer found → found ≡ times_at file BK.size (length found)
  -- and the records of its rules are all the bytes behind those.
  pub whole : (most at : ℕ) (found : List Placed) → rules_from form most (word file 2) file 0 at ≡ answer found →
      stretches file found ≡ drop at file
  -- No refusal comes of the bounds: were more than 257 and 1,025 looks allowed, the same would be said.
  pub same : (more others : ℕ) → reading form (most_jobs + 1 + more) (most_rules + 1 + others) file ≡ book_reply form file

-- 10, of a sent file alone
abbrev pub class_numbers : Form → List ℕ
class_numbers Sent = 10 ∷ []
class_numbers Stored = []

-- the numbers of a file's refusals
abbrev pub file_numbers : Form → List ℕ
file_numbers form = 1 ∷ 2 ∷ 3 ∷ 4 ∷ 5 ∷ 6 ∷ 7 ∷ 8 ∷ 9 ∷ class_numbers form

-- Demand 1 for the calls on files: reading and writing
pub record FileDemand1 : Type 0 where
  -- a file of a form alone: nothing is lent that could change
  pub file : (form : Form) (file : List ℕ) → Refuses (file_numbers form) (file_checks form file) (file_reply form file)
  -- reader: table and list
  pub read_book : (file : List ℕ) (rules : List Rule) (latest : List ℤ) →
      Refusing {S = List Rule × List ℤ} (file_numbers Sent ++ 21 ∷ [])
      (reader_checks file (length rules) (length latest)) (read_reply file (length rules) (length latest))
      (rules, latest) (read_rules file rules latest, read_latest file rules latest)
  -- plan writer
  pub write_plan : (times : List ℤ) (out : List ℕ) (at : ℕ) →
      Refusing (4 ∷ 21 ∷ []) (plan_checks times out at) (verdict (plan_checks times out at)) out (plan_out times out at)

-- one buffer of 16,384 bytes is enough to reach any verdict, and has all latest times and all rules
pub record FirstBytes (form : Form) (file : List ℕ) : Type 0 where
  pub verdict : file_reply form (take 16384 file) ≡ file_reply form file
  pub latest : latest_of_file (take 16384 file) ≡ latest_of_file file
  pub rules : book_reply form (take 16384 file) ≡ book_reply form file

-- the bytes of a plan determine its times, of 32 bits each
abbrev pub PlanDetermines : Type 0
PlanDetermines = (s t : List ℤ) → Each (SFits w32) s → Each (SFits w32) t → plan_bytes s ≡ plan_bytes t → s ≡ t

-- a rule's record has the bytes from which the reader took the rule, all of them
pub record TakenFrom (file : List ℕ) (number : ℕ) : Type 0 where
  pub entry : Placed
  pub here : drop number (entries Sent file) ≡ entry ∷ drop (number + 1) (entries Sent file)
  pub stretch : record_of file number ≡ bytes_at file entry.at
  pub whole : length (record_of file number) ≡ size_at (record_of file number) 0
  pub decodes : decoded_rule (record_of file number) 0 ≡ entry.rule

-- and is empty exactly if the file is refused or holds no such rule (`entries` has no rule of a refused file)
pub record RecordFacts (file : List ℕ) (number : ℕ) : Type 0 where
  pub empty : (record_of file number ≡ []) ↔ (length (entries Sent file) ≤ number)
  pub taken : number < length (entries Sent file) → TakenFrom file number

-- A file that the reader does not refuse holds a book that the calls on a table take, with as many jobs and rules as the reply says; and
-- none of its rules is a contradiction.
abbrev pub ReadAccepted : Type 0
ReadAccepted =
    (file : List ℕ) (counts : Counts) → file_reply Sent file ≡ answer counts →
    NotRefused (book_of_file Sent file)
    × (counts.jobs ≡ (book_of_file Sent file).jobs)
    × (counts.rules ≡ length (book_of_file Sent file).rules)
    × Each Possible (rules_of_file Sent file)

-- the file of example B, 52 bytes
abbrev pub file_b : List ℕ
file_b =
    66 ∷ 75 ∷ 4 ∷ 0
    ∷ 82 ∷ 85 ∷ 0 ∷ 0 ∷ 0 ∷ 0 ∷ 1 ∷ 0 ∷ 246 ∷ 255 ∷ 255 ∷ 255
    ∷ 82 ∷ 85 ∷ 3 ∷ 0 ∷ 3 ∷ 0 ∷ 2 ∷ 0 ∷ 0 ∷ 0 ∷ 0 ∷ 0
    ∷ 82 ∷ 85 ∷ 1 ∷ 0 ∷ 2 ∷ 0 ∷ 3 ∷ 0 ∷ 255 ∷ 255 ∷ 255 ∷ 255
    ∷ 82 ∷ 85 ∷ 1 ∷ 0 ∷ 0 ∷ 0 ∷ 3 ∷ 0 ∷ 25 ∷ 0 ∷ 0 ∷ 0
    ∷ []

-- two jobs, of which the second has a latest time, an hour before zero; and no rule
abbrev pub file_hour : List ℕ
file_hour = 66 ∷ 75 ∷ 2 ∷ 0 ∷ 67 ∷ 69 ∷ 1 ∷ 0 ∷ 196 ∷ 255 ∷ 255 ∷ 255 ∷ []

-- two jobs, and a rule in hours: `max(0, 0) − 1 hour ≥ 1`
abbrev pub file_hours : List ℕ
file_hours = 66 ∷ 75 ∷ 2 ∷ 0 ∷ 72 ∷ 82 ∷ 0 ∷ 0 ∷ 0 ∷ 0 ∷ 1 ∷ 0 ∷ 255 ∷ 255 ∷ []

-- example D: one job, and a rule that sets it before itself
abbrev pub file_d : List ℕ
file_d = 66 ∷ 75 ∷ 1 ∷ 0 ∷ 82 ∷ 85 ∷ 0 ∷ 0 ∷ 0 ∷ 0 ∷ 0 ∷ 0 ∷ 255 ∷ 255 ∷ 255 ∷ 255 ∷ []

-- what these files say
pub record FileExamples : Type 0 where
  pub counts_b : file_reply Sent file_b ≡ answer (record { jobs = 4; rules = 4 })
  pub book_b : book_of_file Sent file_b ≡ zeros 4 example_b
  pub first_b : record_of file_b 0 ≡ 82 ∷ 85 ∷ 0 ∷ 0 ∷ 0 ∷ 0 ∷ 1 ∷ 0 ∷ 246 ∷ 255 ∷ 255 ∷ 255 ∷ []
  pub counts_hour : file_reply Sent file_hour ≡ answer (record { jobs = 2; rules = 0 })
  pub book_hour : book_of_file Sent file_hour ≡ book 2 (pos 0 ∷ minus 60 ∷ []) []
  pub second_latest : file_reply Sent (file_hour ++ drop 4 file_hour) ≡ refused 9 12
  pub latest_behind : file_reply Sent (file_b ++ drop 4 file_hour) ≡ refused 3 52
  pub cut_mark : file_reply Sent (66 ∷ 75 ∷ 1 ∷ 0 ∷ 82 ∷ []) ≡ refused 1 4
  pub no_byte : file_reply Sent [] ≡ refused 1 0
  pub hours : file_reply Sent file_hours ≡ refused 2 4
  pub hours_stored : file_reply Stored file_hours ≡ answer (record { jobs = 2; rules = 1 })
  pub book_hours : book_of_file Stored file_hours ≡ zeros 2 (record { x = 0; y = 0; z = 1; k = minus 60 } ∷ [])
  pub impossible : file_reply Sent file_d ≡ refused 10 4
  pub impossible_stored : file_reply Stored file_d ≡ answer (record { jobs = 1; rules = 1 })
