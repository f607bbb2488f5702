-- Refusals: the documents' two lists, in their order, each with its number and place.
use Rattle.std.specs.Prelude.{◌≡◌, Bool, true, false, cond, not, ◌||◌, List, [], ◌∷◌, ◌++◌, ℕ, ◌+◌, eqb, leb, ltb, length, ℤ, pos}
use Rattle.std.specs.Int.Signed.{lt_z}
use Rattle.maxatom.specs.Class.{contradiction}
use Rattle.maxatom.specs.Book.{most_jobs, most_rules, most_minutes, Book, minus}
use Rattle.maxatom.specs.declared.Rule.{Rule}

-- what a call answers: turned down with a number and a place, or the answer
pub data Reply (A : Type 0) : Type 0 where
  refused : ℕ → ℕ → Reply A
  answer : A → Reply A

-- the call isn't refused
unfoldable pub accepts : {A : Type 0} → Reply A → Bool
accepts (refused number place) = false
accepts (answer a) = true

-- a condition of the lists
pub record Check : Type 0 where
  pub fails : Bool
  pub number : ℕ
  pub place : ℕ

abbrev pub check : Bool → ℕ → ℕ → Check
check fails number place = record { fails = fails; number = number; place = place }

-- a number is said when its condition is the first to hold
unfoldable pub reply : {A : Type 0} → List Check → A → Reply A
reply [] a = answer a
reply (c ∷ checks) a =
    let rest = reply checks a in
    cond c.fails (refused c.number c.place) rest

-- the reply of a call whose answer is that it was done
abbrev pub verdict : List Check → Reply (Unit {0})
verdict checks = reply checks tt

-- what is lent, after a call: nothing lent changes where it is refused
unfoldable pub lent : {A S : Type 0} → Reply A → S → S → S
lent (refused number place) before after = before
lent (answer a) before after = after

-- 4: job count outside 1 to 256
abbrev pub jobs_check : ℕ → Check
jobs_check jobs = check (ltb jobs 1 || ltb most_jobs jobs) 4 0

-- 5: a rule past the 1,024th
abbrev pub count_check : ℕ → Check
count_check count = check (ltb most_rules count) 5 0

-- 6: a job number of n or more
unfoldable pub job_outside : ℕ → Rule → Bool
job_outside jobs r = leb jobs r.x || (leb jobs r.y || leb jobs r.z)

-- a number is outside −limit to limit
unfoldable pub beyond : ℕ → ℤ → Bool
beyond limit n = lt_z n (minus limit) || lt_z (pos limit) n

-- 7: offset outside −20,160 to 20,160
abbrev pub offset_outside : Rule → Bool
offset_outside r = beyond most_minutes r.k

-- 10: a rule in the impossible class
abbrev pub impossible_check : Rule → ℕ → Check
impossible_check r place = check (contradiction r) 10 place

-- for each rule 6, then 7, then 10; `at` is the first rule's number
unfoldable pub rule_checks : ℕ → ℕ → List Rule → List Check
rule_checks jobs at [] = []
rule_checks jobs at (r ∷ rules) =
    check (job_outside jobs r) 6 at ∷ check (offset_outside r) 7 at ∷ impossible_check r at ∷ rule_checks jobs (at + 1) rules

-- a table
unfoldable pub table_checks : ℕ → List Rule → List Check
table_checks jobs rules = jobs_check jobs ∷ count_check (length rules) ∷ rule_checks jobs 0 rules

-- 8: a latest time outside −20,160 to 0
unfoldable pub latest_outside : ℤ → Bool
latest_outside t = lt_z t (minus most_minutes) || lt_z (pos 0) t

-- 8 for each time of a list; `at` is the first job's number
unfoldable pub time_checks : ℕ → List ℤ → List Check
time_checks at [] = []
time_checks at (t ∷ latest) = check (latest_outside t) 8 at ∷ time_checks (at + 1) latest

-- 21: a list, a board or a run buffer not n times long
abbrev pub size_check : ℕ → List ℤ → Check
size_check jobs times = check (not (eqb (length times) jobs)) 21 0

-- a list not n times long gets 21, its times unread; else a time out of bounds gets 8 with the first such job
unfoldable pub latest_checks : ℕ → List ℤ → List Check
latest_checks jobs latest = cond (eqb (length latest) jobs) (time_checks 0 latest) (size_check jobs latest ∷ [])

-- a book: its table, then its latest times
unfoldable pub book_checks : Book → List Check
book_checks b = table_checks b.jobs b.rules ++ latest_checks b.jobs b.latest

-- a book that isn't refused
abbrev pub NotRefused : Book → Type 0
NotRefused b = verdict (book_checks b) ≡ answer tt

-- a book with n times
unfoldable pub times_checks : Book → List ℤ → List Check
times_checks b times = book_checks b ++ (size_check b.jobs times ∷ [])

-- 24: no rule of that number
abbrev pub rule_check : ℕ → ℕ → Check
rule_check count number = check (leb count number) 24 0
