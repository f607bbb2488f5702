-- The replies of the calls that read.
use Rattle.std.specs.Prelude.{List, [], ◌∷◌, ◌++◌, ℕ, ltb, length, drop, ℤ}
use Rattle.maxatom.specs.declared.Rule.{Rule}
use Rattle.derivation.specs.Refusals.{Reply, refused, answer, Check, check, reply, lent}
use Rattle.derivation.specs.declared.Counts.{Counts}
use Rattle.bookfile.specs.declared.mark.Form.{Form}
use Rattle.bookfile.specs.declared.mark.Form.TheVariants.{Sent}
use Rattle.bookfile.specs.Numbers.{word}
use Rattle.bookfile.specs.Reading.{Placed, book_reply, rules_of_file, latest_of_file}

unfoldable pub counted : ℕ → Reply (List Placed) → Reply Counts
counted jobs (refused number place) = refused number place
counted jobs (answer entries) = answer (record { jobs = jobs; rules = length entries })

-- the verdict on a file of a form: the job count and the rule count, or the first list's refusal
unfoldable pub file_reply : Form → List ℕ → Reply Counts
file_reply form file = counted (word file 2) (book_reply form file)

-- 21: reader's table shorter than the rules, or its list shorter than n
abbrev pub room_checks : ℕ → ℕ → Counts → List Check
room_checks rules latest counts = check (ltb rules counts.rules) 21 0 ∷ check (ltb latest counts.jobs) 21 0 ∷ []

unfoldable pub roomed : ℕ → ℕ → Reply Counts → Reply Counts
roomed rules latest (refused number place) = refused number place
roomed rules latest (answer counts) = reply (room_checks rules latest counts) counts

-- the reader, lent a table with room for `rules` rules and a list with room for `latest` latest times
unfoldable pub read_reply : List ℕ → ℕ → ℕ → Reply Counts
read_reply file rules latest = roomed rules latest (file_reply Sent file)

-- new values over the first places of what was there
unfoldable pub over : {A : Type 0} → List A → List A → List A
over new places = new ++ drop (length new) places

-- The lent table and list after the reader: nothing lent changes where it is refused. Places past the last rule and the last job are left alone.
unfoldable pub read_rules : List ℕ → List Rule → List ℤ → List Rule
read_rules file rules latest = lent (read_reply file (length rules) (length latest)) rules (over (rules_of_file Sent file) rules)

unfoldable pub read_latest : List ℕ → List Rule → List ℤ → List ℤ
read_latest file rules latest = lent (read_reply file (length rules) (length latest)) latest (over (latest_of_file file) latest)
