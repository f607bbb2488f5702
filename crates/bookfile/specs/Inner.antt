-- What the contracts of inner functions say.
use Rattle.std.specs.Prelude.{◌≡◌, List, ◌∷◌, ℕ, ◌+◌, ◌*◌, ◌≤◌, length, drop, Result, Ok, Err, ⊤}
use Rattle.maxatom.specs.declared.Rule.{Rule}
use Rattle.derivation.specs.Refusals.{Reply, refused, answer, reply, verdict}
use Rattle.derivation.specs.declared.Counts.{Counts}
use Rattle.derivation.specs.declared.Fault.{Fault}
use Rattle.derivation.specs.declared.Refusal.{Refusal}
use Rattle.derivation.specs.Faults.{number_of}
use Rattle.derivation.specs.Replies.{reply_of}
use Rattle.table.specs.Faults.{bounds_fault, rule_fault}
use Rattle.bookfile.specs.declared.mark.Form.{Form}
use Rattle.bookfile.specs.declared.mark.Form.TheVariants.{Sent, Stored}
use Rattle.bookfile.specs.declared.reading.Checked.{Checked}
use Rattle.bookfile.specs.declared.reading.LatestTime.{LatestTime}
use Rattle.bookfile.specs.Numbers.{word}
use Rattle.bookfile.specs.Kinds.{CE, size_at, decoded_rule}
use Rattle.bookfile.specs.Reading.{head_checks, entry, read, latest_records, rules_of, entries}

-- what is found at a byte: a value, or a fault whose place the byte is
abbrev pub said_at : {A : Type 0} → ℕ → Result A Fault → Reply A
said_at place (Ok a) = answer a
said_at place (Err fault) = refused (number_of fault) place

-- the byte where something ends, or a refusal
abbrev pub byte_of : Result ℕ Refusal → Reply ℕ
byte_of r = reply_of (λ at. at) r

-- what is said of a rule in a file of a form
abbrev pub fields_fault : Form → ℕ → Rule → Result ⊤ Fault
fields_fault Sent jobs r = rule_fault jobs r
fields_fault Stored jobs r = bounds_fault jobs r

-- the first record says the job count
unfoldable pub head_reply : Form → List ℕ → Reply ℕ
head_reply form file = reply (head_checks form file) (word file 2)

-- the byte behind the latest times that were read from a byte on
unfoldable pub ended : ℕ → Reply (List LatestTime) → Reply ℕ
ended at (refused number place) = refused number place
ended at (answer times) = answer (at + length times * CE.size)

-- a whole file, checked, as the reply on it
abbrev pub checked_reply : Result Checked Refusal → Reply Counts
checked_reply r = reply_of (λ checked. checked.counts) r

-- a file that is not refused
pub record Listed (form : Form) (file : List ℕ) : Type 0 where
  pub head : verdict (head_checks form file) ≡ answer tt
  pub times : latest_records file ≡ answer (read (latest_records file))
  pub all : rules_of form file ≡ answer (entries form file)

-- the record of a rule begins at a byte, and is in the file
pub record Begins (form : Form) (file : List ℕ) (number at : ℕ) : Type 0 where
  pub here : drop number (entries form file) ≡ entry at (decoded_rule file at) ∷ drop (number + 1) (entries form file)
  pub inside : at + size_at file at ≤ length file
