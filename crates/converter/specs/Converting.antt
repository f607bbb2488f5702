-- A stored file converted: an offset in hours becomes one in minutes, and every other record stays as it is.
use Rattle.std.specs.Prelude.{cond, List, [], ◌∷◌, ◌++◌, ℕ, eqb, ltb, length, take}
use Rattle.derivation.specs.Refusals.{Reply, Check, check, reply, lent}
use Rattle.bookfile.specs.declared.mark.Form.TheVariants.{Stored}
use Rattle.bookfile.specs.Numbers.{word}
use Rattle.bookfile.specs.Kinds.{HR}
use Rattle.bookfile.specs.Reading.{Placed, after, rules_begin, entries, bytes_at}
use Rattle.bookfile.specs.Replies.{file_reply, over}
use Rattle.bookfile.specs.Writing.{rule_record}

-- a rule's record, converted: where its offset is in hours, `RU` with 60 times the hours, which is the rule's own offset
unfoldable pub converted_record : List ℕ → Placed → List ℕ
converted_record file e = cond (eqb (word file e.at) HR.mark) (rule_record e.rule) (bytes_at file e.at)

-- the records of rules, one behind another
unfoldable pub converted_records : List ℕ → List Placed → List ℕ
converted_records file [] = []
converted_records file (e ∷ more) = converted_record file e ++ converted_records file more

-- the converted file: the first record and the latest times as they are, then the rules
unfoldable pub converted : List ℕ → List ℕ
converted file = take (rules_begin file) file ++ converted_records file (entries Stored file)

-- 21: an output shorter than the converted file
abbrev pub output_checks : List ℕ → ℕ → List Check
output_checks file room = check (ltb room (length (converted file))) 21 0 ∷ []

-- the converter, lent an output of `room` bytes, answers the length written, or the first refusal: a stored file's, then 21
unfoldable pub convert_reply : List ℕ → ℕ → Reply ℕ
convert_reply file room = after (file_reply Stored file) (reply (output_checks file room) (length (converted file)))

-- the output after the converter: nothing lent changes where it is refused, and bytes past the length written are left alone
unfoldable pub convert_out : List ℕ → List ℕ → List ℕ
convert_out file out = lent (convert_reply file (length out)) out (over (converted file) out)
