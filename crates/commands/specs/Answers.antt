-- The text of each answer: a word and its numbers, each behind one blank, and a line feed.
use Rattle.std.specs.Prelude.{cond, List, [], ◌∷◌, ◌++◌, ℕ, ◌+◌, ◌/◌, ◌%◌, ltb, take, ℤ}
use lib.Chars.{codes}
use Rattle.maxatom.specs.Book.{most_jobs}
use Rattle.maxatom.specs.declared.Rule.{Rule}
use Rattle.derivation.specs.Faults.{number_of}
use Rattle.derivation.specs.declared.Tally.{Tally}
use Rattle.derivation.specs.declared.Solved.TheVariants as Solve
use Rattle.report.specs.Text.{field, signed_field}
use Rattle.report.specs.Report.{job_lines, refused_line}
use Rattle.commands.specs.Commands.{slip_fields}
use Rattle.commands.specs.declared.writing.Answer.{Answer}
use Rattle.commands.specs.declared.writing.Answer.TheVariants.{Stepped, Back, Refused, Kept, Broken, Yes, No, Rule as RuleIs, Run, Fresh, What}

abbrev pub line_feed : List ℕ
line_feed = 10 ∷ []

-- a rule as it is written: x, y, k, z
unfoldable pub rule_fields : Rule → List ℕ
rule_fields r = field r.x ++ (field r.y ++ (signed_field r.k ++ field r.z))

unfoldable pub answer_text : Answer → List ℕ
answer_text (Stepped slip) = codes "STEPPED" ++ (slip_fields slip ++ line_feed)
answer_text Back = codes "BACK" ++ line_feed
answer_text (Refused refusal) = refused_line (number_of refusal.fault) refusal.place
answer_text Kept = codes "KEPT" ++ line_feed
answer_text (Broken r) = codes "BROKEN" ++ (field r ++ line_feed)
answer_text Yes = codes "YES" ++ line_feed
answer_text No = codes "NO" ++ line_feed
answer_text (RuleIs number r) = codes "RULE" ++ (field number ++ (rule_fields r ++ line_feed))
answer_text (Run (Solve.Plan steps)) = codes "PLAN" ++ (field steps ++ line_feed)
answer_text (Run (Solve.None steps slip)) = codes "NONE" ++ (slip_fields slip ++ (field steps ++ line_feed))
answer_text Fresh = codes "FRESH" ++ line_feed
answer_text What = codes "WHAT" ++ line_feed

-- a line for each job, and one for the tally
unfoldable pub board_text : List ℤ → Tally → List ℕ
board_text times tally =
    job_lines 0 (take most_jobs times) ++ (codes "TALLY" ++ (field tally.steps ++ (field tally.minutes ++ line_feed)))

-- two digits for each byte, in capitals
unfoldable pub hex_digit : ℕ → ℕ
hex_digit n = cond (ltb n 10) (48 + n) (55 + n)

unfoldable pub hexadecimal : List ℕ → List ℕ
hexadecimal [] = []
hexadecimal (b ∷ bytes) = hex_digit (b / 16) ∷ hex_digit (b % 16) ∷ hexadecimal bytes

-- no plan has more bytes
abbrev pub most_bytes : ℕ
most_bytes = 2048

unfoldable pub hexadecimal_line : List ℕ → List ℕ
hexadecimal_line bytes = hexadecimal (take most_bytes bytes) ++ line_feed
