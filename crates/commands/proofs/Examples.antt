-- The examples, computed. Assumes nothing.
use mathlib.Core.Path.{refl}
use Rattle.report.specs.Text.{digits, decimal, signed_field}
use Rattle.report.specs.Report.{job_line, job_lines}
use Rattle.commands.specs.Commands.{slip_fields}
use Rattle.commands.specs.Reading.{blank, first_word, behind, value_of, begins, number, below_zero, time, slip_of, slip, numbered, command_of}
use Rattle.commands.specs.Answers.{rule_fields, answer_text, board_text, hex_digit, hexadecimal, hexadecimal_line}
use Rattle.commands.specs.Examples.{LineExamples, AnswerExamples}

pub line_examples : LineExamples
unfolding blank first_word behind value_of begins number below_zero time slip_of slip numbered command_of
line_examples =
    record {
      show = refl;
      step = refl;
      back = refl;
      greatest = refl;
      past = refl;
      far = refl;
      job_past = refl;
      before_past = refl;
      after_past = refl;
      leading_zero = refl;
      plus = refl;
      minus = refl;
      minus_zero = refl;
      missing = refl;
      extra = refl;
      blank_behind = refl;
      blank_before = refl;
      two_blanks = refl;
      small_letters = refl;
      carriage_return = refl;
      nothing = refl;
    }

pub answer_examples : AnswerExamples
unfolding digits decimal signed_field job_line job_lines slip_fields rule_fields answer_text board_text hex_digit hexadecimal hexadecimal_line
answer_examples = record { stepped = refl; rule = refl; board = refl; bytes = refl }
