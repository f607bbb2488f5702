-- What these lines ask for, and how these answers look.
use Rattle.std.specs.Prelude.{◌≡◌, [], ◌∷◌, ◌++◌, pos, negsuc, Some, None}
use lib.Chars.{codes}
use Rattle.commands.specs.declared.reading.Command.TheVariants.{Show, Step, Back}
use Rattle.commands.specs.declared.writing.Answer.TheVariants.{Stepped, Rule}
use Rattle.commands.specs.Reading.{command_of}
use Rattle.commands.specs.Answers.{line_feed, answer_text, board_text, hexadecimal_line}

pub record LineExamples : Type 0 where
  pub show : command_of (codes "SHOW") ≡ Some Show
  pub step : command_of (codes "STEP 30") ≡ Some (Step 30)
  pub back : command_of (codes "BACK 1 0 -10") ≡ Some (Back (record { job = 1; before = pos 0; after = negsuc 9 }))
  -- the greatest and the smallest numbers of each type, and one past them
  pub greatest : command_of (codes "STEP 4294967295") ≡ Some (Step 4294967295)
  pub past : command_of (codes "STEP 4294967296") ≡ None
  pub far : command_of (codes "BACK 65535 2147483647 -2147483648") ≡
      Some (Back (record { job = 65535; before = pos 2147483647; after = negsuc 2147483647 }))
  pub job_past : command_of (codes "BACK 65536 0 0") ≡ None
  pub before_past : command_of (codes "BACK 0 2147483648 0") ≡ None
  pub after_past : command_of (codes "BACK 0 0 -2147483649") ≡ None
  -- a number is as it is written, and no other way
  pub leading_zero : command_of (codes "STEP 03") ≡ None
  pub plus : command_of (codes "STEP +3") ≡ None
  pub minus : command_of (codes "STEP -3") ≡ None
  pub minus_zero : command_of (codes "BACK 0 -0 0") ≡ None
  -- as many numbers as there are, and blanks between alone
  pub missing : command_of (codes "STEP") ≡ None
  pub extra : command_of (codes "STEP 3 4") ≡ None
  pub blank_behind : command_of (codes "SHOW ") ≡ None
  pub blank_before : command_of (codes " SHOW") ≡ None
  pub two_blanks : command_of (codes "STEP  3") ≡ None
  pub small_letters : command_of (codes "show") ≡ None
  pub carriage_return : command_of (codes "SHOW" ++ (13 ∷ [])) ≡ None
  pub nothing : command_of [] ≡ None

pub record AnswerExamples : Type 0 where
  pub stepped : answer_text (Stepped (record { job = 1; before = pos 0; after = negsuc 9 })) ≡ codes "STEPPED 1 0 -10" ++ line_feed
  pub rule : answer_text (Rule 3 (record { x = 1; y = 0; z = 3; k = pos 25 })) ≡ codes "RULE 3 1 0 25 3" ++ line_feed
  pub board : board_text (pos 0 ∷ negsuc 9 ∷ []) (record { steps = 1; minutes = 10 }) ≡
      codes "JOB 0 0" ++ (line_feed ++ (codes "JOB 1 -10" ++ (line_feed ++ (codes "TALLY 1 10" ++ line_feed))))
  pub bytes : hexadecimal_line (80 ∷ 76 ∷ 0 ∷ 255 ∷ []) ≡ codes "504C00FF" ++ line_feed
