-- What a line does at the board of a book: the text that answers it, and the board and the tally that it leaves.
use Rattle.std.specs.Prelude.{Bool, true, false, List, [], ◌∷◌, ℕ, length, pos, replicate, Option, Some, None}
use Rattle.maxatom.specs.Book.{Book}
use Rattle.maxatom.specs.Runs.{End, planned, fell, unfinished}
use Rattle.derivation.specs.Refusals.{Reply, refused, answer, reply, verdict, lent, rule_check}
use Rattle.derivation.specs.Step.{State, initial, rule_at, step_call}
use Rattle.derivation.specs.Back.{back_call}
use Rattle.derivation.specs.Calls.{ModelCheck, satisfies, violates, model_check_call, tight_call, initial_reply, run_reply}
use Rattle.derivation.specs.declared.Tally.{Tally}
use Rattle.derivation.specs.declared.Solved.TheVariants as Solve
use Rattle.bookfile.specs.Writing.{plan_bytes, plan_checks}
use Rattle.report.specs.Report.{refused_line}
use Rattle.commands.specs.declared.reading.Command.{Command}
use Rattle.commands.specs.declared.reading.Command.TheVariants.{Show, Step, Back, Kept, Tight, Rule, Run, Fresh, Plan}
use Rattle.commands.specs.declared.writing.Answer.TheVariants as Say
use Rattle.commands.specs.Reading.{command_of}
use Rattle.commands.specs.Answers.{answer_text, board_text, most_bytes, hexadecimal_line}

-- the tally at the start
abbrev pub no_steps : Tally
no_steps = record { steps = 0; minutes = 0 }

pub record Turn : Type 0 where
  pub text : List ℕ
  pub after : State

-- a call's reply, as text
unfoldable pub reply_text : {A : Type 0} → (A → List ℕ) → Reply A → List ℕ
reply_text text (refused number place) = refused_line number place
reply_text text (answer a) = text a

unfoldable pub kept_text : ModelCheck → List ℕ
kept_text satisfies = answer_text Say.Kept
kept_text (violates number) = answer_text (Say.Broken number)

unfoldable pub tight_text : Bool → List ℕ
tight_text true = answer_text Say.Yes
tight_text false = answer_text Say.No

-- the bench run never ends unfinished
unfoldable pub run_text : ℕ → End → List ℕ
run_text steps planned = answer_text (Say.Run (Solve.Plan steps))
run_text steps (fell slip) = answer_text (Say.Run (Solve.None steps slip))
run_text steps unfinished = []

-- the command's call at the board as it stands, and its text; the bench run has a buffer of its own
unfoldable pub turn : Book → State → Command → Turn
turn b state Show = record { text = board_text state.times state.tally; after = state }
turn b state (Step number) =
    let call = step_call b state number in
    record { text = reply_text (λ slip. answer_text (Say.Stepped slip)) call.said; after = call.after }
turn b state (Back slip) =
    let call = back_call b state slip in
    record { text = reply_text (λ done. answer_text Say.Back) call.said; after = call.after }
turn b state Kept = record { text = reply_text kept_text (model_check_call b state.times); after = state }
turn b state (Tight number) = record { text = reply_text tight_text (tight_call b state.times number); after = state }
turn b state (Rule number) =
    let said = reply (rule_check (length b.rules) number ∷ []) (rule_at b.rules number) in
    record { text = reply_text (λ rule. answer_text (Say.Rule number rule)) said; after = state }
turn b state Run =
    let said = run_reply b (replicate b.jobs (pos 0)) in
    record { text = reply_text (λ a. run_text a.steps a.end) said; after = state }
turn b state Fresh =
    let said = initial_reply b.jobs b.latest state.times in
    record { text = reply_text (λ done. answer_text Say.Fresh) said; after = lent said state (initial b) }
turn b state Plan =
    let said = verdict (plan_checks state.times (replicate most_bytes 0) 0) in
    record { text = reply_text (λ done. hexadecimal_line (plan_bytes state.times)) said; after = state }

-- a line; one that is no command changes nothing
unfoldable pub turn_of : Book → State → Option Command → Turn
turn_of b state None = record { text = answer_text Say.What; after = state }
turn_of b state (Some command) = turn b state command

abbrev pub line_turn : Book → State → List ℕ → Turn
line_turn b state line = turn_of b state (command_of line)
