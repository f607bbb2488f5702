use Rattle.std.proofs.Common.{◌≡◌, ◌∙◌, ap, take, length, ℕ}
use native.Mathlib.Nat.{min_comm}
use Rattle.std.proofs.lemmas.List.{take_min}
use Rattle.report.proofs.Texts.{writes_then}
use Rattle.commands.specs.Answers.{board_text}
use Rattle.commands.proofs.writing.board_lines.Goals as goal

pub returns-clause-written : goal.returns-clause-written
unfolding board_text
returns-clause-written c =
    let times = c.args.times.now in
    let first : take c.min.result times ≡ take 256 times = ap (λ (k : ℕ). take k times) (c.min.ensures ∙ min_comm (length times) 256) ∙ take_min 256 times in
    writes_then (rw first at c.job_lines.ensures.written)
    (writes_then c.word.ensures.written (writes_then c.field.ensures.written (writes_then c.field-2.ensures.written c.word-2.ensures.written)))
