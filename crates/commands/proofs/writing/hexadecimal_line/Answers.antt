use Rattle.std.proofs.Common.{◌≡◌, ◌∙◌, ap, take, length, ℕ}
use native.Mathlib.Nat.{min_comm}
use Rattle.std.proofs.lemmas.List.{take_min}
use Rattle.report.proofs.Texts.{writes_then}
use Rattle.commands.specs.Answers.{hexadecimal_line}
use Rattle.commands.proofs.writing.hexadecimal_line.Goals as goal

pub returns-clause-written : goal.returns-clause-written
unfolding hexadecimal_line
returns-clause-written c =
    let bytes = c.args.bytes.now in
    let first : take c.min.result bytes ≡ take 2048 bytes = ap (λ (k : ℕ). take k bytes) (c.min.ensures ∙ min_comm (length bytes) 2048) ∙ take_min 2048 bytes in
    writes_then (rw first at c.hexadecimal.ensures.written) c.word.ensures.written
