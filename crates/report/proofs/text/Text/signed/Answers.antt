use Rattle.std.proofs.Common.{arith, ap}
use mir.Facts.{to_z-of_z}
use Rattle.report.proofs.Texts.{writes_then, below_text, above_text, decimal_length}
use Rattle.report.specs.declared.text.Text.{Text}
use Rattle.report.proofs.text.Text.signed.Goals as goal
use Rattle.report.proofs.text.Text.signed.Goals.{then-t-lt0, else-t-lt0}

pub returns-clause-written : goal.returns-clause-written
returns-clause-written c =
    let size = rw (to_z-of_z c.ranges.t) at c.unsigned_abs.ensures.value in
    let digits = rw (c.from.ensures, size) at c.number.ensures in
    elim c.if-t-lt0.branch [
      | then-t-lt0 w ↦
          rw (below_text c.args.t (rw (to_z-of_z c.ranges.t) at w.if-t-lt0.true)) (writes_then c.put.ensures (writes_then w.put-then-t-lt0.ensures (rw w.self-is at digits)))
      | else-t-lt0 w ↦ rw (above_text c.args.t (rw (to_z-of_z c.ranges.t) at w.if-t-lt0.false)) (writes_then c.put.ensures (rw w.self-is at digits))
    ]

pub returns-clause-upper_bound : goal.returns-clause-upper_bound
returns-clause-upper_bound c =
    let short = decimal_length c.from.result (omega arith) in
    elim c.if-t-lt0.branch [
      | then-t-lt0 w ↦ let e = ap (λ (t : Text). t.end) w.self-is in omega arith
      | else-t-lt0 w ↦ let e = ap (λ (t : Text). t.end) w.self-is in omega arith
    ]
