use mathlib.Core.Path.{sym, ◌∙◌}
use native.Mathlib.Omega.{arith}
use Rattle.converter.proofs.Writing.{convert_refused, convert_short, convert_room, convert_left, convert_written}
use Rattle.converter.proofs.convert.Goals as goal

pub returns-in_err-checked-clause-left : goal.returns-in_err-checked-clause-left
returns-in_err-checked-clause-left c = convert_left _ _ (convert_refused _ _ (sym c.in_err-checked.ensures.said))

pub returns-then-out-len-clause-left : goal.returns-then-out-len-clause-left
returns-then-out-len-clause-left c =
    convert_left _ _ (convert_short _ _ (sym c.in_ok-checked.ensures.said) c.in_ok-checked.ensures.begin (omega arith))

pub returns-clause-left : goal.returns-clause-left
returns-clause-left c =
    c.write_converted.ensures
    ∙ convert_written _ _ (convert_room _ _ (sym c.in_ok-checked.ensures.said) c.in_ok-checked.ensures.begin (omega arith))
