use mathlib.Core.Path.{◌∙◌}
use native.Mathlib.Omega.{arith}
use Rattle.converter.proofs.Writing.{converted_length, put_none, over_head, put_inside, put_next, put_all}
use Rattle.converter.proofs.write_converted.Goals as goal

pub loop-number-init : goal.loop-number-init
loop-number-init c = put_none _ _ c.requires.listed c.requires.begin_is c.copy.ensures

pub converted_record-requires : goal.converted_record-requires
converted_record-requires c = put_inside c.loop-number.invariant (omega arith)

pub next_record-at-requires : goal.next_record-at-requires
next_record-at-requires c = put_inside c.loop-number.invariant (omega arith)

pub loop-number-preserved : goal.loop-number-preserved
loop-number-preserved c =
    put_next c.loop-number.invariant (omega arith) (omega arith) (omega (arith, converted_length _ c.requires.listed))
    (c.copy_from_slice.ensures.after ∙ c.converted_record.ensures) c.next_record-at.ensures

pub returns : goal.returns
returns c =
    put_all c.loop-number.invariant c.requires.listed (omega arith)
    ∙ over_head _ _ c.requires.listed c.requires.begin_is c.copy.ensures
