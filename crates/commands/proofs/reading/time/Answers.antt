use Rattle.std.proofs.Common.{arith, ◌∙◌, Some, None, length}
use borrow.Author.Tests.{true-eqb, false-eqb}
use Rattle.std.proofs.lemmas.Int.{to_z_pos}
use mir.Syntax.{w32}
use Rattle.commands.specs.Reading.{below_zero}
use Rattle.commands.proofs.Numbers.{time_empty, time_below_of, time_above_of, number_small}
use Rattle.commands.proofs.reading.time.Goals as goal

pub returns-then-is_empty : goal.returns-then-is_empty
returns-then-is_empty c = time_empty c.args.text.now (true-eqb (length c.args.text.now) 0 c.if-is_empty.ensures)

pub returns-in_err-number : goal.returns-in_err-number
unfolding below_zero
returns-in_err-number c =
    c.from_residual.ensures
    ∙ time_below_of c.args.text.now None (false-eqb (length c.args.text.now) 0 c.if-is_empty.ensures) c.if-text-eq45.true c.in_err-number.ensures

pub below_zero-requires : goal.below_zero-requires
below_zero-requires c = number_small 2147483648 c.in_ok-number.field-0 _ c.in_ok-number.ensures

pub returns-then-text-eq45 : goal.returns-then-text-eq45
returns-then-text-eq45 c =
    c.below_zero.ensures
    ∙ time_below_of c.args.text.now (Some c.in_ok-number.field-0) (false-eqb (length c.args.text.now) 0 c.if-is_empty.ensures)
    c.if-text-eq45.true c.in_ok-number.ensures

pub returns-in_err-number-2 : goal.returns-in_err-number-2
returns-in_err-number-2 c =
    c.from_residual-in_err-number-2.ensures
    ∙ time_above_of c.args.text.now None (false-eqb (length c.args.text.now) 0 c.if-is_empty.ensures) c.if-text-eq45.false c.in_err-number-2.ensures

pub overflow_cast-result : goal.overflow_cast-result
overflow_cast-result c =
    let small = number_small 2147483647 c.in_ok-number-2.field-0 c.args.text.now c.in_ok-number-2.ensures in
    record { sfits = omega (arith, small) }

pub returns : goal.returns
returns c =
    let small = number_small 2147483647 c.in_ok-number-2.field-0 c.args.text.now c.in_ok-number-2.ensures in
    rw (to_z_pos w32 c.in_ok-number-2.field-0 (omega (arith, small)))
    (time_above_of c.args.text.now (Some c.in_ok-number-2.field-0) (false-eqb (length c.args.text.now) 0 c.if-is_empty.ensures)
    c.if-text-eq45.false c.in_ok-number-2.ensures)
