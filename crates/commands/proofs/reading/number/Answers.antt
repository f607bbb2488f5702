use Rattle.std.proofs.Common.{arith, length}
use mathlib.Core.Logic.{inl, inr}
use borrow.Author.Tests.{true-eqb, false-eqb}
use Rattle.commands.proofs.Numbers.{number_none, number_zeros, number_begins, value_other, value_past, value_step, value_end}
use Rattle.commands.proofs.reading.number.Goals as goal
use Rattle.commands.proofs.reading.number.Goals.{then-b-lt48-via-then-b-lt48, then-b-lt48-via-else-b-lt48+then-b-gt57}

pub returns-then-is_empty : goal.returns-then-is_empty
returns-then-is_empty c = number_none c.args.most c.args.text.now (true-eqb (length c.args.text.now) 0 c.if-is_empty.ensures)

pub returns-then-text-gt1 : goal.returns-then-text-gt1
returns-then-text-gt1 c = number_zeros c.args.most c.args.text.now c.if-text-gt1.true c.if-text-eq48.true

pub loop-b-init : goal.loop-b-init
loop-b-init c =
    let full = false-eqb (length c.args.text.now) 0 c.if-is_empty.ensures in
    record { small = omega arith; same = number_begins c.args.most c.args.text.now full c.else-text-eq48.either }

pub returns-then-b-lt48 : goal.returns-then-b-lt48
returns-then-b-lt48 c =
    let v = c.loop-b.invariant in
    value_other c.args.most c.loop-b.value c.loop-b.b-index c.args.text.now c.loop-b-test.true v.same
    (elim c.then-b-lt48.branch [
      | then-b-lt48-via-then-b-lt48 w ↦ inl w.if-b-lt48.true
      | then-b-lt48-via-else-b-lt48+then-b-gt57 w ↦ inr w.if-b-gt57.true
    ])

pub returns-then-from-value : goal.returns-then-from-value
returns-then-from-value c =
    let past = rw (c.from.ensures, c.from-in-loop-b.ensures) at c.if-from-value.true in
    value_past c.args.most c.loop-b.value c.loop-b.b-index c.args.text.now c.loop-b-test.true c.loop-b.invariant.same
    c.if-b-lt48.false c.if-b-gt57.false past

pub loop-b-preserved : goal.loop-b-preserved
loop-b-preserved c =
    let small = rw (c.from.ensures, c.from-in-loop-b.ensures) at c.if-from-value.false in
    rw c.from.ensures
    (record {
      small = small;
      same = value_step c.args.most c.loop-b.value c.loop-b.b-index c.args.text.now c.loop-b-test.true c.loop-b.invariant.same
          c.if-b-lt48.false c.if-b-gt57.false small;
    })

pub returns : goal.returns
returns c = value_end c.args.most c.loop-b.value c.loop-b.b-index c.args.text.now c.loop-b-test.false c.loop-b.invariant.same
