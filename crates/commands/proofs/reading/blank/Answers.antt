use Rattle.std.proofs.Common.{arith}
use Rattle.commands.proofs.Words.{blank_step, blank_found, blank_end}
use Rattle.commands.proofs.reading.blank.Goals as goal

pub loop-i-init : goal.loop-i-init
loop-i-init c = omega arith

pub returns-then-b-eq32-clause-value : goal.returns-then-b-eq32-clause-value
returns-then-b-eq32-clause-value c = blank_found c.args.text.now c.loop-i.i c.loop-i-test.true c.if-b-eq32.true c.loop-i.invariant

pub loop-i-preserved : goal.loop-i-preserved
loop-i-preserved c = blank_step c.args.text.now c.loop-i.i c.loop-i-test.true c.if-b-eq32.false c.loop-i.invariant

pub returns-clause-value : goal.returns-clause-value
returns-clause-value c =
    blank_end c.args.text.now c.loop-i.i c.loop-i-test.false c.loop-i.auto.i-end c.loop-i.invariant
