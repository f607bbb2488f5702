use Rattle.std.proofs.Common.{arith, ◌/◌}
use Rattle.report.proofs.Texts.{writes_then, decimal_last, decimal_more, decimal_length}
use Rattle.report.proofs.text.Text.+number.Goals as goal

pub put-requires-else-n-lt10 : goal.put-requires-else-n-lt10
put-requires-else-n-lt10 t c = omega (arith, c.number.ensures.written.to, decimal_length (c.args.n / 10) (omega arith))

pub returns-then-n-lt10 : goal.returns-then-n-lt10
returns-then-n-lt10 t c = rw (decimal_last c.args.n c.if-n-lt10.true) (rw c.digit.ensures at c.put.ensures)

pub returns-else-n-lt10 : goal.returns-else-n-lt10
returns-else-n-lt10 t c =
    rw (decimal_more c.args.n c.if-n-lt10.false) (writes_then c.number.ensures (rw c.digit-else-n-lt10.ensures at c.put-else-n-lt10.ensures))
