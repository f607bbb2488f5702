use Rattle.std.proofs.Common.{arith}
use Rattle.report.proofs.Texts.{decimal_length}
use Rattle.report.proofs.text.Text.field.Goals as goal

pub returns-clause-upper_bound : goal.returns-clause-upper_bound
returns-clause-upper_bound c = omega (arith, decimal_length c.args.n (omega arith))
