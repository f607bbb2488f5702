use Rattle.std.proofs.Common.{arith}
use Rattle.commands.proofs.Numbers.{number_small}
use Rattle.commands.proofs.reading.slip.Goals as goal

pub overflow_cast-result : goal.overflow_cast-result
overflow_cast-result c = let small = number_small 65535 c.in_ok-job.job _ c.in_ok-job.ensures in omega (arith, small)
