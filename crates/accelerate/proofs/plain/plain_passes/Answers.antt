use Rattle.std.proofs.Common.{arith}
use Rattle.maxatom.specs.Passes.{start, round}
use Rattle.accelerate.proofs.plain.plain_passes.Goals as goal

pub loop-i-init : goal.loop-i-init
loop-i-init g c = record { few = omega arith; passing = start }

pub loop-i-preserved : goal.loop-i-preserved
loop-i-preserved g c = record { few = omega arith; passing = round c.loop-i.invariant.passing c.in_ok-pass.ensures.walked c.if-pass-lt1.false }
