use Rattle.std.proofs.Common.{◌∙◌}
use Rattle.accelerate.proofs.Repetitions.{made_then, made_try}
use Rattle.accelerate.proofs.accelerating.repeat.Goals as goal

pub loop-t-init : goal.loop-t-init
loop-t-init g c =
    record {
      made = rw c.unwrap_or-steps.ensures (made_try _ _ c.args.passes _ c.args.drops.now _ _ c.accelerate-made.result c.accelerate-made.ensures);
      size = c.accelerate-made.auto.times;
    }

pub loop-t-preserved : goal.loop-t-preserved
loop-t-preserved g c =
    let tried = made_try _ _ c.args.passes c.loop-t.t c.args.drops.now _ _ c.accelerate-made-in-loop-t.result c.accelerate-made-in-loop-t.ensures in
    record {
      made = rw c.unwrap_or-steps-in-loop-t.ensures (made_then c.loop-t.invariant.made tried);
      size = c.accelerate-made-in-loop-t.auto.times ∙ c.loop-t.invariant.size;
    }
