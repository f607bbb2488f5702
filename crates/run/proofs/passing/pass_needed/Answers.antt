use Rattle.std.proofs.Common.{refl}
use Rattle.run.proofs.Settling.{pass_settled}
use Rattle.run.proofs.Stretches.{targets_in}
use Rattle.run.proofs.passing.pass_needed.Goals as goal

pub returns-clause-settled_after : goal.returns-clause-settled_after
returns-clause-settled_after g c r e =
    let times = c.args.times.now in
    let before = c.new_pass-2.result in
    pass_settled _ times c.pass_over.new.times before.dirty (c.requires.reads r e).1 (targets_in _ times times refl c.requires.in_times) before.steps c.pass_over.result c.pass_over.ensures.ends
    (c.pass_over.ensures.noted r e)
