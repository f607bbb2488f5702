use Rattle.std.proofs.Common.{rules, ◌∙◌}
use mir.Facts.{to_z-of_z}
use mir.Syntax.{w32, w64}
use mir.Val.{SFits}
use Rattle.maxatom.specs.Rule.{time_at, tight}
use Rattle.solver.proofs.Laws.{same_bits}
use Rattle.solver.proofs.rule.is_equality.Goals as goal

pub returns : goal.returns
unfolding tight
returns c =
    let ft : SFits w32 (time_at c.args.times.now c.args.r.z) = search rules in
    let fz : SFits w64 c.from.result = search rules in
    let fl : SFits w64 c.left_side.result = search rules in
    same_bits c.from.result c.left_side.result fz fl ∙ rw (c.left_side.ensures, rw (to_z-of_z ft) at c.from.ensures)
