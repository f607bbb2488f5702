use Rattle.std.proofs.Common.{rules, arith}
use mir.Facts.{to_z-of_z}
use mir.Syntax.{w32}
use mir.Val.{SFits}
use Rattle.maxatom.specs.Rule.{time_at}
use Rattle.table.proofs.Latest.{compared, least_none, least_next, least_all}
use Rattle.table.proofs.smallest.Goals as goal

pub loop-t-init : goal.loop-t-init
loop-t-init c = least_none _

pub loop-t-preserved : goal.loop-t-preserved
loop-t-preserved c =
    let f : SFits w32 (time_at c.args.latest.now c.loop-t.t-index) = search rules in
    let g : SFits w32 c.min-least.result = search rules in
    rw (to_z-of_z g, c.min-least.ensures, to_z-of_z f, compared) (least_next c.loop-t.invariant (omega arith))

pub returns : goal.returns
returns c = search (rules, least_all c.loop-t.invariant)
