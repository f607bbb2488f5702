use Rattle.std.proofs.Common.{rules}
use mir.Facts.{to_z-of_z}
use mir.Syntax.{w32, w64}
use mir.Val.{SFits}
use Rattle.maxatom.specs.Rule.{time_at}
use Rattle.maxatom.specs.Clauses.{kept}
use Rattle.clauses.proofs.reading.is_satisfied.Goals as goal

pub returns : goal.returns
unfolding kept
returns g c =
    let ft : SFits w32 (time_at c.args.times.now c.target.result) = search rules in
    let fz : SFits w64 c.from.result = search rules in
    let fl : SFits w64 c.left_side.result = search rules in
    rw (to_z-of_z fz, to_z-of_z fl, c.left_side.ensures, rw (to_z-of_z ft, c.target.ensures) at c.from.ensures)
