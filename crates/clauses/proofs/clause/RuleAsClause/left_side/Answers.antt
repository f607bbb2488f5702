use Rattle.std.proofs.Common.{rules, ◌≡◌}
use mir.Facts.{to_z-of_z}
use mir.Syntax.{w32, w64}
use mir.Val.{SFits}
use Rattle.maxatom.specs.Rule.{time_at, max_z, left_side}
use Rattle.maxatom.proofs.Rules.{left_same}
use Rattle.clauses.proofs.Arms.{larger_told}
use Rattle.clauses.proofs.clause.RuleAsClause.left_side.Goals as goal

pub returns : goal.returns
unfolding left_side
returns c =
    let r = c.args.self.now in
    let times = c.args.times.now in
    let m : c.max.result ≡ max_z (time_at times r.x) (time_at times r.y) = larger_told (time_at times r.x) (time_at times r.y) c.max.ensures.value (search rules) (search rules) in
    let fp : SFits w64 c.plus.result = search rules in
    let fl : SFits w32 c.max.result = search rules in
    let fk : SFits w32 r.k = search rules in
    rw (to_z-of_z fp, c.plus.ensures, to_z-of_z fl, m, to_z-of_z fk, left_same r times)
