use Rattle.std.proofs.Common.{rules, ◌≡◌, arith}
use mir.Facts.{to_z-of_z}
use mir.Syntax.{w32}
use mir.Val.{SFits}
use Rattle.clauses.specs.Passes.{put_arm}
use Rattle.clauses.proofs.clause.RuleAsClause.with_arm.Goals.{then-j-eq0, else-j-eq0}
use Rattle.clauses.proofs.clause.RuleAsClause.with_arm.Goals as goal

pub returns-then-i-eq0 : goal.returns-then-i-eq0
unfolding put_arm
returns-then-i-eq0 c =
    let f : SFits w32 c.args.self.now.k = search rules in
    elim c.if-j-eq0.branch [
      | then-j-eq0 w ↦ rw (to_z-of_z f, w.job-is, w.if-j-eq0.true, c.if-i-eq0.true)
      | else-j-eq0 w ↦ let j : c.args.j ≡ 1 = omega (arith, w.if-j-eq0.false, c.requires.1) in rw (to_z-of_z f, w.job-is, j, c.if-i-eq0.true)
    ]

pub returns-else-i-eq0 : goal.returns-else-i-eq0
unfolding put_arm
returns-else-i-eq0 c =
    let f : SFits w32 c.args.self.now.k = search rules in
    let i : c.args.i ≡ 1 = omega (arith, c.if-i-eq0.false, c.requires.0) in
    elim c.if-j-eq0.branch [
      | then-j-eq0 w ↦ rw (to_z-of_z f, w.job-is, w.if-j-eq0.true, i)
      | else-j-eq0 w ↦ let j : c.args.j ≡ 1 = omega (arith, w.if-j-eq0.false, c.requires.1) in rw (to_z-of_z f, w.job-is, j, i)
    ]
