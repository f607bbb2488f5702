use Rattle.std.proofs.Common.{◌≡◌, ℕ, zero, suc, ◌<◌, ◌-◌, set, arith}
use Rattle.std.proofs.Math.Seq.{take-set-lt}
use Rattle.std.proofs.lemmas.List.{length-take-le}
use Rattle.maxatom.specs.declared.Arm.{Arm}
use Rattle.maxatom.specs.Clauses.{Clause}
use Rattle.clauses.specs.Passes.{put_arm}
use Rattle.clauses.specs.Several.{meaning}
use Rattle.clauses.proofs.several.ClauseAsClause.with_arm.Goals as goal

pub returns-then-i-eq0 : goal.returns-then-i-eq0
unfolding put_arm
returns-then-i-eq0 c = rw (c.if-i-eq0.true, c.arm-c.ensures)

put_other : (c : Clause) (i : ℕ) (a : Arm) → 0 < i → record { first = c.first; others = set c.others (i - 1) a; target = c.target } ≡ put_arm c i a
unfolding put_arm
put_other c zero a h = absurd (omega arith)
put_other c (suc i) a h = let e : suc i - 1 ≡ i = omega arith in rw e

pub returns : goal.returns
returns c =
    let s = c.args.self.now in
    let h : c.args.i - 1 < s.count = omega (arith, c.requires.0, length-take-le s.count s.others (omega arith)) in
    rw (take-set-lt s.count s.others (c.args.i - 1) c.arm.result h, c.arm.ensures) (put_other (meaning s) c.args.i _ (omega arith))
