use Rattle.std.proofs.Common.{rules, ◌<◌, length, take, arith, ◌≡◌}
use Rattle.std.proofs.lemmas.List.{take_more, get_or-take, length-take-le}
use lib.IntN.{pos}
use mir.Facts.{to_z-of_z}
use mir.Syntax.{w64}
use mir.Val.{SFits}
use lib.ListN.{get_or}
use Rattle.maxatom.specs.Rule.{time_at}
use Rattle.maxatom.specs.declared.Arm.{Arm}
use Rattle.maxatom.specs.Clauses.{arm_time, greatest}
use Rattle.maxatom.proofs.Lists.{each_in}
use Rattle.maxatom.proofs.Lists.{at_in}
use Rattle.clauses.proofs.Arms.{max_is, sum_told, greatest_more}
use Rattle.clauses.proofs.several.ClauseAsClause.left_side.Goals as goal

abbrev no_arm : Arm
no_arm = record { job = 0; offset = pos 0 }

pub loop-i-init : goal.loop-i-init
unfolding greatest
loop-i-init c =
    let s = c.args.self.now in
    let sum : c.plus-left.result ≡ arm_time (time_at c.args.times.now) s.first = sum_told (time_at c.args.times.now s.first.job) s.first.offset c.plus-left.ensures (search rules) (search rules) in
    let fp : SFits w64 c.plus-left.result = search rules in
    rw (to_z-of_z fp, sum)

pub bounds-times-arm : goal.bounds-times-arm
bounds-times-arm c =
    let s = c.args.self.now in
    let i = c.loop-i.i in
    let h : i < length (take s.count s.others) = omega (arith, c.loop-i-test.true, length-take-le s.count s.others (omega arith)) in
    rw (get_or-take s.count s.others i no_arm (omega (arith, c.loop-i-test.true))) at (each_in (λ (a : Arm). a.job < length c.args.times.now) (take s.count s.others) c.requires.arms.1 (at_in (take s.count s.others) i no_arm h))

pub loop-i-preserved : goal.loop-i-preserved
loop-i-preserved c =
    let s = c.args.self.now in
    let times = c.args.times.now in
    let a = get_or s.others c.loop-i.i no_arm in
    let sum : c.plus.result ≡ arm_time (time_at times) a = sum_told (time_at times a.job) a.offset c.plus.ensures (search rules) (search rules) in
    let fm : SFits w64 c.max-left.result = search rules in
    let fp : SFits w64 c.plus.result = search rules in
    let h : c.loop-i.i < length s.others = omega arith in
    rw (to_z-of_z fm, c.max-left.ensures.value, to_z-of_z fp, sum, c.loop-i.invariant, max_is, take_more s.others c.loop-i.i no_arm h, greatest_more (time_at times) s.first (take c.loop-i.i s.others) a)
