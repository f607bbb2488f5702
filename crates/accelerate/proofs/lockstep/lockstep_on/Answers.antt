use Rattle.std.proofs.Common.{rules, ◌∙◌, w32, w64, SFits}
use mir.Facts.{to_z-of_z}
use Rattle.maxatom.specs.Rule.{time_at}
use Rattle.accelerate.proofs.Locking.{steppable_fits, read_between, read_reaches, lockstep_kept, lockstep_low}
use Rattle.accelerate.proofs.lockstep.lockstep_on.Goals as goal

pub overflow_cast-near : goal.overflow_cast-near
overflow_cast-near g c =
    let a : SFits w64 c.left_side-a.result = search rules in
    let n : SFits w32 (time_at c.args.near.now c.target-z.result) = search rules in
    rw (to_z-of_z a) (steppable_fits c.ranges.floor n (read_between c.ranges.floor a n (c.is_steppable.ensures c.if-is_steppable.true)))

pub overflow_cast-far : goal.overflow_cast-far
overflow_cast-far g c =
    let b : SFits w64 c.left_side-b.result = search rules in
    let f : SFits w32 (time_at c.args.far.now c.target-z.result) = search rules in
    rw (to_z-of_z b) (steppable_fits c.ranges.floor f (read_between c.ranges.floor b f (c.is_steppable-then-is_steppable.ensures c.if-is_steppable-2.true)))

pub returns-then-one_reaches : goal.returns-then-one_reaches
returns-then-one_reaches g c =
    let n : SFits w32 (time_at c.args.near.now c.target-z.result) = search rules in
    let f : SFits w32 (time_at c.args.far.now c.target-z.result) = search rules in
    lockstep_kept c.target-z.ensures (c.from.ensures ∙ to_z-of_z n) (c.from-2.ensures ∙ to_z-of_z f)
    (read_reaches (search rules) (search rules) (c.one_reaches.ensures c.if-one_reaches.true))

pub returns-then-one_reaches-2 : goal.returns-then-one_reaches-2
returns-then-one_reaches-2 g c =
    let a : SFits w64 c.left_side-a.result = search rules in
    let b : SFits w64 c.left_side-b.result = search rules in
    let n : SFits w32 (time_at c.args.near.now c.target-z.result) = search rules in
    let f : SFits w32 (time_at c.args.far.now c.target-z.result) = search rules in
    let p = read_between c.ranges.floor a n (c.is_steppable.ensures c.if-is_steppable.true) in
    let q = read_between c.ranges.floor b f (c.is_steppable-then-is_steppable.ensures c.if-is_steppable-2.true) in
    rw (to_z-of_z a, to_z-of_z b, to_z-of_z (steppable_fits c.ranges.floor n p), to_z-of_z (steppable_fits c.ranges.floor f q))
    (lockstep_low c.target-z.ensures c.left_side-a.ensures c.left_side-b.ensures p q
    (read_reaches a b (c.one_reaches-then-is_steppable-2.ensures c.if-one_reaches-2.true)))
