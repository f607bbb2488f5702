use Rattle.std.proofs.Common.{arith, ◌-◌, ◌*◌, length, map, drop, refl, sym}
use mathlib.Core.Bool.{true≢false}
use mir.Facts.{to_z-of_z}
use Rattle.std.proofs.lemmas.List.{length-take}
use Rattle.maxatom.specs.Inner.{InJobs}
use Rattle.clauses.proofs.Passes.{walked_none}
use Rattle.run.proofs.Stretches.{each_stretch, targets_in, few_over, all_over, block_over, block_settled, block_fell, block_kept}
use Rattle.run.proofs.passing.pass_dirty.Goals as goal
use Rattle.run.proofs.passing.pass_dirty.Goals.{then-is_dirty+in-Ok, else-is_dirty}

pub loop-block-init : goal.loop-block-init
loop-block-init g c = record { walked = walked_none _ c.args.times.now c.args.start.steps; settled = c.requires.settled }

pub pass_over-requires-clause-in_times : goal.pass_over-requires-clause-in_times
pass_over-requires-clause-in_times g c =
    let from = c.loop-block.block * 16 in
    rw c.loop-block.auto.times (each_stretch g.C.AsClause.clause c.args.clauses.now from (c.min-to.result - from) (InJobs (length c.args.times.now)) c.requires.in_times)

pub pass_over-requires-clause-steps : goal.pass_over-requires-clause-steps
pass_over-requires-clause-steps g c =
    let from = c.loop-block.block * 16 in
    let few = few_over g.C.AsClause.clause c.args.clauses.now c.loop-block.block c.loop-block.invariant.walked in
    omega (arith, few, length-take (c.min-to.result - from) (drop from c.args.clauses.now), c.min-to.ensures, c.requires.sizes)

pub returns-in-Err-clause-ends : goal.returns-in-Err-clause-ends
returns-in-Err-clause-ends g c =
    rw (to_z-of_z c.ranges.floor) at
    (block_fell g.C.AsClause.clause c.args.clauses.now c.loop-block.block c.loop-block.invariant.walked c.min-to.ensures c.in-Err.low c.in-Err.ensures.ends)

pub loop-block-preserved : goal.loop-block-preserved
loop-block-preserved g c =
    let v = c.loop-block.invariant in
    let clause = g.C.AsClause.clause in
    let l = c.args.clauses.now in
    let block = c.loop-block.block in
    elim c.if-is_dirty.branch [
      | then-is_dirty+in-Ok w ↦
          let targets = targets_in (map clause l) c.loop-block.times c.args.times.now c.loop-block.auto.times c.requires.in_times in
          let ends = w.in-Ok.ensures.ends in
          rw (w.times-is, w.pass-is)
          (record {
            walked = block_over clause l block v.walked w.min-to.ensures ends;
            settled = block_settled clause l block v.walked w.min-to.ensures v.settled w.cleaned.ensures c.requires.reads targets ends (w.in-Ok.ensures.noted c.args.readers refl);
          })
      | else-is_dirty w ↦
          rw (w.times-is, w.pass-is) (record { walked = block_kept clause l block v.walked v.settled (λ m. true≢false (sym (w.if-is_dirty.ensures m))); settled = v.settled })
    ]

pub returns-clause-ends : goal.returns-clause-ends
returns-clause-ends g c =
    rw (to_z-of_z c.ranges.floor) at
    (all_over g.C.AsClause.clause c.args.clauses.now c.loop-block.block c.loop-block.invariant.walked (omega (arith, c.div_ceil-block-end.ensures)))
