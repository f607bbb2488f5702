use Rattle.std.proofs.Common.{rules, arith, refl, length}
use lib.ListN.{length-map}
use mir.Syntax.{w64}
use mir.Val.{SFits}
use mir.Facts.{to_z-of_z}
use Rattle.maxatom.specs.Inner.{InJobs}
use Rattle.clauses.proofs.Passes.{item_in_times, fall_item, Read, read_violated, read_kept, read_low, walked_none, walked_few, walked_keep, walked_lower, walked_all, walked_before, noted_none, noted_some, noted_lower}
use Rattle.clauses.proofs.passing.pass_over.Goals as goal
use Rattle.clauses.proofs.passing.pass_over.Goals.{After-target-z, After-from-time, then-left-time+else-left-from+in-Some, then-left-time+else-left-from+in_default, else-left-time}

-- the clause's jobs have times
inside : (g : _) (c : After-target-z g) → InJobs (length c.loop-i.times) (g.C.AsClause.clause c.index-clauses-i.result)
inside g c =
    item_in_times g.C.AsClause.clause c.args.clauses.now c.args.times.now c.loop-i.times c.requires.in_times c.loop-i-test.true c.index-clauses-i.is c.loop-i.auto.times

-- what the code reads of the clause
read : (g : _) (c : After-from-time g) → Read c.loop-i.times (g.C.AsClause.clause c.index-clauses-i.result) c.target-z.result c.left_side-left.result c.from-time.result
read g c =
    record {
      target_is = c.target-z.ensures;
      left_is = c.left_side-left.ensures;
      time_is = c.from-time.ensures;
      left_fits = search rules;
      time_fits = search rules;
      fits = search rules;
    }

pub loop-i-init : goal.loop-i-init
loop-i-init g c = record { walked = walked_none _ c.args.times.now c.args.start.steps; noted = λ r e. noted_none r.now c.args.times.now c.args.start.dirty }

pub left_side-left-requires : goal.left_side-left-requires
left_side-left-requires g c = inside g (goal.at.left_side-left-requires g c).After-target-z

pub slice_copy_out-from : goal.slice_copy_out-from
slice_copy_out-from g c = omega (arith, (inside g (goal.at.slice_copy_out-from g c).After-target-z).target, c.target-z.ensures)

pub bounds-times-z : goal.bounds-times-z
bounds-times-z g c = omega (arith, (inside g (goal.at.bounds-times-z g c).After-target-z).target, c.target-z.ensures)

pub bounds-blocks-z : goal.bounds-blocks-z
bounds-blocks-z g c =
    omega (arith, (inside g (goal.at.bounds-blocks-z g c).After-target-z).target, c.target-z.ensures, c.requires.readers _ c.in-Some.is, c.loop-i.auto.times)

pub overflow_add-pass : goal.overflow_add-pass
overflow_add-pass g c = record { fits = omega (arith, walked_few g.C.AsClause.clause c.args.clauses.now c.loop-i.i c.loop-i.invariant.walked (omega arith), c.requires.steps) }

pub returns-then-left-from-clause-ends : goal.returns-then-left-from-clause-ends
returns-then-left-from-clause-ends g c =
    let r = read g (goal.at.returns-then-left-from-clause-ends g c).After-from-time in
    let low_fits : SFits w64 c.from.result = search rules in (
      omega (arith, length-map c.args.clauses.now g.C.AsClause.clause),
      rw (to_z-of_z c.ranges.floor) at (walked_before g.C.AsClause.clause c.args.clauses.now c.loop-i.i c.loop-i.invariant.walked),
      λ d. fall_item g.C.AsClause.clause c.args.clauses.now c.index-clauses-i.result d {b = c.loop-i.times} c.loop-i-test.true c.index-clauses-i.is
          (record { violated = read_violated r c.if-left-time.true; low = read_low r c.ranges.floor low_fits c.from.ensures c.if-left-from.true }),
    )

pub loop-i-preserved : goal.loop-i-preserved
loop-i-preserved g c =
    let x = c.index-clauses-i.result in
    let h = c.loop-i-test.true in
    let is = c.index-clauses-i.is in
    let r = read g (goal.at.loop-i-preserved g c).After-from-time in
    let lower = walked_lower g.C.AsClause.clause c.args.clauses.now c.loop-i.i (rw (to_z-of_z c.ranges.floor) at c.loop-i.invariant.walked) x h is r in
    elim c.if-left-time.branch [
      | then-left-time+else-left-from+in-Some w ↦
          rw (w.times-is, w.pass-is, to_z-of_z c.ranges.floor)
          (record {
            walked = lower w.from.result w.if-left-time.true c.ranges.floor (search rules) w.from.ensures w.if-left-from.false;
            noted = λ r e. noted_some w.in-Some.is e (noted_lower (c.loop-i.invariant.noted _ w.in-Some.is) c.target-z.result _ refl);
          })
      | then-left-time+else-left-from+in_default w ↦
          rw (w.times-is, w.pass-is, to_z-of_z c.ranges.floor)
          (record {
            walked = lower w.from.result w.if-left-time.true c.ranges.floor (search rules) w.from.ensures w.if-left-from.false;
            noted = λ r e. absurd (w.in_default.not-Some r e);
          })
      | else-left-time w ↦
          rw (w.times-is, w.pass-is)
          (record {
            walked = walked_keep g.C.AsClause.clause c.args.clauses.now c.loop-i.i c.loop-i.invariant.walked x h is (read_kept r w.if-left-time.false);
            noted = c.loop-i.invariant.noted;
          })
    ]

pub returns : goal.returns
returns g c =
    record {
      ends = rw (to_z-of_z c.ranges.floor) at (walked_all g.C.AsClause.clause c.args.clauses.now c.loop-i.i c.loop-i.invariant.walked (omega arith) (omega arith));
      noted = c.loop-i.invariant.noted;
    }
