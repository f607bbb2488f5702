use Rattle.std.proofs.Common.{arith, get_or, ap, sym, subst, ◌∙◌, ◌*◌, ◌<◌, ◌/◌, ◌%◌, ◌^◌}
use borrow.Author.Count.{below_more}
use lib.Bits.{bit_or}
use lib.ListN.{length-set}
use Rattle.std.proofs.lemmas.List.{get_or-map}
use Rattle.maxatom.specs.Inner.{InJobs}
use Rattle.maxatom.specs.declared.Arm.{Arm}
use Rattle.clauses.specs.Bits.{HasBlock}
use Rattle.clauses.proofs.Arms.{arm_each}
use Rattle.clauses.proofs.Passes.{each_item}
use Rattle.run.proofs.Settling.{with_bit, bit_word, bit_kept, bit_new, read_kept, read_more}
use Rattle.run.proofs.blocks.index.Goals as goal
use Rattle.run.proofs.blocks.index.Goals.{After-arm}

-- the arm's job has a word
inside : (g : _) (c : After-arm g) → c.arm.result.job < 256
inside g c =
    let jobs = each_item g.C.AsClause.clause (InJobs 256) c.args.clauses.now c.requires.in_jobs c.loop-i-test.true c.index-clauses-i.is in
    subst (λ (a : Arm). a.job < 256) (sym c.arm.ensures) (arm_each (λ (a : Arm). a.job < 256) (g.C.AsClause.clause c.index-clauses-i.result) _ jobs.arms (omega (arith, c.arm_count-j-end.ensures)))

pub bounds-readers-arm : goal.bounds-readers-arm
bounds-readers-arm g c = inside g (goal.at.bounds-readers-arm g c).After-arm

pub bounds-readers-arm-in-loop-j : goal.bounds-readers-arm-in-loop-j
bounds-readers-arm-in-loop-j g c = inside g (goal.at.bounds-readers-arm-in-loop-j g c).After-arm

pub loop-j-preserved : goal.loop-j-preserved
loop-j-preserved g c =
    let v = c.loop-j.invariant in
    let readers = c.loop-j.readers in
    let job = c.arm.result.job in
    let block = c.loop-i.i / 16 in
    let bit = 1 * 2 ^ block % 2 ^ 64 in
    let here = inside g (goal.at.loop-j-preserved g c).After-arm in
    record {
      size = length-set readers job (bit_or (get_or readers job 0) bit) ∙ v.size;
      before = read_kept v.before job bit;
      arms = below_more _ _ (λ j h. bit_kept readers job bit _ (v.arms j h))
          (subst (λ (a : Arm). HasBlock (get_or (with_bit readers job bit) a.job 0) block) c.arm.ensures (bit_new readers job bit block (omega (arith, v.size, here)) (bit_word block (omega arith))));
    }

pub loop-i-preserved : goal.loop-i-preserved
loop-i-preserved g c =
    let x = c.index-clauses-i.result in
    record {
      size = c.loop-j.invariant.size;
      before = read_more c.loop-j.invariant.before (g.C.AsClause.clause x)
          (λ d. get_or-map g.C.AsClause.clause c.args.clauses.now c.loop-i.i x d c.loop-i-test.true ∙ sym (ap g.C.AsClause.clause c.index-clauses-i.is))
          (λ j h. c.loop-j.invariant.arms j (omega (arith, c.arm_count-j-end.ensures)));
    }
