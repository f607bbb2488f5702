use Rattle.std.proofs.Common.{rules, arith, List, ℤ, ap}
use lib.ListN.{drop_of_length-le}
use mir.Facts.{to_z-of_z}
use mir.Syntax.{w32}
use mir.Val.{SFits}
use Rattle.maxatom.specs.Rule.{time_at}
use Rattle.solver.proofs.Boards.{head_at}
use Rattle.report.specs.Report.{job_lines}
use Rattle.report.proofs.Texts.{listed_next, listed_all}
use Rattle.report.proofs.text.Text.job_lines.Goals as goal

pub loop-i-preserved : goal.loop-i-preserved
unfolding job_lines
loop-i-preserved c =
    let v = c.loop-i.invariant in
    let i = c.loop-i.i in
    let times = c.args.times.now in
    let f : SFits w32 (time_at times i) = search rules in
    record {
      near = omega arith;
      listed = listed_next (ap (λ (t : List ℤ). job_lines i t) (head_at times i (omega arith))) v.listed (rw (to_z-of_z f) at c.job_line.ensures.written);
    }

pub returns-clause-written : goal.returns-clause-written
unfolding job_lines
returns-clause-written c =
    let i = c.loop-i.i in
    listed_all (ap (λ (t : List ℤ). job_lines i t) (drop_of_length-le c.args.times.now (omega arith))) c.loop-i.invariant.listed
