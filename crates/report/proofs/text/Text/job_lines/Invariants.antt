-- The lines of the jobs before the one at hand are written.
use Rattle.std.proofs.Common.{◌+◌, ◌*◌, ◌≤◌, drop}
use Rattle.report.specs.Report.{job_lines}
use Rattle.report.proofs.Texts.{Listed}
use Rattle.report.proofs.text.Text.job_lines.Given as goal

abbrev pub invariant-loop-i : goal.invariant-loop-i
invariant-loop-i l =
    record {
      near : l.self.end ≤ l.initial.self.end + l.i * 80;
      listed : Listed (job_lines 0 l.times) (job_lines l.i (drop l.i l.times)) l.initial.self l.self;
    }
