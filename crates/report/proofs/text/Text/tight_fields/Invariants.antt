-- The numbers of the tight rules before the one at hand are written.
use Rattle.std.proofs.Common.{◌+◌, ◌*◌, ◌≤◌, drop}
use Rattle.report.specs.Report.{tight_fields}
use Rattle.report.proofs.Texts.{Listed}
use Rattle.report.proofs.text.Text.tight_fields.Given as goal

abbrev pub invariant-loop-i : goal.invariant-loop-i
invariant-loop-i l =
    record {
      near : l.self.end ≤ l.initial.self.end + l.i * 24;
      listed : Listed (tight_fields 0 l.rules l.times) (tight_fields l.i (drop l.i l.rules) l.times) l.initial.self l.self;
    }
