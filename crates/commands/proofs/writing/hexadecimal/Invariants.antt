-- The digits of the bytes before the one at hand are written.
use Rattle.std.proofs.Common.{◌+◌, ◌*◌, ◌≤◌, drop}
use Rattle.report.proofs.Texts.{Listed}
use Rattle.commands.specs.Answers.{hexadecimal}
use Rattle.commands.proofs.writing.hexadecimal.Given as goal

abbrev pub invariant-loop-b : goal.invariant-loop-b
invariant-loop-b l =
    record {
      near : l.text.end ≤ l.initial.text.end + l.b-index * 2;
      listed : Listed (hexadecimal l.bytes) (hexadecimal (drop l.b-index l.bytes)) l.initial.text l.text;
    }
