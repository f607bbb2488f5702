-- The bytes before the one at hand are digits, and their number is small enough.
use Rattle.std.proofs.Common.{◌≡◌, ◌≤◌, drop}
use Rattle.commands.specs.Reading.{value_of, number}
use Rattle.commands.proofs.reading.number.Given as goal

abbrev pub invariant-loop-b : goal.invariant-loop-b
invariant-loop-b l =
    record {
      small : l.value ≤ l.most;
      same : value_of l.most l.value (drop l.b-index l.text) ≡ number l.most l.text;
    }
