-- The bytes before the one at hand are no blanks.
use Rattle.std.proofs.Common.{◌≡◌, ◌+◌, drop}
use Rattle.commands.specs.Reading.{blank}
use Rattle.commands.proofs.reading.blank.Given as goal

abbrev pub invariant-loop-i : goal.invariant-loop-i
invariant-loop-i l = blank l.text ≡ l.i + blank (drop l.i l.text)
