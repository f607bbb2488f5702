use Prim.Native.Nat.{◌-◌}
use lib.ListN.{length}
use Rattle.bookfile.proofs.Rules.{Scanned}
use Rattle.bookfile.proofs.reading.scan.Given as goal

abbrev pub invariant-loop-at : goal.invariant-loop-at
invariant-loop-at l = Scanned l.form l.jobs l.file l.begin l.at l.rules

abbrev pub decreases-loop-at : goal.decreases-loop-at
decreases-loop-at l = length l.file - l.at
