use Prim.Native.Nat.{◌-◌}
use lib.ListN.{length}
use Rattle.bookfile.proofs.Filling.{Filled}
use Rattle.bookfile.proofs.reading.write_latest.Given as goal

abbrev pub invariant-loop-time : goal.invariant-loop-time
invariant-loop-time l = Filled l.file l.at l.latest

abbrev pub decreases-loop-time : goal.decreases-loop-time
decreases-loop-time l = length l.file - l.at
