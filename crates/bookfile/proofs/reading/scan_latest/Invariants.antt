use Prim.Native.Nat.{◌-◌}
use lib.ListN.{length}
use Rattle.bookfile.proofs.Latest.{Checking}
use Rattle.bookfile.proofs.reading.scan_latest.Given as goal

abbrev pub invariant-loop-seen : goal.invariant-loop-seen
invariant-loop-seen l = Checking l.jobs l.file l.at l.seen

abbrev pub decreases-loop-seen : goal.decreases-loop-seen
decreases-loop-seen l = length l.file - l.at
