use native.Mathlib.Omega.{arith}
use Rattle.bookfile.proofs.Walks.{walked_next}
use Rattle.bookfile.proofs.reading.begin.Goals as goal

pub loop-preserved : goal.loop-preserved
loop-preserved c = rw c.next_record-at.ensures (walked_next c.loop.invariant (omega (arith, c.requires.number_in_bounds)))
