use mathlib.Core.Path.{sym}
use native.Mathlib.Omega.{arith}
use Rattle.bookfile.proofs.Records.{size_bounds}
use Rattle.bookfile.proofs.Rules.{scanned_next}
use Rattle.bookfile.proofs.reading.scan.Goals as goal

-- the record was taken, so it is in the file
pub next_record-at-requires : goal.next_record-at-requires
next_record-at-requires c = (scanned_next c.loop-at.invariant c.loop-at-test.true (sym c.in_default.ensures)).low

pub loop-at-smaller : goal.loop-at-smaller
loop-at-smaller c =
    let went = scanned_next c.loop-at.invariant c.loop-at-test.true (sym c.in_default.ensures) in
    omega (arith, c.next_record-at.ensures, size_bounds c.args.file.now c.loop-at.at, went.low)

-- and the count goes on from the next
pub loop-at-preserved : goal.loop-at-preserved
loop-at-preserved c = rw c.next_record-at.ensures (scanned_next c.loop-at.invariant c.loop-at-test.true (sym c.in_default.ensures))
