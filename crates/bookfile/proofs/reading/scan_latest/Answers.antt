use mathlib.Core.Path.{sym}
use native.Mathlib.Omega.{arith}
use Rattle.bookfile.proofs.Latest.{checking_none, checking_next, checking_all, latest_in_book, latest_in_file}
use Rattle.bookfile.proofs.reading.scan_latest.Goals as goal

pub loop-seen-init : goal.loop-seen-init
loop-seen-init c = checking_none _ _ c.requires.file_len_bound c.requires.jobs_bound

-- the record was taken, so its job is in the book, and it is in the file
pub bounds-seen-from : goal.bounds-seen-from
bounds-seen-from c = omega (arith, latest_in_book _ _ _ _ (sym c.in-Ok.ensures))

pub loop-seen-smaller : goal.loop-seen-smaller
loop-seen-smaller c = omega (arith, latest_in_file _ _ _ _ (sym c.in-Ok.ensures))

-- and the check goes on from the next
pub loop-seen-preserved : goal.loop-seen-preserved
loop-seen-preserved c =
    checking_next c.loop-seen.invariant (sym c.loop-seen-test.ensures) (sym c.in-Ok.ensures) c.loop-seen-test.array_long
    c.requires.jobs_bound c.from.ensures

pub returns-clause-said : goal.returns-clause-said
returns-clause-said c = checking_all c.loop-seen.invariant (sym c.loop-seen-test.ensures)
