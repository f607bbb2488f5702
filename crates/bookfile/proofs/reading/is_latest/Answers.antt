use native.Mathlib.Omega.{arith}
use mathlib.Core.Path.{◌∙◌}
use borrow.Author.Tests.{le-leb, lt-leb}
use Prim.Native.Nat.{◌+◌, ◌-◌}
use lib.ListN.{length}
use Rattle.bookfile.specs.Reading.{latest_here}
use Rattle.bookfile.specs.declared.mark.Mark.TheVariants.{Latest}
use Rattle.derivation.specs.contracts.FaultPartialEq.TheImpl.{eq-value as fault_eq}
use Rattle.bookfile.proofs.Marks.{mark_test}
use Rattle.bookfile.proofs.reading.is_latest.Goals as goal

pub returns-then-file-at-ge2 : goal.returns-then-file-at-ge2
unfolding latest_here
returns-then-file-at-ge2 c =
    c.eq.ensures
    ∙ rw (c.try_from.ensures, c.word.ensures, le-leb (c.args.at + 2) (length c.args.file.now) (omega arith))
    (mark_test fault_eq.it _ Latest)

pub returns-else-file-at-ge2 : goal.returns-else-file-at-ge2
unfolding latest_here
returns-else-file-at-ge2 c =
    rw (lt-leb 2 (length c.args.file.now - c.args.at) c.if-file-at-ge2.false, lt-leb (c.args.at + 2) (length c.args.file.now) (omega arith))
