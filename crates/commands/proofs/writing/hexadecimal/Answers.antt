use Rattle.std.proofs.Common.{arith, ◌≡◌, ◌∷◌, ◌+◌, ap, drop, add-one, slice_index_or}
use lib.ListN.{drop_of_length-le}
use lib.Seq.{drop-cons}
use Rattle.report.proofs.Texts.{listed_next, listed_all}
use Rattle.commands.specs.Answers.{hexadecimal}
use Rattle.commands.proofs.writing.hexadecimal.Goals as goal

pub loop-b-preserved : goal.loop-b-preserved
unfolding hexadecimal
loop-b-preserved c =
    let bytes = c.args.bytes.now in
    let i = c.loop-b.b-index in
    let v = c.loop-b.invariant in
    let head : drop i bytes ≡ slice_index_or bytes i 0 ∷ drop (i + 1) bytes = let inside = c.loop-b-test.true in rw (add-one, drop-cons bytes i 0) in
    record {
      near = omega (arith, c.word.ensures.written.written.to);
      listed = listed_next (ap hexadecimal head) v.listed (rw (c.hex_digit.ensures, c.hex_digit-in-loop-b.ensures) at c.word.ensures.written);
    }

pub returns-clause-written : goal.returns-clause-written
unfolding hexadecimal
returns-clause-written c =
    listed_all (ap hexadecimal (drop_of_length-le c.args.bytes.now (omega arith))) c.loop-b.invariant.listed
