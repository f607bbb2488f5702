use Rattle.std.proofs.Common.{arith, refl}
use Rattle.std.proofs.KnownBytes.{Appends-nil}
use Rattle.report.proofs.Texts.{written_take}
use Rattle.convert.proofs.Printing.{printed_refused, printed_answered}
use Rattle.convert.proofs.print_converted.Goals as goal

pub returns-in_ok-write_all-in-Ok : goal.returns-in_ok-write_all-in-Ok
returns-in_ok-write_all-in-Ok g c =
    rw (printed_answered c.args.file.now c.in-Ok.ensures.said _ refl c.in-Ok.ensures.left)
    (record {
      output = c.in_ok-write_all-in-Ok.ensures.bytes;
      errors = Appends-nil (g.E.Write.contents c.args.errors.now);
      done = refl;
    })

pub returns-in_ok-write_all-in-Err : goal.returns-in_ok-write_all-in-Err
returns-in_ok-write_all-in-Err g c =
    let bound = c.refused_line-end.ensures.upper_bound in
    let part = written_take c.refused_line-end.ensures.written (omega (arith, bound)) in
    rw (printed_refused c.args.file.now c.in-Err.ensures.said)
    (record {
      output = Appends-nil (g.W.Write.contents c.args.output.now);
      errors = rw part at c.in_ok-write_all-in-Err.ensures.bytes;
      done = refl;
    })
