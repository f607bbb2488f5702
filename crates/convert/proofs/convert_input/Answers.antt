use Rattle.std.proofs.Common.{◌≡◌}
use Rattle.std.specs.Io.KnownBytes.{Appends}
use Rattle.convert.proofs.Printing.{of_input}
use Rattle.convert.proofs.convert_input.Goals as goal

pub returns : goal.returns
returns g c =
    let input = g.R.Read.remaining c.args.input.now in
    let buffer = c.read_full.new.buf in
    let size = c.read_full.auto.buf in
    let read = c.in_ok-got.ensures.bytes in
    let said = c.print_converted.ensures in
    record {
      output = of_input (λ done is. Appends (g.W.Write.contents c.args.output.now) (g.W.Write.contents c.print_converted.new.output) is.output)
          c.print_converted.result input c.in_ok-got.got buffer size read said.output;
      errors = of_input (λ done is. Appends (g.E.Write.contents c.args.errors.now) (g.E.Write.contents c.print_converted.new.errors) is.errors)
          c.print_converted.result input c.in_ok-got.got buffer size read said.errors;
      done = of_input (λ done is. done ≡ is.done) c.print_converted.result input c.in_ok-got.got buffer size read said.done;
    }
