-- What `convert` prints of a file.
use Rattle.std.specs.Prelude.{Bool, true, false, List, [], ℕ}
use Rattle.derivation.specs.Refusals.{Reply, refused, answer}
use Rattle.derivation.specs.declared.Counts.{Counts}
use Rattle.bookfile.specs.declared.mark.Form.TheVariants.{Stored}
use Rattle.bookfile.specs.Replies.{file_reply}
use Rattle.report.specs.Report.{refused_line}
use Rattle.converter.specs.Converting.{converted}

-- the bytes on standard output, those on standard error, and whether the file was converted
pub record Printed : Type 0 where
  pub output : List ℕ
  pub errors : List ℕ
  pub done : Bool

-- the converted file and nothing else, or the line of the refusal and nothing else
unfoldable pub printed_of : List ℕ → Reply Counts → Printed
printed_of file (refused number place) = record { output = []; errors = refused_line number place; done = false }
printed_of file (answer counts) = record { output = converted file; errors = []; done = true }

-- what `convert` prints of a stored file
unfoldable pub printed : List ℕ → Printed
printed file = printed_of file (file_reply Stored file)
