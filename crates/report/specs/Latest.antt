-- What `latest` prints of a file.
use Rattle.std.specs.Prelude.{List, [], ℕ, ℤ, pos, replicate}
use Rattle.maxatom.specs.Book.{Book}
use Rattle.derivation.specs.Refusals.{Reply, refused, answer}
use Rattle.maxatom.specs.Runs.{End, planned, fell, unfinished}
use Rattle.derivation.specs.Calls.{Answer, run_reply, run_times}
use Rattle.bookfile.specs.declared.mark.Form.TheVariants.{Sent}
use Rattle.bookfile.specs.Reading.{book_of_file}
use Rattle.bookfile.specs.Replies.{file_reply}
use Rattle.derivation.specs.declared.Counts.{Counts}
use Rattle.report.specs.Report.{refused_line, plan_text, none_text}

-- a plan or none; the bench run never ends unfinished
unfoldable pub end_text : Book → List ℤ → ℕ → End → List ℕ
end_text b times steps planned = plan_text b.rules times steps
end_text b times steps (fell slip) = none_text b.jobs b.rules slip steps
end_text b times steps unfinished = []

-- the reply of the bench run, and the times that it left
unfoldable pub run_text : Book → List ℤ → Reply Answer → List ℕ
run_text b times (refused number place) = refused_line number place
run_text b times (answer a) = end_text b times a.steps a.end

unfoldable pub table_text : Book → List ℤ → List ℕ
table_text b buffer = run_text b (run_times b buffer) (run_reply b buffer)

-- the reply of the reader
unfoldable pub read_text : Book → Reply Counts → List ℕ
read_text b (refused number place) = refused_line number place
read_text b (answer counts) = table_text b (replicate b.jobs (pos 0))

-- a file
unfoldable pub report_of : List ℕ → List ℕ
report_of file = read_text (book_of_file Sent file) (file_reply Sent file)
