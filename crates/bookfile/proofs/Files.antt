-- The example files, computed from the definitions. Assumes nothing.
use mathlib.Core.Path.{refl}
use Rattle.maxatom.specs.Class.{contradiction}
use Rattle.derivation.specs.Refusals.{reply, job_outside, latest_outside}
use Rattle.bookfile.specs.Numbers.{word, long, signed}
use Rattle.bookfile.specs.Kinds.{jobs_at, decoded_latest, rule_with, minutes_at, minutes_rule, hours_at, hours_rule, among, kind_among, kind_at, size_at, decoded_rule}
use Rattle.derivation.specs.Refusals.{beyond}
use Rattle.bookfile.specs.Reading.{head_checks, latest_here, latest_record_checks, latest_record_reply, record_checks, rule_reply, before, latest_from, rules_from, after, read, end_of, reading, book_reply, minute_of, minutes_from, latest_of_file, stretch, record_of}
use Rattle.bookfile.specs.Replies.{counted, file_reply}
use Rattle.bookfile.specs.Theorems.{FileExamples}

pub file_examples : FileExamples
unfolding reply contradiction job_outside latest_outside word long signed beyond jobs_at decoded_latest rule_with minutes_at minutes_rule hours_at hours_rule among kind_among kind_at size_at decoded_rule head_checks latest_here latest_record_checks latest_record_reply record_checks rule_reply before latest_from rules_from after read end_of reading book_reply minute_of minutes_from latest_of_file stretch record_of counted file_reply
file_examples =
    record {
      counts_b = refl;
      book_b = refl;
      first_b = refl;
      counts_hour = refl;
      book_hour = refl;
      second_latest = refl;
      latest_behind = refl;
      cut_mark = refl;
      no_byte = refl;
      hours = refl;
      hours_stored = refl;
      book_hours = refl;
      impossible = refl;
      impossible_stored = refl;
    }
