-- The example files converted, computed from the definitions. Assumes nothing.
use mathlib.Core.Path.{refl}
use Rattle.maxatom.specs.Class.{contradiction}
use Rattle.derivation.specs.Refusals.{reply, job_outside, latest_outside, beyond}
use Rattle.bookfile.specs.Numbers.{word, long, signed, unsigned32, bytes_of}
use Rattle.bookfile.specs.Kinds.{jobs_at, decoded_latest, rule_with, minutes_at, minutes_rule, hours_at, hours_rule, among, kind_among, kind_at, size_at, decoded_rule}
use Rattle.bookfile.specs.Reading.{head_checks, latest_here, latest_record_checks, latest_record_reply, record_checks, rule_reply, before, latest_from, rules_from, after, read, end_of, reading, book_reply}
use Rattle.bookfile.specs.Replies.{counted, file_reply}
use Rattle.bookfile.specs.Writing.{rule_record}
use Rattle.converter.specs.Converting.{converted_record, converted_records, converted, convert_reply}
use Rattle.converter.specs.Theorems.{ConvertExample}

pub convert_example : ConvertExample
unfolding reply contradiction job_outside latest_outside beyond word long signed unsigned32 bytes_of jobs_at decoded_latest rule_with minutes_at minutes_rule hours_at hours_rule among kind_among kind_at size_at decoded_rule head_checks latest_here latest_record_checks latest_record_reply record_checks rule_reply before latest_from rules_from after read end_of reading book_reply counted file_reply rule_record converted_record converted_records converted convert_reply
convert_example = record { hours = refl; length = refl; short = refl; mixed = refl; impossible = (refl, refl) }
