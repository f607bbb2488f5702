-- What is true of converting.
use Rattle.std.specs.Prelude.{◌≡◌, false, List, [], ◌∷◌, ◌++◌, map, ℕ, ◌≤◌, eqb, length, take}
use Rattle.maxatom.specs.Book.{Each}
use Rattle.derivation.specs.Refusals.{refused, answer, Check, reply, impossible_check}
use Rattle.derivation.specs.Run.{solve}
use Rattle.derivation.specs.Demand1.{Refusing}
use Rattle.derivation.specs.declared.Counts.{Counts}
use Rattle.bookfile.specs.declared.mark.Form.TheVariants.{Sent, Stored}
use Rattle.bookfile.specs.Numbers.{word}
use Rattle.bookfile.specs.Kinds.{HR}
use Rattle.bookfile.specs.Reading.{Placed, entries, book_of_file}
use Rattle.bookfile.specs.Replies.{file_reply}
use Rattle.bookfile.specs.Theorems.{file_numbers, file_checks, file_hours, file_d}
use Rattle.converter.specs.Converting.{converted, output_checks, convert_reply, convert_out}

-- demand 1: the refusals of a stored file, then 21, each said when its condition is the first to hold; and a refusal changes nothing that
-- was lent
abbrev pub ConverterDemand1 : Type 0
ConverterDemand1 =
    (file out : List ℕ) →
    Refusing (file_numbers Stored ++ 21 ∷ []) (file_checks Stored file ++ output_checks file (length out))
    (convert_reply file (length out)) out (convert_out file out)

-- a rule's record has its offset in minutes
abbrev pub Minutes : List ℕ → Placed → Type 0
Minutes file e = eqb (word file e.at) HR.mark ≡ false

-- a file whose rules have their offsets in minutes, all of them
abbrev pub InMinutes : List ℕ → Type 0
InMinutes file = Each (Minutes file) (entries Stored file)

-- whether the rules that were read are impossible, each with 10 and the byte of its record
abbrev pub impossible_checks : List Placed → List Check
impossible_checks es = map (λ (e : Placed). impossible_check e.rule e.at) es

-- What the reader reads of a converted file is what the file holds:
pub record ReadAgain (file : List ℕ) : Type 0 where
  -- the book, which is the job count, the latest times, and the rules, rule for rule;
  pub book : book_of_file Sent (converted file) ≡ book_of_file Stored file
  -- so the bench run says what it says of the file's book: plan or none, and the step count.
  pub run : solve (book_of_file Sent (converted file)) ≡ solve (book_of_file Stored file)

-- a stored file that is not refused, with its counts, converted
pub record Converts (file : List ℕ) (counts : Counts) : Type 0 where
  -- it is taken by the converter again, with the job count and the rule count of the file,
  pub said : file_reply Stored (converted file) ≡ answer counts
  -- and has the file's book: job count, latest times, and rules, rule for rule
  pub book : book_of_file Stored (converted file) ≡ book_of_file Stored file
  -- the reader refuses it for an impossible rule alone, with 10 and the byte of the first one's record,
  pub sent : file_reply Sent (converted file) ≡ reply (impossible_checks (entries Stored (converted file))) counts
  -- and where it takes it, reads what the file holds
  pub again : (c : Counts) → file_reply Sent (converted file) ≡ answer c → ReadAgain file
  -- no rule of it has its offset in hours
  pub minutes : InMinutes (converted file)
  -- a file without hours is converted to itself,
  pub itself : InMinutes file → converted file ≡ file
  -- and so is a converted one: converting twice changes nothing more
  pub twice : converted (converted file) ≡ converted file

abbrev pub Converting : Type 0
Converting = (file : List ℕ) (counts : Counts) → file_reply Stored file ≡ answer counts → Converts file counts

-- a file that the reader takes, the converter takes too, and converts to itself
abbrev pub SentConverts : Type 0
SentConverts =
    (file : List ℕ) (counts : Counts) → file_reply Sent file ≡ answer counts →
    (file_reply Stored file ≡ answer counts) × (converted file ≡ file)

-- the first 16,384 bytes of a file decide what the converter says and writes
abbrev pub ConvertsFirst : Type 0
ConvertsFirst =
    (file out : List ℕ) →
    (convert_reply (take 16384 file) (length out) ≡ convert_reply file (length out))
    × (convert_out (take 16384 file) out ≡ convert_out file out)

-- and 16,384 bytes hold any converted file
abbrev pub ConvertedFits : Type 0
ConvertedFits = (file : List ℕ) (counts : Counts) → file_reply Stored file ≡ answer counts → length (converted file) ≤ 16384

-- two jobs, of which the second has a latest time, an hour before zero; and three rules, of which the first and the last are in hours
abbrev pub file_mixed : List ℕ
file_mixed =
    66 ∷ 75 ∷ 2 ∷ 0
    ∷ 67 ∷ 69 ∷ 1 ∷ 0 ∷ 196 ∷ 255 ∷ 255 ∷ 255
    ∷ 72 ∷ 82 ∷ 0 ∷ 0 ∷ 0 ∷ 0 ∷ 1 ∷ 0 ∷ 255 ∷ 255
    ∷ 82 ∷ 85 ∷ 0 ∷ 0 ∷ 1 ∷ 0 ∷ 0 ∷ 0 ∷ 255 ∷ 255 ∷ 255 ∷ 255
    ∷ 72 ∷ 82 ∷ 1 ∷ 0 ∷ 1 ∷ 0 ∷ 0 ∷ 0 ∷ 2 ∷ 0
    ∷ []

-- The converted file of `file_hours`, whose one rule has an offset of −60 minutes; of `file_mixed`, whose other records are as they were; and
-- of example D, which has no hours, and whose impossible rule the reader refuses.
pub record ConvertExample : Type 0 where
  pub hours : converted file_hours ≡ 66 ∷ 75 ∷ 2 ∷ 0 ∷ 82 ∷ 85 ∷ 0 ∷ 0 ∷ 0 ∷ 0 ∷ 1 ∷ 0 ∷ 196 ∷ 255 ∷ 255 ∷ 255 ∷ []
  pub length : convert_reply file_hours 16 ≡ answer 16
  pub short : convert_reply file_hours 15 ≡ refused 21 0
  pub mixed : converted file_mixed
      ≡ 66 ∷ 75 ∷ 2 ∷ 0
      ∷ 67 ∷ 69 ∷ 1 ∷ 0 ∷ 196 ∷ 255 ∷ 255 ∷ 255
      ∷ 82 ∷ 85 ∷ 0 ∷ 0 ∷ 0 ∷ 0 ∷ 1 ∷ 0 ∷ 196 ∷ 255 ∷ 255 ∷ 255
      ∷ 82 ∷ 85 ∷ 0 ∷ 0 ∷ 1 ∷ 0 ∷ 0 ∷ 0 ∷ 255 ∷ 255 ∷ 255 ∷ 255
      ∷ 82 ∷ 85 ∷ 1 ∷ 0 ∷ 1 ∷ 0 ∷ 0 ∷ 0 ∷ 120 ∷ 0 ∷ 0 ∷ 0
      ∷ []
  pub impossible : (converted file_d ≡ file_d) × (file_reply Sent (converted file_d) ≡ refused 10 4)
