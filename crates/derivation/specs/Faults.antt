-- The number of each refusal, as the two lists of refusals have it.
use Rattle.std.specs.Prelude.{ℕ}
use Rattle.derivation.specs.declared.Fault.{Fault}
use Rattle.derivation.specs.declared.Fault.TheVariants.{FileEnds, UnknownMark, RecordPlace, JobCount, RuleCount, JobNumber, Offset, LatestTime, SecondLatest, ImpossibleRule, Length, IllegalBoard, TallyDiffers, NoSuchRule, ShowsNone, Satisfied, NoSuchJob, SlipDiffers, TallyShort}
use Rattle.derivation.specs.declared.Refusal.{Refusal}

abbrev pub number_of : Fault → ℕ
number_of FileEnds = 1
number_of UnknownMark = 2
number_of RecordPlace = 3
number_of JobCount = 4
number_of RuleCount = 5
number_of JobNumber = 6
number_of Offset = 7
number_of LatestTime = 8
number_of SecondLatest = 9
number_of ImpossibleRule = 10
number_of Length = 21
number_of IllegalBoard = 22
number_of TallyDiffers = 23
number_of NoSuchRule = 24
number_of ShowsNone = 25
number_of Satisfied = 26
number_of NoSuchJob = 27
number_of SlipDiffers = 28
number_of TallyShort = 29

-- a refusal whose place is 0
abbrev pub refusal_for : Fault → Refusal
refusal_for fault = record { fault = fault; place = 0 }
