-- The replies as C sees them: three words and two times.
use Rattle.std.specs.Prelude.{Bool, true, false, ℕ, pos}
use Rattle.derivation.specs.Refusals.{Reply, refused, answer}
use Rattle.maxatom.specs.Runs.{End, planned, fell, unfinished}
use Rattle.maxatom.specs.declared.Slip.{Slip}
use Rattle.derivation.specs.Calls.{ModelCheck, satisfies, violates, Answer}
use Rattle.derivation.specs.declared.Counts.{Counts}
use Rattle.derivation.specs.declared.Refusal.{Refusal}
use Rattle.derivation.specs.Faults.{number_of}
use Rattle.bookfile.specs.declared.reading.Stretch.{Stretch}
use Rattle.marlinfray.specs.declared.Words.{Words}

-- with no slip, both times are 0
abbrev pub words : ℕ → ℕ → ℕ → Words
words kind first second = record { kind = kind; first = first; second = second; before = pos 0; after = pos 0 }

-- with a slip, its times
abbrev pub timed : ℕ → ℕ → ℕ → Slip → Words
timed kind first second slip = record { kind = kind; first = first; second = second; before = slip.before; after = slip.after }

-- a refusal is 2, its number and its place; of an answer the call says which words it is
abbrev pub reply_words : {A : Type 0} → (A → Words) → Reply A → Words
reply_words say (refused number place) = words 2 number place
reply_words say (answer a) = say a

abbrev pub refusal_words : Refusal → Words
refusal_words refusal = words 2 (number_of refusal.fault) refusal.place

-- it was done: fresh board, step back, plan writer
abbrev pub done_words : Unit {0} → Words
done_words u = words 0 0 0

-- the reader: the job count and the rule count
abbrev pub count_words : Counts → Words
count_words counts = words 0 counts.jobs counts.rules

-- the converter: the bytes written
abbrev pub length_words : ℕ → Words
length_words len = words 0 len 0

-- kept test: all rules are kept, or 1 and the first broken one
abbrev pub check_words : ModelCheck → Words
check_words satisfies = words 0 0 0
check_words (violates number) = words 1 number 0

-- tight test: whether the rule is tight
abbrev pub tight_words : Bool → Words
tight_words true = words 0 1 0
tight_words false = words 0 0 0

-- hand step: the slip's job and times
abbrev pub slip_words : Slip → Words
slip_words slip = timed 0 slip.job 0 slip

-- bench run: the steps for a plan; 1, the steps, and the job and times of the last slip for none. No run ends unfinished
abbrev pub end_words : ℕ → End → Words
end_words steps planned = words 0 steps 0
end_words steps (fell slip) = timed 1 steps slip.job slip
end_words steps unfinished = words 3 steps 0

abbrev pub run_words : Answer → Words
run_words a = end_words a.steps a.end

-- a rule's record: its first byte in the file and its length
abbrev pub place_words : Stretch → Words
place_words s = words 0 s.at s.size
