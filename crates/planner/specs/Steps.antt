-- What taking a step requires.
use Rattle.std.specs.Prelude.{List, ◌+◌, ◌<◌, ◌^◌, ℤ, length}
use Rattle.std.specs.Int.{w32}
use Rattle.std.proofs.Common.{SFits}
use Rattle.maxatom.specs.Rule.{time_at, left_side, minutes_off}
use Rattle.maxatom.specs.Clauses.{clause_of}
use Rattle.maxatom.specs.Inner.{InJobs}
use Rattle.maxatom.specs.declared.Rule.{Rule}
use Rattle.derivation.specs.declared.Tally.{Tally}

-- the left side is a time, and the tally after the step fits its type
pub record StepRoom (r : Rule) (times : List ℤ) (tally : Tally) : Type 0 where
  pub in_jobs : InJobs (length times) (clause_of r)
  pub left_fits : SFits w32 (left_side r times)
  pub steps_fit : tally.steps + 1 < 2 ^ 64
  pub minutes_fit : tally.minutes + minutes_off (time_at times r.z) (left_side r times) < 2 ^ 64
