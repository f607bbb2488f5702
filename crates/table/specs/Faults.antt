-- What is said of one rule of a table, and of one latest time.
use Rattle.std.specs.Prelude.{cond, ℕ, ℤ, Result, Ok, Err, ⊤}
use Rattle.maxatom.specs.Class.{contradiction}
use Rattle.maxatom.specs.declared.Rule.{Rule}
use Rattle.derivation.specs.Refusals.{job_outside, offset_outside, latest_outside}
use Rattle.derivation.specs.declared.Fault.{Fault}
use Rattle.derivation.specs.declared.Fault.TheVariants.{JobNumber, Offset, LatestTime, ImpossibleRule}

-- what is said of a rule's numbers, and `rest` where they are within their bounds: a job number that is not below the job count comes
-- before an offset outside its bounds
unfoldable pub bounds_then : ℕ → Rule → Result ⊤ Fault → Result ⊤ Fault
bounds_then jobs r rest = cond (job_outside jobs r) (Err JobNumber) (cond (offset_outside r) (Err Offset) rest)

-- of a rule's numbers alone
abbrev pub bounds_fault : ℕ → Rule → Result ⊤ Fault
bounds_fault jobs r = bounds_then jobs r (Ok tt)

-- of a rule of a table: its numbers come before its class
abbrev pub rule_fault : ℕ → Rule → Result ⊤ Fault
rule_fault jobs r = bounds_then jobs r (cond (contradiction r) (Err ImpossibleRule) (Ok tt))

-- a latest time outside its bounds
unfoldable pub time_fault : ℤ → Result ⊤ Fault
time_fault t = cond (latest_outside t) (Err LatestTime) (Ok tt)
